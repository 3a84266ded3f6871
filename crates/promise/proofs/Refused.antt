-- A refused message leaves the home as it was. Assumes nothing.
use Rattle.std.proofs.Common.{◌≡◌, Some, Ok, Err, Result, refl, arith}
use Rattle.model.specs.declared.Message.{Message}
use Rattle.model.specs.declared.Message.TheVariants.{Diff, LockRequest, LockReleased}
use Rattle.basics.specs.declared.Refusal.{Refusal}
use Rattle.model.specs.Bytes.{parse}
use Rattle.model.specs.Home.{HomeState, hears, hears_read}
use Rattle.model.specs.Replies.{Reply}
use Rattle.promise.specs.Home.{RefusedKeeps}

-- if the reply refuses, the state is this one
abbrev Stays : {S : Type 0} → S → Reply S → Type 0
Stays s r = (why : Refusal) → r.refusal ≡ Some why → r.after ≡ s

hears_stays : (h : HomeState) (m : Message) → Stays h (hears h m)
hears_stays h (Diff s n p cs) why e = grind arith
hears_stays h (LockRequest s l n) why e = grind arith
hears_stays h (LockReleased s l n) why e = grind arith
hears_stays h m why e = refl

read_stays : (h : HomeState) (r : Result Message Refusal) → Stays h (hears_read h r)
read_stays h (Ok m) why e = hears_stays h m why e
read_stays h (Err v) why e = refl

pub refused_keeps : RefusedKeeps
refused_keeps h bytes = read_stays h (parse bytes)
