-- A refusal by a station changes nothing, and while it waits calls are refused. Assumes nothing.
use Rattle.std.proofs.Common.{◌≡◌, ℕ, true, [], Some, None, Ok, Err, Option, Result, refl}
use Rattle.std.proofs.lemmas.Bool.{both_ways}
use Rattle.basics.specs.declared.Refusal.{Refusal}
use Rattle.model.specs.declared.Message.{Message}
use Rattle.model.specs.declared.Message.TheVariants.{LockGranted}
use Rattle.model.specs.declared.Call.{Call}
use Rattle.model.specs.declared.Call.TheVariants.{Tell, Free}
use Rattle.model.specs.declared.Awaited.TheVariants.{Lock}
use Rattle.model.specs.declared.Holding.{Holding}
use Rattle.model.specs.declared.Holding.TheVariants.{Held}
use Rattle.model.specs.Bytes.{parse}
use Rattle.model.specs.Outcomes.{refused}
use Rattle.model.specs.Station.{StationState, Calls, Comes, is_waiting, call_refusals, message_refusals, frees, does, calls, takes_in, station_reads}
use Rattle.promise.specs.Station.{StationRefusedKeeps, WaitingHolds}
use Rattle.promise.proofs.Rows.{NoneApply, unless_keeps, none_apply}

frees_done : (s : StationState) (l : ℕ) (h : Option Holding) → (frees s l h).refusal ≡ None
frees_done s l (Some (Held n)) = refl
frees_done s l h = refl

-- what is done is no refusal
pub does_done : (s : StationState) (c : Call) → (does s c).refusal ≡ None
does_done s (Free l) = frees_done s l (s.locks l)
does_done s c = refl

pub takes_done : (s : StationState) (m : Message) → (takes_in s m).refusal ≡ None
takes_done s (LockGranted t l n) = refl
takes_done s m = refl

reads_keeps :
    (s : StationState) (r : Result Message Refusal) (why : Refusal) → (station_reads s r).refusal ≡ Some why → station_reads s r ≡ refused why [] s
reads_keeps s (Ok m) why e = unless_keeps (message_refusals s m) s (takes_in s m) (takes_done s m) why e
reads_keeps s (Err v) why e = let f : v ≡ why = cc in rw f

pub station_refused_keeps : StationRefusedKeeps
station_refused_keeps s (Calls c) why e = unless_keeps (call_refusals s c) s (does s c) (does_done s c) why e
station_refused_keeps s (Comes bytes) why e = reads_keeps s (parse bytes) why e

-- a call that is not refused has no row that applies
call_free : (s : StationState) (c : Call) → (calls s c).refusal ≡ None → NoneApply (call_refusals s c)
call_free s c = none_apply (call_refusals s c) s (does s c)

-- no call but tell is done while it waits
waits_tell : (s : StationState) (c : Call) → is_waiting s.head.awaits ≡ true → NoneApply (call_refusals s c) → (q : ℕ) × (c ≡ Tell q)
waits_tell s (Tell p) waits none = (p, refl)
waits_tell s c waits none = absurd (both_ways _ none.1.0 waits)

-- and not even tell while it waits for a lock
lock_none : (s : StationState) (l n : ℕ) (c : Call) → s.head.awaits ≡ Some (Lock l n) → NoneApply (call_refusals s c) → ⊥
lock_none s l n c e none =
    let t = waits_tell s c (rw e) none in
    let f = rw t.1 at none in
    both_ways _ f.1.0 (rw e)

pub waiting_holds : WaitingHolds
waiting_holds s = record { page = λ p n c e none. waits_tell s c (rw e) (call_free s c none); lock = λ l n c e none. lock_none s l n c e (call_free s c none) }
