-- What holds of the message that is read, if one is. Assumes nothing.
use Rattle.std.proofs.Common.{◌≡◌, Bool, true, false, cond, Ok, Err, Result}
use Rattle.std.proofs.lemmas.Bool.{cond_both}
use Rattle.model.specs.declared.Message.{Message}
use Rattle.basics.specs.declared.Refusal.{Refusal}

abbrev pub OfRead : (Message → Type 0) → Result Message Refusal → Type 0
OfRead P (Ok m) = P m
OfRead P (Err why) = Unit {0}

pub record IfRead (P : Message → Type 0) (r : Result Message Refusal) : Type 0 where
  pub holds : OfRead P r

pub either_read :
    {P : Message → Type 0} (b : Bool) {x y : Result Message Refusal} → (b ≡ true → IfRead P x) → (b ≡ false → IfRead P y) → IfRead P (cond b x y)
either_read {P = P} b x y = cond_both b _ _ (IfRead P) x y
