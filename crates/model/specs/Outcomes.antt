-- What every call and message at a station comes to: refused or not, a value, what is sent, what happened, and the state afterwards. Assumes nothing.
use Rattle.std.specs.Prelude.{ℕ, Bool, cond, List, [], ◌∷◌, Some, None, Option}
use Rattle.basics.specs.declared.Refusal.{Refusal}
use Rattle.trace.specs.declared.Event.{Event}
use Rattle.model.specs.declared.Message.{Message}

pub record Outcome (S : Type 0) : Type 0 where
  pub refusal : Option Refusal
  pub value : Option ℕ
  pub sent : List Message
  pub events : List Event
  pub after : S

abbrev pub done : {S : Type 0} → List Message → S → Outcome S
done ms s = record { refusal = None; value = None; sent = ms; events = []; after = s }

-- done, and it is an event of the trace
abbrev pub happened : {S : Type 0} → Event → List Message → S → Outcome S
happened e ms s = record { refusal = None; value = None; sent = ms; events = e ∷ []; after = s }

-- done, and it gives a value
abbrev pub gave : {S : Type 0} → ℕ → Event → S → Outcome S
gave v e s = record { refusal = None; value = Some v; sent = []; events = e ∷ []; after = s }

-- A refusal leaves the state as it was. What is answered all the same is sent.
abbrev pub refused : {S : Type 0} → Refusal → List Message → S → Outcome S
refused why ms s = record { refusal = Some why; value = None; sent = ms; events = []; after = s }

-- A row of a table of refusals: refused by this where the test holds.
pub record Row : Type 0 where
  pub applies : Bool
  pub why : Refusal

-- The first row that applies refuses; if none does, it is done.
abbrev pub unless : {S : Type 0} → List Row → S → Outcome S → Outcome S
unless [] s r = r
unless (row ∷ rows) s r = cond row.applies (refused row.why [] s) (unless rows s r)
