-- What every message and call is answered with: refused or not, what is sent, and the state afterwards. Assumes nothing.
use Rattle.std.specs.Prelude.{List, Some, None, Option}
use Rattle.model.specs.declared.Message.{Message}
use Rattle.basics.specs.declared.Refusal.{Refusal}

pub record Reply (S : Type 0) : Type 0 where
  pub refusal : Option Refusal
  pub sent : List Message
  pub after : S

abbrev pub done : {S : Type 0} → List Message → S → Reply S
done ms s = record { refusal = None; sent = ms; after = s }

-- A refusal leaves the state as it was. What is answered all the same is sent.
abbrev pub refused : {S : Type 0} → Refusal → List Message → S → Reply S
refused why ms s = record { refusal = Some why; sent = ms; after = s }
