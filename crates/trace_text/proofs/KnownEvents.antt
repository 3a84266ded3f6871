-- What is read as an event names what is there. Assumes nothing.
use Rattle.std.proofs.Common.{◌≡◌, ℕ, true, List, Some, Ok, arith}
use Rattle.std.proofs.lemmas.Bool.Decides.{nat_tests}
use Rattle.trace.specs.declared.Event.{Event}
use Rattle.trace.specs.Bytes.{event_with}
use Rattle.trace.specs.Events.{is_known}

pub event_known : (part : List ℕ) (b : ℕ) (e : Event) → event_with part b ≡ Ok (Some e) → is_known e ≡ true
event_known part b e h = grind (arith, nat_tests)
