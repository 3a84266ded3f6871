use Rattle.race_check.specs.Checks.{check_of}
use Rattle.race_check.proofs.Wholes.{FedTo}
use Rattle.race_check.proofs.whole.fed_all.Given as goal

abbrev pub invariant-loop-event : goal.invariant-loop-event
invariant-loop-event l = FedTo (check_of l.check) l.events l.event-index
