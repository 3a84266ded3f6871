use Rattle.wire.proofs.Changes.{Taken}
use Rattle.wire.proofs.read.changes_of.Given as goal

abbrev pub invariant-loop-change : goal.invariant-loop-change
invariant-loop-change l = Taken l.bytes l.next l.change-index l.changes
