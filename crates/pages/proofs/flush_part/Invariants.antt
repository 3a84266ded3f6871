use Rattle.pages.proofs.Collecting.{Collected}
use Rattle.pages.proofs.flush_part.Given as goal

abbrev pub invariant-loop-place : goal.invariant-loop-place
invariant-loop-place l = Collected l.copy l.initial.twin l.twin l.changes l.count l.place
