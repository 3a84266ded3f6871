use Rattle.std.proofs.Common.{ℕ, Result, drop}
use Rattle.basics.specs.declared.Refusal.{Refusal}
use Rattle.trace_text.specs.Text.{TextReading}
use Rattle.judging.specs.Fed.{limited}
use Rattle.judging.specs.Judges.{Reads}
use Rattle.judging.proofs.Pieces.{SoFar}
use Rattle.judging.proofs.judge.Judge.each.Given as goal

abbrev pub invariant-loop-c : goal.invariant-loop-c
invariant-loop-c g l =
    (step : TextReading → ℕ → Result TextReading Refusal) → Reads (λ before c got left. goal.F-post g l.read before c got left) step
    → SoFar (λ t c. limited (step t c)) l.initial.self l.self (drop l.c-index l.piece) l.piece
