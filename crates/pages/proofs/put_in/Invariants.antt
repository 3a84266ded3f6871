use Rattle.std.proofs.Common.{◌≡◌, ℕ, ◌<◌, ◌≤◌, get_or, None, unwrap_or}
use Rattle.pages.proofs.put_in.Given as goal

abbrev pub invariant-loop-place : goal.invariant-loop-place
invariant-loop-place l =
    ((k : ℕ) → k < l.place → get_or l.part k 0 ≡ unwrap_or (get_or l.changes k None) (get_or l.initial.part k 0)) ×
    ((k : ℕ) → l.place ≤ k → get_or l.part k 0 ≡ get_or l.initial.part k 0)
