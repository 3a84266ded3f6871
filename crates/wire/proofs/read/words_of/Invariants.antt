use Rattle.std.proofs.Common.{◌≡◌, ℕ, ◌<◌, [], length, get_or}
use Rattle.basics.specs.Numbers.{u32_at}
use Rattle.wire.proofs.read.words_of.Given as goal

abbrev pub invariant-loop-place : goal.invariant-loop-place
invariant-loop-place l = (length l.words ≡ 64) × ((k : ℕ) → k < l.place → get_or l.words k 0 ≡ u32_at (get_or l.read k []) 0)
