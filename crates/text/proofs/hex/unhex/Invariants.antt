use Rattle.std.proofs.Common.{◌+◌, ◌-◌, ◌≤◌, length, drop, vec_items, vec_len, vec_capacity}
use Rattle.text.proofs.HexSteps.{Reads}
use Rattle.text.proofs.hex.unhex.Given as goal

abbrev pub invariant-loop-high : goal.invariant-loop-high
invariant-loop-high l = Reads l.digits (vec_items l.bytes) (drop l.high-index l.pairs) × (vec_len l.bytes + (length l.pairs - l.high-index) ≤ vec_capacity l.bytes)
