use Rattle.std.proofs.Common.{◌≡◌, ◌+◌, ◌-◌, ◌*◌, ◌≤◌, ◌++◌, length, drop, vec_items, vec_len, vec_capacity}
use Rattle.text.specs.Hex.{hex_of}
use Rattle.text.proofs.hex.push_hex.Given as goal

abbrev pub invariant-loop-byte : goal.invariant-loop-byte
invariant-loop-byte l =
    (vec_items l.out ++ hex_of (drop l.byte-index l.bytes) ≡ vec_items l.initial.out ++ hex_of l.bytes)
    × (vec_len l.out + 2 * (length l.bytes - l.byte-index) ≤ vec_capacity l.out)
