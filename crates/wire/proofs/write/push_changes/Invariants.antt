use Rattle.std.proofs.Common.{◌≡◌, ◌++◌, drop, vec_items}
use Rattle.model.specs.Bytes.{change_bytes}
use Rattle.wire.proofs.write.push_changes.Given as goal

abbrev pub invariant-loop-place : goal.invariant-loop-place
invariant-loop-place l =
    vec_items l.out ++ change_bytes l.place (drop l.place l.changes) ≡ vec_items l.initial.out ++ change_bytes 0 l.changes
