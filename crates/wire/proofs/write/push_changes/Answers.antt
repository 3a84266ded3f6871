use Rattle.std.proofs.Common.{vec_items, ap, ◌∙◌, arith}
use Rattle.wire.proofs.Written.{some_more, none_more, changes_all}
use Rattle.wire.proofs.write.push_changes.Goals as goal
use Rattle.wire.proofs.write.push_changes.Goals.{in-Some+in_ok-extend_from_slice, in_default}

pub loop-place-preserved : goal.loop-place-preserved
loop-place-preserved c =
    let k = c.loop-place in
    elim c.match-change.branch [
      | in-Some+in_ok-extend_from_slice w ↦
          some_more c.args.changes.now k.place _ _ k.invariant _ _ _ (omega arith) w.in-Some.is w.change_bytes.ensures (ap vec_items w.out-is ∙ w.in_ok-extend_from_slice.ensures.items)
      | in_default w ↦
          none_more c.args.changes.now k.place _ _ k.invariant _ (omega arith) w.in_default.not-Some (ap vec_items w.out-is)
    ]

pub returns : goal.returns
returns c =
    let k = c.loop-place in
    changes_all c.args.changes.now k.place _ _ k.invariant (omega arith)
