use Rattle.std.proofs.Common.{◌≡◌, ◌∙◌, arith}
use Rattle.pages.proofs.Collecting.{none_collected, few_collected, one_collected, on_collected, all_changes, all_counted, all_same}
use Rattle.pages.proofs.flush_part.Goals as goal
use Rattle.pages.proofs.flush_part.Goals.{then-word-twin, else-word-twin}

pub loop-place-init : goal.loop-place-init
loop-place-init c = none_collected c.args.copy.now c.args.twin.now

pub overflow_add-count : goal.overflow_add-count
overflow_add-count c = omega (arith, few_collected c.loop-place.invariant)

pub loop-place-preserved : goal.loop-place-preserved
loop-place-preserved c =
    let k = c.loop-place in
    elim c.if-word-twin.branch [
      | then-word-twin w ↦ simp (w.twin-is, w.changes-is, w.count-is) (one_collected k.invariant w.if-word-twin.true (omega (arith, k.auto.twin, c.requires.twinned)) (omega arith))
      | else-word-twin w ↦ simp (w.twin-is, w.changes-is, w.count-is) (on_collected k.invariant w.if-word-twin.false)
    ]

pub returns : goal.returns
returns c =
    let k = c.loop-place in
    let end : k.place ≡ 64 = omega arith in
    record {
      diff = rw (all_changes k.invariant end, all_counted k.invariant end);
      after = all_same k.invariant end (k.auto.twin ∙ c.requires.twinned) c.requires.copied;
    }
