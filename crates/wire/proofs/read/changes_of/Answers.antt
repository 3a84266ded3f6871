use Rattle.std.proofs.Common.{inl, inr, arith}
use Rattle.wire.proofs.Changes.{at_first, ended, turned_away, one_more}
use Rattle.wire.proofs.read.changes_of.Goals as goal
use Rattle.wire.proofs.read.changes_of.Goals.{then-place-next-via-then-place-next, then-place-next-via-else-place-next+then-place-ge-PAGE_WORDS}

pub loop-change-init : goal.loop-change-init
loop-change-init c = at_first c.args.bytes.now c.requires.whole

pub loop-change-preserved : goal.loop-change-preserved
loop-change-preserved c =
    let read = c.as_chunks.ensures in
    one_more c.args.bytes.now _ _ _ c.loop-change.invariant _ read.front read.front_len c.loop-change-test.true _ (omega arith) c.if-place-next.false c.if-place-ge-PAGE_WORDS.false

pub returns-then-place-next : goal.returns-then-place-next
returns-then-place-next c =
    let read = c.as_chunks.ensures in
    turned_away c.args.bytes.now _ _ _ c.loop-change.invariant _ read.front read.front_len c.loop-change-test.true
    (elim c.then-place-next.branch [
      | then-place-next-via-then-place-next w ↦ inl w.if-place-next.true
      | then-place-next-via-else-place-next+then-place-ge-PAGE_WORDS w ↦ inr w.if-place-ge-PAGE_WORDS.true
    ])

pub returns : goal.returns
returns c = ended c.args.bytes.now _ _ _ c.loop-change.invariant (omega arith)
