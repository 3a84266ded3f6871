use Rattle.std.proofs.Common.{vec_items, sym, ap, ◌∙◌, is_some, arith}
use Rattle.text.specs.Hex.{bytes_from}
use Rattle.text.proofs.HexSteps.{none_where_not, reads_none, reads_some, reads_more, reads_all}
use Rattle.text.proofs.hex.unhex.Goals as goal

pub returns-then-not-is_hex : goal.returns-then-not-is_hex
returns-then-not-is_hex c = none_where_not (bytes_from c.args.digits.now) c.if-not-is_hex.ensures

pub loop-high-init : goal.loop-high-init
loop-high-init c =
    let made = c.in_ok-bytes.ensures in
    (reads_none c.args.digits.now (vec_items c.in_ok-bytes.bytes) c.as_chunks.result.0.now made.items c.as_chunks.ensures.front (sym c.if-not-is_hex.ensures), omega (arith, made.len, made.capacity))

pub unwrap-requires : goal.unwrap-requires
unwrap-requires c = ap is_some c.byte.ensures ∙ reads_some c.args.digits.now (vec_items c.loop-high.bytes) c.as_chunks.result.0.now c.loop-high.high-index c.loop-high.invariant.0 c.loop-high-test.true (sym c.if-not-is_hex.ensures)

pub loop-high-preserved : goal.loop-high-preserved
loop-high-preserved c = (
  reads_more c.args.digits.now (vec_items c.loop-high.bytes) c.as_chunks.result.0.now c.loop-high.high-index c.loop-high.invariant.0 (vec_items c.push_reserved.new.self) c.loop-high-test.true (sym c.byte.ensures ∙ c.unwrap.ensures) c.push_reserved.ensures.items,
  omega arith,
)

pub returns : goal.returns
returns c = reads_all c.args.digits.now (vec_items c.loop-high.bytes) c.as_chunks.result.0.now c.loop-high.high-index c.loop-high.invariant.0 c.loop-high-test.false
