use Rattle.std.proofs.Common.{arith}
use Rattle.wire.proofs.Written.{words_more, words_all}
use Rattle.wire.proofs.write.push_words.Goals as goal

pub loop-word-preserved : goal.loop-word-preserved
loop-word-preserved c =
    let k = c.loop-word in
    words_more c.args.words.now k.word-index _ _ k.invariant _ _ (omega arith) c.to_be_bytes.ensures c.in_ok-extend_from_slice.ensures.items

pub returns : goal.returns
returns c =
    let k = c.loop-word in
    words_all c.args.words.now k.word-index _ _ k.invariant (omega arith)
