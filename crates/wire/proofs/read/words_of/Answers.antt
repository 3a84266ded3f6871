use Rattle.std.proofs.Common.{◌≡◌, ◌/◌, [], get_or, ap, ◌∙◌, arith}
use Rattle.std.specs.Simd.{first_chunks}
use Rattle.basics.specs.Numbers.{u32_at}
use Rattle.wire.proofs.Words.{words_are, words_more}
use Rattle.wire.proofs.read.words_of.Goals as goal

pub loop-place-preserved : goal.loop-place-preserved
loop-place-preserved c = words_more c.as_chunks.result.0.now c.loop-place.place c.loop-place.words _ (omega arith) (omega arith) c.loop-place.invariant

pub returns : goal.returns
returns c =
    let front : c.as_chunks.result.0.now ≡ first_chunks 4 64 c.args.bytes.now = c.as_chunks.ensures.front ∙ ap (λ n. first_chunks 4 (n / 4) c.args.bytes.now) c.requires in
    words_are 64 c.args.bytes.now c.loop-place.words c.loop-place.invariant.0 (λ k i. c.loop-place.invariant.1 k (omega arith) ∙ ap (λ read. u32_at (get_or read k []) 0) front)
