use Rattle.std.proofs.Common.{Err, ap, ◌∙◌}
use Rattle.std.proofs.lemmas.Result.{err_from_is_err_and}
use Rattle.judging.specs.Fed.{limited}
use Rattle.judging.proofs.Pieces.{one_more, refused}
use Rattle.judging.proofs.judge.Judge.each.Goals as goal

pub returns-in_err-one : goal.returns-in_err-one
returns-in_err-one g c step reads =
    let p = err_from_is_err_and c.from_residual.result c.from_residual.ensures.1 in
    refused (λ t c. limited (step t c)) _ _ c.one.new.self c.args.piece.now c.loop-c.c-index (c.loop-c.invariant step reads) c.from_residual.result c.in_err-one.field-0.0
    (p.1 ∙ ap Err p.2) c.loop-c-test.true (c.in_err-one.ensures step reads)

pub loop-c-preserved : goal.loop-c-preserved
loop-c-preserved g c step reads =
    one_more (λ t c. limited (step t c)) _ _ c.one.new.self c.args.piece.now c.loop-c.c-index (c.loop-c.invariant step reads) c.loop-c-test.true (c.in_ok-one.ensures step reads)
