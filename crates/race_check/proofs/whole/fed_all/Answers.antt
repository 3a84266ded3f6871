use Rattle.std.proofs.Common.{refl}
use Rattle.std.proofs.lemmas.Result.{err_from_is_err_and}
use Rattle.race_check.proofs.Wholes.{fed_more, fed_refused}
use Rattle.race_check.proofs.whole.fed_all.Goals as goal

pub loop-event-preserved : goal.loop-event-preserved
loop-event-preserved c =
    fed_more c.args.events.now c.loop-event.event-index c.loop-event.invariant _ _ refl c.loop-event-test.true c.step.result c.step.ensures.answer _ _ (c.in_ok-step.was) c.step.ensures.fed

pub returns-in_err-step : goal.returns-in_err-step
returns-in_err-step c =
    let left = c.from_residual in
    let p = err_from_is_err_and left.result left.ensures.1 in
    rw (p.1, p.2)
    (fed_refused c.args.events.now c.loop-event.event-index c.loop-event.invariant _ _ refl c.loop-event-test.true c.step.result c.step.ensures.answer c.in_err-step.field-0.0 c.in_err-step.was)
