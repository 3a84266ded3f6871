use Rattle.std.proofs.Common.{◌∙◌, ap, Ok, Err}
use Rattle.std.proofs.lemmas.Result.{err_from_is_err_and}
use Rattle.judging.proofs.Steps.{refused_one, none_made, event_fed}
use Rattle.judging.proofs.judge.Judge.one.Goals as goal

pub returns-in_err-event : goal.returns-in_err-event
returns-in_err-event g c step reads t h =
    let p = err_from_is_err_and c.from_residual.result c.from_residual.ensures.1 in
    refused_one step c.args.self.now t h c.args.c c.read.result c.read.new.arg2 (reads _ _ _ _ c.read.ensures) c.in_err-event.field-0.0 c.in_err-event.was
    c.from_residual.result (p.1 ∙ ap Err p.2) (record { reader = c.read.new.arg2; check = c.args.self.now.check })

pub returns-in-None : goal.returns-in-None
returns-in-None g c step reads t h =
    none_made step c.args.self.now t h c.args.c c.read.result c.read.new.arg2 (reads _ _ _ _ c.read.ensures) (c.in_ok-event.was ∙ ap Ok c.in-None.is)

pub returns-in-Some : goal.returns-in-Some
returns-in-Some g c step reads t h =
    event_fed step c.args.self.now t h c.args.c c.read.result c.read.new.arg2 (reads _ _ _ _ c.read.ensures)
    c.in-Some.event (c.in_ok-event.was ∙ ap Ok c.in-Some.is) c.step.result c.step.ensures.answer c.step.new.self c.step.ensures.fed
