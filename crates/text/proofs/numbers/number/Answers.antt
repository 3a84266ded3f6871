use Rattle.std.proofs.Common.{rules, sym, ap, ◌∙◌}
use Rattle.std.proofs.lemmas.Bool.{eqb-false}
use Rattle.text.specs.Number.{number_after}
use Rattle.text.proofs.NumberSteps.{folded, whole}
use Rattle.text.proofs.numbers.number.Goals as goal

pub returns : goal.returns
returns c =
    let read = folded _ (λ f f' n x o k. search rules) _ _ _ _ c.try_fold.ensures.ran in
    read ∙ ap (number_after 0) c.iter.ensures.rest ∙ sym (whole c.args.digits.now (eqb-false _ 0 (sym c.if-is_empty.ensures)))
