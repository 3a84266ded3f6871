use Rattle.std.proofs.Common.{ap, ◌∙◌}
use Rattle.model.specs.Cache.{on_page, placed}
use Rattle.pages.specs.Memory.{memory}
use Rattle.pages.proofs.Parts.{found, filled_part}
use Rattle.pages.proofs.fill.Goals as goal

pub returns-clause-after : goal.returns-clause-after
returns-clause-after c =
    let here = found c.in_ok-part.ensures in
    rw here.reached (filled_part here c.copy_from_slice.new.self c.copy_from_slice.auto.self ∙ ap (λ part. on_page c.args.page (placed part) (memory c.args.words.now)) c.copy_from_slice.ensures.after)
