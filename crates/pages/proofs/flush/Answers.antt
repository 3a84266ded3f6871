use Rattle.std.proofs.Common.{Ok, ap, ◌∙◌}
use Rattle.model.specs.Bytes.{change_count}
use Rattle.pages.proofs.Parts.{found, part_changes, flushed_part}
use Rattle.pages.proofs.flush.Goals as goal

pub returns-clause-answer : goal.returns-clause-answer
returns-clause-answer c =
    let copy = found c.in_ok-copy.ensures in
    let twin = found c.in_ok-part.ensures in
    rw (copy.reached, twin.reached)
    (ap Ok (c.flush_part.ensures.diff ∙ ap (λ changes. record { changes = changes; count = change_count changes }) (part_changes copy twin)))

pub returns-clause-after : goal.returns-clause-after
returns-clause-after c =
    let copy = found c.in_ok-copy.ensures in
    let twin = found c.in_ok-part.ensures in
    rw (copy.reached, twin.reached) (flushed_part copy twin c.flush_part.new.twin c.flush_part.auto.twin c.flush_part.ensures.after)
