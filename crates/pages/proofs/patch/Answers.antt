use Rattle.pages.proofs.Parts.{found, patched_part}
use Rattle.pages.proofs.patch.Goals as goal

pub returns-clause-after : goal.returns-clause-after
returns-clause-after c =
    let here = found c.in_ok-part.ensures in
    rw here.reached (patched_part here c.put_in.new.part c.put_in.auto.part c.args.changes.now c.put_in.ensures)
