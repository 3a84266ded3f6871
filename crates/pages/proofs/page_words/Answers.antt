use Rattle.std.proofs.Common.{ap, ◌∙◌, sym, Ok}
use Rattle.pages.proofs.Parts.{found, page_part}
use Rattle.pages.proofs.page_words.Goals as goal

pub returns : goal.returns
returns c =
    let here = found c.in_ok-part.ensures in
    rw here.reached (ap Ok (c.copy_from_slice.ensures.after ∙ sym (page_part here)))
