use Rattle.std.proofs.Common.{◌∙◌, arith}
use Rattle.std.proofs.lemmas.List.{with_items_is}
use Rattle.home_node.proofs.Tables.{put_in}
use Rattle.home_node.proofs.node.state.State.put_diff.Goals as goal

pub returns : goal.returns
returns c =
    let h = c.args.self.now in
    let lent = c.deref_mut.ensures in
    let back = with_items_is h.words c.patch.new.words (c.patch.auto.words ∙ lent.len) in
    let after = rw lent.value at c.patch.ensures.after in
    rw back (put_in h.words.items _ h.applied _ c.args.station c.args.number c.args.page _ (omega arith) (omega arith) (omega arith) c.requires.page_known after)
