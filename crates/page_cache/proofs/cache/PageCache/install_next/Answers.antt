use Rattle.std.proofs.Common.{vec_items, ◌∙◌, arith}
use Rattle.promise.proofs.Pages.{once_push}
use Rattle.page_cache.proofs.Moving.{slotted_next, install_recounted, cache_installed}
use Rattle.page_cache.proofs.cache.PageCache.install_next.Goals as goal

pub invariant_of-self-clause-slotted : goal.invariant_of-self-clause-slotted
invariant_of-self-clause-slotted c =
    let s = c.args.self.now in
    rw (c.push_reserved.ensures.items, c.from.ensures) (slotted_next s c.args.page c.requires.absent c.len-slot.result (c.len-slot.ensures ∙ s.pages.ok.0) (omega (arith, s.mapped, s.table.ok.0)))

pub invariant_of-self-clause-distinct : goal.invariant_of-self-clause-distinct
invariant_of-self-clause-distinct c =
    let s = c.args.self.now in
    rw c.push_reserved.ensures.items (once_push (vec_items s.pages) c.args.page s.distinct c.requires.absent)

pub invariant_of-self-clause-counted : goal.invariant_of-self-clause-counted
invariant_of-self-clause-counted c =
    let s = c.args.self.now in
    rw c.push_reserved.ensures.items (install_recounted s c.args.page c.requires.absent c.len-slot.result (c.len-slot.ensures ∙ s.pages.ok.0) c.args.words.now c.fill.new.self c.fill.ensures.copies c.fill.ensures.twins)

pub returns : goal.returns
returns c =
    let s = c.args.self.now in
    rw c.push_reserved.ensures.items (cache_installed s c.args.page c.requires.absent c.len-slot.result (c.len-slot.ensures ∙ s.pages.ok.0) c.args.words.now c.fill.new.self c.fill.ensures.copies c.fill.ensures.twins)
