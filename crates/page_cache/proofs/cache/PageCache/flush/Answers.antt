use Rattle.std.proofs.Common.{Some, sym, ap, ◌∙◌}
use Rattle.pages.specs.declared.PageDiff.{PageDiff}
use Rattle.page_cache.proofs.Moving.{page_changes, flush_counted, flush_recounted, cache_flushed}
use Rattle.page_cache.proofs.cache.PageCache.flush.Goals as goal

pub overflow_sub-self : goal.overflow_sub-self
overflow_sub-self c =
    let slot = rw c.from.ensures at (sym c.in_ok-slot.ensures.slot) in
    flush_counted c.args.self.now c.args.page c.in_ok-slot.slot slot _ (ap (λ (d : PageDiff). d.count) c.flush-diff.ensures.diff)

pub invariant_of-self-clause-counted : goal.invariant_of-self-clause-counted
invariant_of-self-clause-counted c =
    let slot = rw c.from.ensures at (sym c.in_ok-slot.ensures.slot) in
    flush_recounted c.args.self.now c.args.page c.in_ok-slot.slot slot _ (ap (λ (d : PageDiff). d.count) c.flush-diff.ensures.diff) c.flush-diff.new.self c.flush-diff.ensures.copies c.flush-diff.ensures.twins

pub returns-clause-answer : goal.returns-clause-answer
returns-clause-answer c =
    let slot = rw c.from.ensures at (sym c.in_ok-slot.ensures.slot) in
    let there = rw c.from.ensures at c.in_ok-slot.ensures.there in
    rw there (ap Some (ap (λ (d : PageDiff). d.changes) c.flush-diff.ensures.diff ∙ page_changes c.args.self.now c.args.page c.in_ok-slot.slot slot))

pub returns-clause-after : goal.returns-clause-after
returns-clause-after c =
    let slot = rw c.from.ensures at (sym c.in_ok-slot.ensures.slot) in
    let there = rw c.from.ensures at c.in_ok-slot.ensures.there in
    rw there (cache_flushed c.args.self.now c.args.page c.in_ok-slot.slot slot _ (ap (λ (d : PageDiff). d.count) c.flush-diff.ensures.diff) c.flush-diff.new.self c.flush-diff.ensures.copies c.flush-diff.ensures.twins)
