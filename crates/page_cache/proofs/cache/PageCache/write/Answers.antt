use Rattle.std.proofs.Common.{sym, arith}
use Rattle.page_cache.proofs.Writing.{differs_once, word_counted, few_counted, recounted, cache_written}
use Rattle.page_cache.proofs.cache.PageCache.write.Goals as goal

pub overflow_sub-others : goal.overflow_sub-others
overflow_sub-others c = word_counted c.args.self.now c.args.word c.in-Some.slot (sym c.in-Some.ensures.slot) _ c.dirty_at.ensures

pub overflow_add-self : goal.overflow_add-self
overflow_add-self c = omega (arith, few_counted c.args.self.now, c.dirty_at-2.ensures, differs_once)

pub invariant_of-self-clause-counted : goal.invariant_of-self-clause-counted
invariant_of-self-clause-counted c =
    recounted c.args.self.now c.args.word c.in-Some.slot (sym c.in-Some.ensures.slot) _ c.dirty_at.ensures c.args.value c.write.new.self c.write.ensures.copies c.write.ensures.twins _ c.dirty_at-2.ensures

pub returns-clause-after : goal.returns-clause-after
returns-clause-after c =
    rw c.in-Some.ensures.there
    (cache_written c.args.self.now c.args.word c.in-Some.slot (sym c.in-Some.ensures.slot) _ c.dirty_at.ensures c.args.value c.write.new.self c.write.ensures.copies c.write.ensures.twins _ c.dirty_at-2.ensures)
