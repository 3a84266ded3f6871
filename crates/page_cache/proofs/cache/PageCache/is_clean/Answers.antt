use Rattle.std.proofs.Common.{eqb, ap, ◌∙◌}
use Rattle.page_cache.proofs.Counting.{none_dirty}
use Rattle.page_cache.proofs.cache.PageCache.is_clean.Goals as goal

pub returns : goal.returns
returns c = ap (λ n. eqb n 0) c.args.self.now.counted ∙ none_dirty _ _ _
