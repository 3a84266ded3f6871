-- A page cache of the code as the cache of the rules. Assumes nothing.
use Rattle.std.specs.Prelude.{ℕ, cond, not, length, Err, vec_items, Result, nat_le}
use Rattle.basics.specs.Sizes.{is_page}
use Rattle.basics.specs.declared.Refusal.{Refusal}
use Rattle.basics.specs.declared.Refusal.TheVariants.{Malformed, PageState, PagesFull}
use Rattle.model.specs.Cache.{Cache, is_in}
use Rattle.page_cache.specs.declared.cache.PageCache.{PageCache}
use Rattle.page_cache.specs.Slots.{cached}

abbrev pub cache_of : PageCache → Cache
cache_of c = cached (vec_items c.pages) (vec_items c.slots.copies) (vec_items c.slots.twins)

-- the refusals of a page that comes, in rising order
abbrev pub installs : {X : Type 0} → Cache → ℕ → Result X Refusal → Result X Refusal
installs c p done =
    cond (not (is_page p)) (Err Malformed)
    (cond (is_in p c.present) (Err PageState)
    (cond (nat_le 256 (length c.present)) (Err PagesFull) done))
