-- A word written into its slot: it was counted if it differed, and the count is right again.
use Rattle.std.proofs.Common.{◌≡◌, ℕ, ◌+◌, ◌-◌, ◌*◌, ◌/◌, ◌<◌, ◌≤◌, true, List, length, get_or, set, vec_items, Some, sym, refl, ap, ◌∙◌, arith}
use Rattle.std.proofs.lemmas.List.{get_or-set_same}
use Rattle.std.proofs.lemmas.Bool.Decides.{nat_tests}
use Rattle.basics.specs.Sizes.{page_of, place_of, put}
use Rattle.model.specs.Cache.{is_in, wrote}
use Rattle.pages.specs.Memory.{memory}
use Rattle.page_cache.specs.declared.cache.PageCache.{PageCache}
use Rattle.page_cache.specs.declared.slots.Slots.{Slots}
use Rattle.page_cache.specs.Caches.{cache_of}
use Rattle.page_cache.specs.Slots.{slot_of, seen, differs, dirty_words, cached}
use Rattle.page_cache.proofs.SlotLaws.{is_in_slot, slot_below}
use Rattle.page_cache.proofs.Counting.{one_differs, on_one_page, page_dirty, few_dirty}
use Rattle.page_cache.proofs.Viewing.{seen_written}

pub differs_once : (v t : ℕ) → differs v t ≤ 1
differs_once v t = grind (arith, nat_tests)

pub few_counted : (s : PageCache) → s.dirty < 65536
few_counted s =
    omega (arith, s.few, s.pages.ok.0, s.counted, few_dirty (vec_items s.pages) (seen (vec_items s.pages) (vec_items s.slots.copies)) (seen (vec_items s.pages) (vec_items s.slots.twins)))

module _ (s : PageCache) (w k : ℕ) (slot : slot_of (page_of w) (vec_items s.pages) ≡ Some k) where
  abbrev copy : ℕ → ℕ
  copy = seen (vec_items s.pages) (vec_items s.slots.copies)

  abbrev twin : ℕ → ℕ
  twin = seen (vec_items s.pages) (vec_items s.slots.twins)

  present : is_in (page_of w) (vec_items s.pages) ≡ true
  present = is_in_slot (w / 64) (vec_items s.pages) ∙ rw slot

  -- where the word lies
  word_of : (words : List ℕ) → memory words (64 * k + place_of w) ≡ seen (vec_items s.pages) words w
  word_of words = sym (rw slot)

  -- was: whether it differed
  module _ (was : ℕ) (differed : was ≡ differs (memory (vec_items s.slots.copies) (64 * k + place_of w)) (memory (vec_items s.slots.twins) (64 * k + place_of w))) where
    differed_there : was ≡ differs (copy w) (twin w)
    differed_there = differed ∙ (rw (word_of (vec_items s.slots.copies), word_of (vec_items s.slots.twins)))

    pub word_counted : was ≤ s.dirty
    word_counted =
        let clean : differs (twin w) (twin w) ≡ 0 = grind (arith, nat_tests) in
        omega (arith, differed_there, s.counted, one_differs w (twin w) copy twin, page_dirty (w / 64) (vec_items s.pages) copy twin present)

    -- new: the slots with the word written; is: whether it differs now
    module _ (v : ℕ) (new : Slots) (written : vec_items new.copies ≡ set (vec_items s.slots.copies) (64 * k + place_of w) v) (kept : new.twins ≡ s.slots.twins)
        (is : ℕ) (differing : is ≡ differs (memory (vec_items new.copies) (64 * k + place_of w)) (memory (vec_items new.twins) (64 * k + place_of w))) where
      inside : 64 * k + place_of w < length (vec_items s.slots.copies)
      inside = omega (arith, s.few, s.pages.ok.0, s.slots.copied, s.slots.copies.ok.0, slot_below (w / 64) k (vec_items s.pages) slot)

      word_written : seen (vec_items s.pages) (vec_items new.copies) ≡ put w v copy
      word_written =
          ap (seen (vec_items s.pages)) written ∙ seen_written (vec_items s.pages) (w / 64) k slot w v refl (vec_items s.slots.copies) inside

      differs_there : is ≡ differs v (twin w)
      differs_there =
          let here : memory (vec_items new.copies) (64 * k + place_of w) ≡ v = ap (λ xs. get_or xs (64 * k + place_of w) 0) written ∙ get_or-set_same (vec_items s.slots.copies) (64 * k + place_of w) v 0 inside in
          differing ∙ (rw (here, kept, word_of (vec_items s.slots.twins)))

      pub recounted : s.dirty - was + is ≡ dirty_words (vec_items s.pages) (seen (vec_items s.pages) (vec_items new.copies)) (seen (vec_items s.pages) (vec_items new.twins))
      recounted =
          let all = on_one_page (w / 64) copy twin (put w v copy) twin (λ u ne. grind (arith, nat_tests)) (λ u ne. refl) (vec_items s.pages) s.distinct present in
          rw (word_written, kept) (omega (arith, differed_there, differs_there, s.counted, word_counted, one_differs w v copy twin))

      pub cache_written : cached (vec_items s.pages) (vec_items new.copies) (vec_items new.twins) ≡ wrote w v (cache_of s)
      cache_written = rw (word_written, kept)
