-- A page flushed, and a page put into the next slot: tables and count are right again.
use Rattle.std.proofs.Common.{◌≡◌, ℕ, ◌-◌, ◌/◌, ◌<◌, ◌≤◌, true, false, List, [], ◌∷◌, ◌++◌, length, get_or, set, vec_items, Some, None, sym, refl, ap, ◌∙◌, inl, inr, arith}
use Rattle.std.proofs.lemmas.List.{get_or-set_same, get_or-set_other}
use Rattle.std.proofs.lemmas.Bool.{eq-eqb, ne_eqb}
use Rattle.std.proofs.lemmas.Bool.Decides.{eqb_tells}
use Rattle.basics.specs.Sizes.{page_of}
use Rattle.model.specs.Bytes.{change_count}
use Rattle.model.specs.Cache.{is_in, changes_at, differing, flushed_at, installed, on_page, placed}
use Rattle.pages.specs.Memory.{memory}
use Rattle.page_cache.specs.declared.cache.PageCache.{PageCache}
use Rattle.page_cache.specs.declared.slots.Slots.{Slots}
use Rattle.page_cache.specs.Caches.{cache_of}
use Rattle.page_cache.specs.Slots.{slot_of, seen, dirty_words, cached}
use Rattle.page_cache.proofs.SlotLaws.{is_in_slot, slot_push}
use Rattle.page_cache.proofs.Counting.{none_differ, on_one_page, elsewhere, page_dirty, dirty_push}
use Rattle.page_cache.proofs.Viewing.{seen_changes, seen_flushed, seen_installed}

-- the words of a page are the same in both
same_on_page : (p : ℕ) (new old : ℕ → ℕ) (w : ℕ) → page_of w ≡ p → new w ≡ on_page p new old w
same_on_page p new old w e = rw (eq-eqb (w / 64) p e)

-- all others are as they were
same_elsewhere : (p : ℕ) (new old : ℕ → ℕ) (w : ℕ) → (page_of w ≡ p → ⊥) → on_page p new old w ≡ old w
same_elsewhere p new old w ne = rw (ne_eqb (w / 64) p ne)

module _ (s : PageCache) (p k : ℕ) (slot : slot_of p (vec_items s.pages) ≡ Some k) where
  abbrev copy : ℕ → ℕ
  copy = seen (vec_items s.pages) (vec_items s.slots.copies)

  abbrev twin : ℕ → ℕ
  twin = seen (vec_items s.pages) (vec_items s.slots.twins)

  present : is_in p (vec_items s.pages) ≡ true
  present = is_in_slot p (vec_items s.pages) ∙ rw slot

  pub page_changes : changes_at k (memory (vec_items s.slots.copies)) (memory (vec_items s.slots.twins)) ≡ changes_at p copy twin
  page_changes = seen_changes (vec_items s.pages) p k slot (vec_items s.slots.copies) (vec_items s.slots.twins)

  -- count: of the words that differed
  module _ (count : ℕ) (all : count ≡ differing k (memory (vec_items s.slots.copies)) (memory (vec_items s.slots.twins))) where
    counted_there : count ≡ differing p copy twin
    counted_there = all ∙ ap change_count page_changes

    pub flush_counted : count ≤ s.dirty
    flush_counted = omega (arith, counted_there, s.counted, page_dirty p (vec_items s.pages) copy twin present)

    -- new: the slots with this one flushed
    module _ (new : Slots) (kept : new.copies ≡ s.slots.copies) (flushed : memory (vec_items new.twins) ≡ on_page k (memory (vec_items s.slots.copies)) (memory (vec_items s.slots.twins))) where
      twin_flushed : seen (vec_items s.pages) (vec_items new.twins) ≡ on_page p copy twin
      twin_flushed = seen_flushed (vec_items s.pages) p k slot (vec_items s.slots.copies) (vec_items s.slots.twins) (vec_items new.twins) flushed

      pub flush_recounted : s.dirty - count ≡ dirty_words (vec_items s.pages) (seen (vec_items s.pages) (vec_items new.copies)) (seen (vec_items s.pages) (vec_items new.twins))
      flush_recounted =
          let others = on_one_page p copy twin copy (on_page p copy twin) (λ w ne. refl) (same_elsewhere p copy twin) (vec_items s.pages) s.distinct present in
          rw (kept, twin_flushed) (omega (arith, counted_there, s.counted, none_differ p copy (on_page p copy twin) (same_on_page p copy twin)))

      pub cache_flushed : cached (vec_items s.pages) (vec_items new.copies) (vec_items new.twins) ≡ flushed_at p (cache_of s)
      cache_flushed = rw (kept, twin_flushed)

module _ (s : PageCache) (p : ℕ) (absent : is_in p (vec_items s.pages) ≡ false) where
  -- n: the next slot
  module _ (n : ℕ) (last : n ≡ length (vec_items s.pages)) where
    pub slotted_next : p < length (vec_items s.table) → (q : ℕ) → get_or (set (vec_items s.table) p (Some n)) q None ≡ slot_of q (vec_items s.pages ++ (p ∷ []))
    slotted_next inside q =
        elim (eqb_tells p q) [
          | inl t ↦ rw (slot_push p q (vec_items s.pages) absent, t.0, ← t.1) (get_or-set_same (vec_items s.table) p (Some n) None inside ∙ ap Some last)
          | inr t ↦ rw (slot_push p q (vec_items s.pages) absent, t.0) (get_or-set_other (vec_items s.table) p q (Some n) None (λ e. t.1 (sym e)) ∙ s.slotted q)
        ]

    -- new: the slots with the next one filled
    module _ (ws : List ℕ) (new : Slots) (copies : memory (vec_items new.copies) ≡ on_page n (placed ws) (memory (vec_items s.slots.copies))) (twins : memory (vec_items new.twins) ≡ on_page n (placed ws) (memory (vec_items s.slots.twins))) where
      abbrev was : List ℕ → ℕ → ℕ
      was = seen (vec_items s.pages)

      abbrev is : List ℕ → ℕ → ℕ
      is = seen (vec_items s.pages ++ (p ∷ []))

      seen_next : (old' new' : List ℕ) → memory new' ≡ on_page n (placed ws) (memory old') → is new' ≡ on_page p (placed ws) (was old')
      seen_next old' new' e = seen_installed (vec_items s.pages) p absent ws old' new' (rw last at e)

      pub cache_installed : cached (vec_items s.pages ++ (p ∷ [])) (vec_items new.copies) (vec_items new.twins) ≡ installed p ws (cache_of s)
      cache_installed = rw (seen_next (vec_items s.slots.copies) (vec_items new.copies) copies, seen_next (vec_items s.slots.twins) (vec_items new.twins) twins)

      pub install_recounted : s.dirty ≡ dirty_words (vec_items s.pages ++ (p ∷ [])) (is (vec_items new.copies)) (is (vec_items new.twins))
      install_recounted =
          let copy = was (vec_items s.slots.copies) in
          let twin = was (vec_items s.slots.twins) in
          let copy' = on_page p (placed ws) copy in
          let twin' = on_page p (placed ws) twin in
          let others = elsewhere p copy twin copy' twin' (same_elsewhere p (placed ws) copy) (same_elsewhere p (placed ws) twin) (vec_items s.pages) absent in
          let this = none_differ p copy' twin' (λ w e. sym (same_on_page p (placed ws) copy w e) ∙ same_on_page p (placed ws) twin w e) in
          rw (seen_next (vec_items s.slots.copies) (vec_items new.copies) copies, seen_next (vec_items s.slots.twins) (vec_items new.twins) twins)
          (omega (arith, s.counted, dirty_push p (vec_items s.pages) copy' twin'))
