-- What the slots hold after a word was written, a page flushed, or a page put into the next slot.
use Rattle.std.proofs.Common.{◌≡◌, ℕ, ◌+◌, ◌*◌, ◌/◌, ◌%◌, ◌<◌, false, List, [], ◌∷◌, ◌++◌, length, set, Some, None, Option, sym, refl, ap, ◌∙◌, inl, inr, arith}
use mathlib.Core.Path.{fun_ext}
use Rattle.std.proofs.lemmas.List.{get_or-set_same, get_or-set_other}
use Rattle.std.proofs.lemmas.Bool.{eq-eqb, ne_eqb}
use Rattle.std.proofs.lemmas.Bool.Decides.{eqb_tells}
use Rattle.basics.specs.Sizes.{page_of, place_of, put}
use Rattle.model.specs.Cache.{is_in, change, changes_at, on_page, placed}
use Rattle.pages.specs.Memory.{memory}
use Rattle.pages.proofs.Ranges.{same_ranges}
use Rattle.page_cache.specs.Slots.{slot_of, in_slot, seen}
use Rattle.page_cache.proofs.SlotLaws.{slot_below, slot_apart, slot_push}

-- a slot that is not this one holds what it held
module _ (k : ℕ) (new old : ℕ → ℕ) where
  other_slot : (o : Option ℕ) (place : ℕ) → place < 64 → (o ≡ Some k → ⊥) → in_slot o (on_page k new old) place ≡ in_slot o old place
  other_slot None place h ne = refl
  other_slot (Some j) place h ne =
      let apart : j ≡ k → ⊥ = λ e. ne (ap Some e) in
      let there : (64 * j + place) / 64 ≡ j = omega arith in
      rw (there, ne_eqb j k apart)

  this_slot : (place : ℕ) → place < 64 → in_slot (Some k) (on_page k new old) place ≡ new (64 * k + place)
  this_slot place h =
      let there : (64 * k + place) / 64 ≡ k = omega arith in
      rw (there, eq-eqb k k refl)

-- The words of slot k written, which is the slot of page p now and of no other: as a memory, the words of page p.
module _ (slot slot' : ℕ → Option ℕ) (p k : ℕ) (this : slot' p ≡ Some k) (kept : (q : ℕ) → (q ≡ p → ⊥) → slot' q ≡ slot q) (apart : (q : ℕ) → (q ≡ p → ⊥) → slot q ≡ Some k → ⊥) (new old : ℕ → ℕ) where
  written_slot :
      (w : ℕ) → in_slot (slot' (page_of w)) (on_page k new old) (place_of w) ≡ on_page p (λ v. new (64 * k + place_of v)) (λ v. in_slot (slot (page_of v)) old (place_of v)) w
  written_slot w =
      let small : w % 64 < 64 = omega arith in
      elim (eqb_tells (w / 64) p) [
        | inl t ↦ rw (t.0, t.1, this) (this_slot k new old (w % 64) small)
        | inr t ↦ rw (t.0, kept (w / 64) t.1) (other_slot k new old (slot (w / 64)) (w % 64) small (apart (w / 64) t.1))
      ]

-- a page whose twin became its copy
module _ (pages : List ℕ) (p k : ℕ) (e : slot_of p pages ≡ Some k) where
  abbrev slot : ℕ → Option ℕ
  slot q = slot_of q pages

  pub seen_flushed : (cs ts ts' : List ℕ) → memory ts' ≡ on_page k (memory cs) (memory ts) → seen pages ts' ≡ on_page p (seen pages cs) (seen pages ts)
  seen_flushed cs ts ts' m =
      fun_ext (λ w.
      ap (λ words. in_slot (slot (w / 64)) words (w % 64)) m ∙ written_slot slot slot p k e (λ q ne. refl) (λ q ne f. ne (slot_apart p k pages e q f)) (memory cs) (memory ts) w ∙ on_copy w)
    where
      on_copy : (w : ℕ) → on_page p (λ v. memory cs (64 * k + place_of v)) (seen pages ts) w ≡ on_page p (seen pages cs) (seen pages ts) w
      on_copy w = elim (eqb_tells (w / 64) p) [ inl t ↦ rw (t.0, t.1, e) | inr t ↦ rw t.0 ]

  -- the diff of a slot is the diff of its page
  pub seen_changes : (cs ts : List ℕ) → changes_at k (memory cs) (memory ts) ≡ changes_at p (seen pages cs) (seen pages ts)
  unfolding changes_at
  seen_changes cs ts =
      same_ranges (change (memory cs) (memory ts)) (change (seen pages cs) (seen pages ts)) (64 * k) (64 * p) 64
      (λ j below.
      let page : (64 * p + j) / 64 ≡ p = omega arith in
      let place : (64 * p + j) % 64 ≡ j = omega arith in
      rw (page, place, e))

  -- a word written
  module _ (w v : ℕ) (on : page_of w ≡ p) (cs : List ℕ) (inside : 64 * k + place_of w < length cs) where
    at_other : (u : ℕ) → (u ≡ w → ⊥) → (o : Option ℕ) → slot_of (page_of u) pages ≡ o → in_slot o (memory (set cs (64 * k + place_of w) v)) (place_of u) ≡ in_slot o (memory cs) (place_of u)
    at_other u ne None f = refl
    at_other u ne (Some j) f =
        get_or-set_other cs (64 * k + w % 64) (64 * j + u % 64) v 0
        (λ same. let slots : j ≡ k = omega arith in let pages = slot_apart p k pages e (u / 64) (f ∙ ap Some slots) in ne (omega arith))

    pub seen_written : seen pages (set cs (64 * k + place_of w) v) ≡ put w v (seen pages cs)
    seen_written =
        fun_ext (λ u.
        elim (eqb_tells u w) [
          | inl t ↦ rw (t.0, t.1, on, e) (get_or-set_same cs (64 * k + w % 64) v 0 inside)
          | inr t ↦ rw t.0 (at_other u t.1 (slot_of (u / 64) pages) refl)
        ])

-- a page put into the next slot
module _ (pages : List ℕ) (p : ℕ) (absent : is_in p pages ≡ false) where
  pub seen_installed :
      (ws cs cs' : List ℕ) → memory cs' ≡ on_page (length pages) (placed ws) (memory cs) → seen (pages ++ (p ∷ [])) cs' ≡ on_page p (placed ws) (seen pages cs)
  seen_installed ws cs cs' m =
      fun_ext (λ w.
      ap (λ words. in_slot (slot_of (w / 64) (pages ++ (p ∷ []))) words (w % 64)) m ∙ written_slot (λ q. slot_of q pages) (λ q. slot_of q (pages ++ (p ∷ []))) p (length pages)
      (slot_push p p pages absent ∙ rw (eq-eqb p p refl))
      (λ q ne. slot_push p q pages absent ∙ rw (ne_eqb p q (λ e. ne (sym e))))
      (λ q ne e. let h = slot_below q (length pages) pages e in omega arith)
      (placed ws) (memory cs) w ∙ on_words w)
    where
      on_words : (w : ℕ) → on_page p (λ v. placed ws (64 * length pages + place_of v)) (seen pages cs) w ≡ on_page p (placed ws) (seen pages cs) w
      on_words w =
          let place : (64 * length pages + w % 64) % 64 ≡ w % 64 = omega arith in
          rw place
