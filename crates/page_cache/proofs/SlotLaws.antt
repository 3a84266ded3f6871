-- Where pages stand in the list of pages: in a place of their own, the next one at the end.
use Rattle.std.proofs.Common.{◌≡◌, ℕ, suc, ◌+◌, ◌-◌, ◌<◌, ◌≤◌, false, cond, eqb, List, [], ◌∷◌, ◌++◌, length, get_or, is_some, Some, sym, refl, ap, ◌∙◌, inl, inr, arith}
use Rattle.std.proofs.lemmas.Bool.Decides.{eqb_tells, nat_tests}
use Rattle.model.specs.Cache.{is_in}
use Rattle.page_cache.specs.Slots.{slot_from, slot_of}

in_from : (k p : ℕ) (pages : List ℕ) → is_in p pages ≡ is_some (slot_from k p pages)
in_from k p [] = refl
in_from k p (q ∷ qs) =
    elim (eqb_tells q p) [ inl t ↦ rw t.0 | inr t ↦ rw t.0 (in_from (suc k) p qs) ]

-- a page that is there has a slot, and no other has
pub is_in_slot : (p : ℕ) (pages : List ℕ) → is_in p pages ≡ is_some (slot_of p pages)
is_in_slot = in_from 0

-- k: the number of the first; j: the slot
pub record Stands (p k j : ℕ) (pages : List ℕ) : Type 0 where
  pub from : k ≤ j
  pub below : j < k + length pages
  pub page : get_or pages (j - k) 0 ≡ p

stands_from : (k p j : ℕ) (pages : List ℕ) → slot_from k p pages ≡ Some j → Stands p k j pages
stands_from k p j [] e = let z : ◌≡◌ {A = ℕ} 0 1 = cc in absurd (omega arith)
stands_from k p j (q ∷ qs) e =
    elim (eqb_tells q p) [
      | inl t ↦ (let same : j ≡ k = (let h : Some k ≡ Some j = rw t.0 at e in cc) in first same t.1)
      | inr t ↦ later (stands_from (suc k) p j qs (rw t.0 at e))
    ]
  where
    first : j ≡ k → q ≡ p → Stands p k j (q ∷ qs)
    first same is =
        let none : j - k ≡ 0 = omega arith in
        record { from = omega arith; below = omega arith; page = rw none is }

    later : Stands p (suc k) j qs → Stands p k j (q ∷ qs)
    later h =
        let more : j - k ≡ suc (j - suc k) = omega (arith, h.from) in
        record { from = omega (arith, h.from); below = omega (arith, h.below); page = rw more h.page }

module _ (p j : ℕ) (pages : List ℕ) (e : slot_of p pages ≡ Some j) where
  pub slot_below : j < length pages
  slot_below = omega (arith, (stands_from 0 p j pages e).below)

  pub slot_page : get_or pages j 0 ≡ p
  slot_page =
      let same : j - 0 ≡ j = omega arith in
      rw same at (stands_from 0 p j pages e).page

  -- two pages have two slots
  pub slot_apart : (q : ℕ) → slot_of q pages ≡ Some j → q ≡ p
  slot_apart q f =
      let same : j - 0 ≡ j = omega arith in
      sym (rw same at (stands_from 0 q j pages f).page) ∙ slot_page

push_from : (k p q : ℕ) (pages : List ℕ) → is_in p pages ≡ false → slot_from k q (pages ++ (p ∷ [])) ≡ cond (eqb p q) (Some (k + length pages)) (slot_from k q pages)
push_from k p q [] e = elim (eqb_tells p q) [ inl t ↦ rw t.0 (ap Some (omega arith)) | inr t ↦ rw t.0 ]
push_from k p q (x ∷ xs) e =
    let f : is_in p xs ≡ false = grind (arith, nat_tests) in
    let h = push_from (suc k) p q xs f in
    let n : suc k + length xs ≡ k + suc (length xs) = omega arith in
    grind (arith, nat_tests)

-- one page more
pub slot_push : (p q : ℕ) (pages : List ℕ) → is_in p pages ≡ false → slot_of q (pages ++ (p ∷ [])) ≡ cond (eqb p q) (Some (length pages)) (slot_of q pages)
slot_push p q pages e = push_from 0 p q pages e ∙ ap (λ n. cond (eqb p q) (Some n) (slot_of q pages)) (omega arith)
