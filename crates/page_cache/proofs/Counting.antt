-- How many words differ from their twins, over all pages: what a change on one page does to it.
use Rattle.std.proofs.Common.{◌≡◌, ℕ, zero, suc, ◌+◌, ◌*◌, ◌/◌, ◌<◌, ◌≤◌, true, false, T, eqb, List, [], ◌∷◌, ◌++◌, map, length, Some, None, Option, sym, refl, ap, ◌∙◌, inl, inr, arith}
use Rattle.std.specs.List.{range_with_len}
use Rattle.std.proofs.lemmas.List.FromFn.{length-map-range_with_len}
use Rattle.std.proofs.lemmas.Bool.Decides.{eqb_tells, nat_tests}
use Rattle.basics.specs.Sizes.{page_of, put}
use Rattle.model.specs.Bytes.{change_count}
use Rattle.model.specs.Cache.{is_in, change, changes_at, differing, are_clean}
use Rattle.pages.proofs.Collecting.{one, count_few}
use Rattle.pages.proofs.Ranges.{same_ranges}
use Rattle.promise.specs.Station.{once}
use Rattle.page_cache.specs.Slots.{differs, dirty_words}

count_first : (c : Option ℕ) (cs : List (Option ℕ)) → change_count (c ∷ cs) ≡ one c + change_count cs
unfolding change_count
count_first None cs = omega arith
count_first (Some v) cs = omega arith

-- at one place another change
module _ (f g : ℕ → Option ℕ) (j : ℕ) (else : (k : ℕ) → (k ≡ j → ⊥) → g k ≡ f k) where
  one_place : (a n : ℕ) → a ≤ j → j < a + n → change_count (map g (range_with_len a n)) + one (f j) ≡ change_count (map f (range_with_len a n)) + one (g j)
  one_place a zero i h = absurd (omega arith)
  one_place a (suc n) i h =
      elim (eqb_tells a j) [
        | inl t ↦
            (let rest = ap change_count (same_ranges g f (a + 1) (a + 1) n (λ k u. else (a + 1 + k) (λ e. omega (arith, t.1)))) in
            let here : one (g a) ≡ one (g j) = ap (λ x. one (g x)) t.1 in
            let was : one (f a) ≡ one (f j) = ap (λ x. one (f x)) t.1 in
            omega (arith, count_first (g a) (map g (range_with_len (a + 1) n)), count_first (f a) (map f (range_with_len (a + 1) n))))
        | inr t ↦
            (let rest = one_place (a + 1) n (omega (arith, t.1)) (omega arith) in
            let here : one (g a) ≡ one (f a) = ap one (else a t.1) in
            omega (arith, count_first (g a) (map g (range_with_len (a + 1) n)), count_first (f a) (map f (range_with_len (a + 1) n))))
      ]

-- none at all
no_change : (f : ℕ → Option ℕ) (a n : ℕ) → ((k : ℕ) → a ≤ k → k < a + n → f k ≡ None) → change_count (map f (range_with_len a n)) ≡ 0
unfolding change_count
no_change f a zero h = refl
no_change f a (suc n) h =
    let rest = no_change f (a + 1) n (λ k i j. h k (omega arith) (omega arith)) in
    let here = h a (omega arith) (omega arith) in
    rw here rest

-- A page on which nothing changed.
pub same_changes :
    (q : ℕ) (copy twin copy' twin' : ℕ → ℕ) → ((w : ℕ) → page_of w ≡ q → copy' w ≡ copy w) → ((w : ℕ) → page_of w ≡ q → twin' w ≡ twin w) → changes_at q copy' twin' ≡ changes_at q copy twin
unfolding changes_at
same_changes q copy twin copy' twin' c t =
    same_ranges (change copy' twin') (change copy twin) (64 * q) (64 * q) 64
    (λ k i. let here : (64 * q + k) / 64 ≡ q = omega arith in rw (c (64 * q + k) here, t (64 * q + k) here))

pub few_differ : (p : ℕ) (copy twin : ℕ → ℕ) → differing p copy twin ≤ 64
unfolding changes_at
few_differ p copy twin =
    let f = change copy twin in
    omega (arith, count_few (map f (range_with_len (64 * p) 64)), length-map-range_with_len f (64 * p) 64)

-- a page whose copy is its twin
pub none_differ : (p : ℕ) (copy twin : ℕ → ℕ) → ((w : ℕ) → page_of w ≡ p → copy w ≡ twin w) → differing p copy twin ≡ 0
unfolding changes_at
none_differ p copy twin h =
    no_change (change copy twin) (64 * p) 64
    (λ k i j. let e = h k (omega arith) in grind (arith, nat_tests))

-- a word written
pub one_differs :
    (w v : ℕ) (copy twin : ℕ → ℕ) → differing (page_of w) (put w v copy) twin + differs (copy w) (twin w) ≡ differing (page_of w) copy twin + differs v (twin w)
unfolding changes_at
one_differs w v copy twin =
    let h = one_place (change copy twin) (change (put w v copy) twin) w (λ k ne. grind (arith, nat_tests)) (64 * (w / 64)) 64 (omega arith) (omega arith) in
    let was : one (change copy twin w) ≡ differs (copy w) (twin w) = grind (arith, nat_tests) in
    let is : one (change (put w v copy) twin w) ≡ differs v (twin w) = grind (arith, nat_tests) in
    omega arith

-- A change on page p, and nowhere else.
module _ (p : ℕ) (copy twin copy' twin' : ℕ → ℕ) (c : (w : ℕ) → (page_of w ≡ p → ⊥) → copy' w ≡ copy w) (t : (w : ℕ) → (page_of w ≡ p → ⊥) → twin' w ≡ twin w) where
  other_page : (q : ℕ) → (q ≡ p → ⊥) → differing q copy' twin' ≡ differing q copy twin
  other_page q ne =
      ap change_count (same_changes q copy twin copy' twin' (λ w e. c w (λ f. ne (sym e ∙ f))) (λ w e. t w (λ f. ne (sym e ∙ f))))

  pub elsewhere : (ps : List ℕ) → is_in p ps ≡ false → dirty_words ps copy' twin' ≡ dirty_words ps copy twin
  elsewhere [] h = refl
  elsewhere (q ∷ qs) h =
      let ne : q ≡ p → ⊥ = λ e. grind (arith, nat_tests) in
      let rest = elsewhere qs (grind (arith, nat_tests)) in
      let here = other_page q ne in
      omega arith

  pub on_one_page : (ps : List ℕ) → T (once ps) → is_in p ps ≡ true → dirty_words ps copy' twin' + differing p copy twin ≡ dirty_words ps copy twin + differing p copy' twin'
  on_one_page [] o h = let z : ◌≡◌ {A = ℕ} 0 1 = cc in absurd (omega arith)
  on_one_page (q ∷ qs) o h =
      elim (eqb_tells q p) [
        | inl e ↦
            (let rest = elsewhere qs (grind (arith, nat_tests)) in
            let here : differing q copy' twin' ≡ differing p copy' twin' = ap (λ x. differing x copy' twin') e.1 in
            let was : differing q copy twin ≡ differing p copy twin = ap (λ x. differing x copy twin) e.1 in
            omega arith)
        | inr e ↦
            (let rest = on_one_page qs (grind (arith, nat_tests)) (grind (arith, nat_tests)) in
            let here = other_page q e.1 in
            omega arith)
      ]

-- one page more
pub dirty_push : (p : ℕ) (ps : List ℕ) (copy twin : ℕ → ℕ) → dirty_words (ps ++ (p ∷ [])) copy twin ≡ dirty_words ps copy twin + differing p copy twin
dirty_push p [] copy twin = omega arith
dirty_push p (q ∷ qs) copy twin = let h = dirty_push p qs copy twin in omega arith

pub few_dirty : (ps : List ℕ) (copy twin : ℕ → ℕ) → dirty_words ps copy twin ≤ 64 * length ps
few_dirty [] copy twin = omega arith
few_dirty (p ∷ ps) copy twin = let h = few_dirty ps copy twin in let f = few_differ p copy twin in omega arith

-- none is dirty just where all pages are clean
pub none_dirty : (ps : List ℕ) (copy twin : ℕ → ℕ) → eqb (dirty_words ps copy twin) 0 ≡ are_clean ps copy twin
none_dirty [] copy twin = refl
none_dirty (p ∷ ps) copy twin = let h = none_dirty ps copy twin in grind (arith, nat_tests)

pub page_dirty : (p : ℕ) (ps : List ℕ) (copy twin : ℕ → ℕ) → is_in p ps ≡ true → differing p copy twin ≤ dirty_words ps copy twin
page_dirty p [] copy twin h = let z : ◌≡◌ {A = ℕ} 0 1 = cc in absurd (omega arith)
page_dirty p (q ∷ qs) copy twin h =
    elim (eqb_tells q p) [
      | inl t ↦ rw t.1 (omega arith)
      | inr t ↦ (let rest = page_dirty p qs copy twin (grind (arith, nat_tests)) in omega arith)
    ]
