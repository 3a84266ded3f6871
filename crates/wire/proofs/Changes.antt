-- The reading of a diff's changes, place by place: what was read so far, with the reading of the rest, is the whole.
use Rattle.std.proofs.Common.{◌≡◌, ℕ, zero, suc, ◌+◌, ◌-◌, ◌*◌, ◌/◌, ◌%◌, ◌<◌, ◌≤◌, true, false, eqb, List, [], ◌∷◌, ◌++◌, length, get_or, take, drop, set, replicate, Some, None, Option, Ok, Err, if◌then◌else◌, ◌==◌, ◌⊎◌, sym, refl, ap, ◌∙◌, inl, inr, add-one, arith}
use Rattle.std.proofs.lemmas.List.{append-nil, get_or-drop, get_or-take, drop_more, drop-drop, drop_all, take_more, take_more_set, length-set, length-drop, get_or-set_other, take_all}
use Rattle.std.proofs.lemmas.Bool.{cases_lt}
use Rattle.std.proofs.lemmas.Bool.Decides.{nat_tests}
use Rattle.basics.proofs.Tables.{fill_at}
use Rattle.std.specs.Simd.{first_chunks}
use Rattle.basics.specs.declared.Refusal.TheVariants.{Malformed}
use Rattle.basics.specs.Numbers.{u32_at}
use Rattle.model.specs.Bytes.{is_next, changes_from, left_from}
use Rattle.wire.proofs.Words.{u32_drop, u32_take}
use Rattle.wire.proofs.Written.{moved}

-- the next byte is this place, or is another, or there is none
next_told : (bs : List ℕ) (at place : ℕ) → at < length bs → is_next place (drop at bs) ≡ eqb (get_or bs at 0) place
next_told bs at place h = ap (is_next place) (drop_more bs at 0 h)

not_next : (bs : List ℕ) (at place : ℕ) → (at < length bs → get_or bs at 0 ≡ place → ⊥) → is_next place (drop at bs) ≡ false
not_next bs at place h =
    elim (cases_lt at (length bs)) [
      | inl l ↦ next_told bs at place l ∙ (let other = h l in grind (arith, nat_tests))
      | inr l ↦ ap (is_next place) (drop_all at bs l)
    ]

pub record SoFar (bs : List ℕ) (place at : ℕ) (changes : List (Option ℕ)) : Type 0 where
  pub long : length changes ≡ 64
  pub inside : at ≤ length bs
  pub fives : (length bs - at) % 5 ≡ 0
  pub blank : (k : ℕ) → place ≤ k → get_or changes k None ≡ None
  pub read : take place changes ++ changes_from (64 - place) place (drop at bs) ≡ changes_from 64 0 bs
  pub left : left_from (64 - place) place (drop at bs) ≡ left_from 64 0 bs

-- the reading of one place
changes_next : (n place : ℕ) (bs : List ℕ) → is_next place bs ≡ true → changes_from (suc n) place bs ≡ Some (u32_at bs 1) ∷ changes_from n (place + 1) (drop 5 bs)
unfolding changes_from
changes_next n place bs e = rw (e, add-one place)

changes_other : (n place : ℕ) (bs : List ℕ) → is_next place bs ≡ false → changes_from (suc n) place bs ≡ None ∷ changes_from n (place + 1) bs
unfolding changes_from
changes_other n place bs e = rw (e, add-one place)

left_next : (n place : ℕ) (bs : List ℕ) → is_next place bs ≡ true → left_from (suc n) place bs ≡ left_from n (place + 1) (drop 5 bs)
unfolding left_from
left_next n place bs e = rw (e, add-one place)

left_other : (n place : ℕ) (bs : List ℕ) → is_next place bs ≡ false → left_from (suc n) place bs ≡ left_from n (place + 1) bs
unfolding left_from
left_other n place bs e = rw (e, add-one place)

module _ (bs : List ℕ) (place at : ℕ) (changes : List (Option ℕ)) (before : SoFar bs place at changes) (few : place < 64) where
  steps : 64 - place ≡ suc (64 - (place + 1))
  steps = omega arith

  within : place < length changes
  within = omega (arith, before.long)

  passed : is_next place (drop at bs) ≡ false → SoFar bs (place + 1) at changes
  passed e =
      record {
        long = before.long;
        inside = before.inside;
        fives = before.fives;
        blank = λ k h. before.blank k (omega arith);
        read =
            ap (λ f. f ++ changes_from (64 - (place + 1)) (place + 1) (drop at bs)) (take_more changes place None within ∙ ap (λ x. take place changes ++ x ∷ []) (before.blank place (omega arith))) ∙
            moved (take place changes) (None ∷ []) _ _ _ refl (ap (λ r. take place changes ++ r) (sym (changes_other _ place (drop at bs) e) ∙ ap (λ n. changes_from n place (drop at bs)) (sym steps)) ∙ before.read);
        left = sym (left_other _ place (drop at bs) e) ∙ ap (λ n. left_from n place (drop at bs)) (sym steps) ∙ before.left;
      }

  module _ (l : at < length bs) (e : get_or bs at 0 ≡ place) where
    named : is_next place (drop at bs) ≡ true
    named = next_told bs at place l ∙ grind (arith, nat_tests)

    word : u32_at (drop at bs) 1 ≡ u32_at bs (at + 1)
    word = u32_drop at 1 bs

    taken : SoFar bs (place + 1) (at + 5) (set changes place (Some (u32_at bs (at + 1))))
    taken =
        record {
          long = length-set _ _ _ ∙ before.long;
          inside = omega (arith, before.fives);
          fives = omega (arith, before.fives);
          blank = λ k h. get_or-set_other changes place k _ None (omega arith) ∙ before.blank k (omega arith);
          read =
              ap (λ f. f ++ changes_from (64 - (place + 1)) (place + 1) (drop (at + 5) bs)) (take_more_set changes place _ within) ∙
              moved (take place changes) (Some (u32_at bs (at + 1)) ∷ []) _ _ _ refl
              (ap (λ b. take place changes ++ (Some (u32_at bs (at + 1)) ∷ changes_from (64 - (place + 1)) (place + 1) b)) (sym (drop-drop 5 at bs)) ∙
              ap (λ w. take place changes ++ (Some w ∷ changes_from (64 - (place + 1)) (place + 1) (drop 5 (drop at bs)))) (sym word) ∙
              ap (λ r. take place changes ++ r) (sym (changes_next _ place (drop at bs) named) ∙ ap (λ n. changes_from n place (drop at bs)) (sym steps)) ∙ before.read);
          left =
              ap (λ b. left_from (64 - (place + 1)) (place + 1) b) (sym (drop-drop 5 at bs)) ∙ sym (left_next _ place (drop at bs) named) ∙ ap (λ n. left_from n place (drop at bs)) (sym steps) ∙ before.left;
        }

-- the places in between are not changed
passed_to :
    (bs : List ℕ) (at : ℕ) (changes : List (Option ℕ)) (n place k : ℕ) → k ≡ place + n → k ≤ 64 → SoFar bs place at changes → ((j : ℕ) → place ≤ j → j < k → is_next j (drop at bs) ≡ false) →
    SoFar bs k at changes
passed_to bs at changes zero place k e h before other = let same : k ≡ place = omega arith in rw same before
passed_to bs at changes (suc n) place k e h before other =
    let more = passed bs place at changes before (omega arith) (other place (omega arith) (omega arith)) in
    passed_to bs at changes n (place + 1) k (omega arith) h more (λ j i l. other j (omega arith) l)

-- what holds when so many changes were read: places and bytes so far
pub record Taken (bs : List ℕ) (next n : ℕ) (changes : List (Option ℕ)) : Type 0 where
  pub few : next ≤ 64
  pub so_far : SoFar bs next (5 * n) changes

pub at_first : (bs : List ℕ) → length bs % 5 ≡ 0 → Taken bs 0 0 (replicate 64 None)
at_first bs f =
    let all : length bs - 0 ≡ length bs = omega arith in
    record { few = omega arith; so_far = record { long = refl; inside = omega arith; fives = rw all f; blank = λ k z. fill_at None 64 k; read = refl; left = refl } }

chunk_at : (m : ℕ) (bs : List ℕ) (i : ℕ) → i < m → get_or (first_chunks 5 m bs) i [] ≡ take 5 (drop (5 * i) bs)
chunk_at zero bs i h = absurd (omega arith)
chunk_at (suc m) bs zero h = refl
chunk_at (suc m) bs (suc i) h =
    let place : 5 + 5 * i ≡ 5 * suc i = omega arith in
    chunk_at m (drop 5 bs) i (omega arith) ∙ ap (take 5) (drop-drop (5 * i) 5 bs ∙ ap (λ n. drop n bs) place)

changes_none : (place : ℕ) (bs : List ℕ) → changes_from 0 place bs ≡ []
unfolding changes_from
changes_none place bs = refl

left_none : (place : ℕ) (bs : List ℕ) → left_from 0 place bs ≡ bs
unfolding left_from
left_none place bs = refl

module _ (bs : List ℕ) (next n : ℕ) (changes : List (Option ℕ)) (before : Taken bs next n changes) where
  -- no place from there on comes next: all that can be read is read
  module _ (other : (j : ℕ) → next ≤ j → j < 64 → is_next j (drop (5 * n) bs) ≡ false) where
    all : SoFar bs 64 (5 * n) changes
    all = passed_to bs (5 * n) changes (64 - next) next 64 (omega (arith, before.few)) (omega arith) before.so_far other

    all_read : changes ≡ changes_from 64 0 bs
    all_read =
        sym (take_all 64 changes (omega (arith, all.long))) ∙ sym (append-nil _) ∙ ap (λ r. take 64 changes ++ r) (sym (changes_none 64 (drop (5 * n) bs))) ∙ all.read

    all_left : 5 * n + length (left_from 64 0 bs) ≡ length bs
    all_left =
        ap (λ l. 5 * n + length l) (sym all.left ∙ left_none 64 (drop (5 * n) bs)) ∙ simp length-drop (omega (arith, all.inside))

  -- at the end
  pub ended : length bs ≤ 5 * n → Ok changes ≡ (if length (left_from 64 0 bs) == 0 then Ok (changes_from 64 0 bs) else Err Malformed)
  ended h =
      let other = λ (j : ℕ) (i : next ≤ j) (l : j < 64). ap (is_next j) (drop_all (5 * n) bs h) in
      let none : eqb (length (left_from 64 0 bs)) 0 ≡ true = let e = all_left other in grind (arith, nat_tests) in
      rw none (ap Ok (all_read other))

  module _ (chunks : List (List ℕ)) (front : chunks ≡ first_chunks 5 (length bs / 5) bs) (count : length chunks ≡ length bs / 5) (turn : n < length chunks) where
    here : 5 * n + 5 ≤ length bs
    here = omega arith

    is : get_or chunks n [] ≡ take 5 (drop (5 * n) bs)
    is = ap (λ cs. get_or cs n []) front ∙ chunk_at (length bs / 5) bs n (omega arith)

    first : get_or (get_or chunks n []) 0 0 ≡ get_or bs (5 * n) 0
    first = ap (λ l. get_or l 0 0) is ∙ get_or-take 5 (drop (5 * n) bs) 0 0 (omega arith) ∙ get_or-drop (5 * n) bs 0 0 ∙ ap (λ i. get_or bs i 0) (omega arith)

    -- a place that is out of range or does not rise
    pub turned_away :
        (get_or (get_or chunks n []) 0 0 < next) ⊎ (64 ≤ get_or (get_or chunks n []) 0 0) → Err Malformed ≡ (if length (left_from 64 0 bs) == 0 then Ok (changes_from 64 0 bs) else Err Malformed)
    turned_away out =
        let other = λ (j : ℕ) (i : next ≤ j) (l : j < 64). not_next bs (5 * n) j (λ _ e. elim out [ inl o ↦ omega (arith, first) | inr o ↦ omega (arith, first) ]) in
        let some : eqb (length (left_from 64 0 bs)) 0 ≡ false = let e = all_left other in grind (arith, nat_tests) in
        rw some refl

    -- the change is taken
    pub one_more :
        (w : ℕ) → w ≡ u32_at (get_or chunks n []) 1 → next ≤ get_or (get_or chunks n []) 0 0 → get_or (get_or chunks n []) 0 0 < 64 →
        Taken bs (get_or (get_or chunks n []) 0 0 + 1) (n + 1) (set changes (get_or (get_or chunks n []) 0 0) (Some w))
    one_more w v rises few =
        let k : ℕ = get_or (get_or chunks n []) 0 0 in
        let word : w ≡ u32_at bs (5 * n + 1) = v ∙ ap (λ l. u32_at l 1) is ∙ u32_take 5 1 (drop (5 * n) bs) (omega arith) ∙ u32_drop (5 * n) 1 bs in
        let there : SoFar bs k (5 * n) changes = passed_to bs (5 * n) changes (k - next) next k (omega arith) (omega arith) before.so_far (λ j i l. not_next bs (5 * n) j (λ _ e. omega (arith, first))) in
        let five : 5 * (n + 1) ≡ 5 * n + 5 = omega arith in
        record { few = omega arith; so_far = rw (five, word) (taken bs k (5 * n) changes there few (omega arith) (sym first)) }
