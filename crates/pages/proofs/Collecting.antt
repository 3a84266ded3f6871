-- The walk along a page's words that collects those that differ: what it has found below a place.
use Rattle.std.proofs.Common.{◌≡◌, ℕ, zero, suc, ◌+◌, ◌<◌, ◌≤◌, List, [], ◌∷◌, ◌++◌, map, length, get_or, set, replicate, Some, None, Option, sym, refl, ap, ◌∙◌, inl, inr, arith, rules, below_more}
use Rattle.std.specs.List.{range_with_len}
use Rattle.std.proofs.lemmas.List.FromFn.{length-map-range_with_len, get_or-map-range_with_len, fill_by_all}
use Rattle.std.proofs.lemmas.List.{places, same_lists, get_or_default, get_or_past}
use Rattle.std.proofs.lemmas.Bool.{eq-eqb, ne_eqb, cases_lt}
use Rattle.basics.proofs.Tables.{fill_at}
use Rattle.model.specs.Bytes.{change_count}
use Rattle.model.specs.Cache.{change, changes_at}
use Rattle.pages.specs.Memory.{memory}

-- a change counts for one
abbrev pub one : Option ℕ → ℕ
one None = 0
one (Some v) = 1

-- one more change at the end
pub count_push : (cs : List (Option ℕ)) (c : Option ℕ) → change_count (cs ++ (c ∷ [])) ≡ change_count cs + one c
unfolding change_count
count_push [] None = refl
count_push [] (Some v) = refl
count_push (None ∷ cs) c = count_push cs c
count_push (Some v ∷ cs) c = let h = count_push cs c in omega arith

-- one more change at a place that had none
count_set : (cs : List (Option ℕ)) (i v : ℕ) → i < length cs → get_or cs i None ≡ None → change_count (set cs i (Some v)) ≡ change_count cs + 1
unfolding change_count
count_set [] i v h none = absurd (omega arith)
count_set (None ∷ cs) zero v h none = omega arith
count_set (Some x ∷ cs) zero v h none = cc
count_set (None ∷ cs) (suc i) v h none = count_set cs i v (omega arith) none
count_set (Some x ∷ cs) (suc i) v h none = let more = count_set cs i v (omega arith) none in omega arith

pub count_few : (cs : List (Option ℕ)) → change_count cs ≤ length cs
unfolding change_count
count_few [] = omega arith
count_few (None ∷ cs) = let h = count_few cs in omega arith
count_few (Some v ∷ cs) = let h = count_few cs in omega arith

-- where no place has a change the count is 0
none_counted : (cs : List (Option ℕ)) → ((k : ℕ) → get_or cs k None ≡ None) → change_count cs ≡ 0
unfolding change_count
none_counted [] h = refl
none_counted (None ∷ cs) h = none_counted cs (λ k. h (suc k))
none_counted (Some v ∷ cs) h = let e = h 0 in cc

-- the same changes at the same places count the same, also where one list is longer
same_counted : (cs ds : List (Option ℕ)) → ((k : ℕ) → get_or cs k None ≡ get_or ds k None) → change_count cs ≡ change_count ds
unfolding change_count
same_counted [] ds h = sym (none_counted ds (λ k. sym (h k)))
same_counted cs [] h = none_counted cs h
same_counted (None ∷ cs) (None ∷ ds) h = same_counted cs ds (λ k. h (suc k))
same_counted (Some v ∷ cs) (Some x ∷ ds) h = let e = same_counted cs ds (λ k. h (suc k)) in omega arith
same_counted (c ∷ cs) (d ∷ ds) h = let e = h 0 in cc

-- copy: the copy; old, twin: the twin as it was and as it is; i: the place
pub record Collected (copy old twin : List ℕ) (changes : List (Option ℕ)) (count i : ℕ) : Type 0 where
  pub same : (k : ℕ) → k < i → get_or twin k 0 ≡ get_or copy k 0
  pub rest : (k : ℕ) → i ≤ k → get_or twin k 0 ≡ get_or old k 0
  pub found : (k : ℕ) → k < i → get_or changes k None ≡ change (memory copy) (memory old) k
  pub none : (k : ℕ) → i ≤ k → get_or changes k None ≡ None
  pub size : length changes ≡ 64
  pub tally : count ≡ change_count changes

module _ {copy old twin : List ℕ} {changes : List (Option ℕ)} {count i : ℕ} (w : Collected copy old twin changes count i) where
  -- the count is that of the changes below the place
  pub tallied : count ≡ change_count (map (change (memory copy) (memory old)) (range_with_len 0 i))
  tallied =
      let f = change (memory copy) (memory old) in
      w.tally ∙ same_counted changes (map f (range_with_len 0 i))
      (λ k.
      elim (cases_lt k i) [
        | inl h ↦ w.found k h ∙ sym (get_or-map-range_with_len f 0 i k k None h (omega arith))
        | inr h ↦ w.none k h ∙ sym (get_or_past (map f (range_with_len 0 i)) k None (omega (arith, length-map-range_with_len f 0 i)))
      ])

  -- so it is no more than the place
  pub few_collected : count ≤ i
  few_collected =
      let f = change (memory copy) (memory old) in
      omega (arith, tallied, count_few (map f (range_with_len 0 i)), length-map-range_with_len f 0 i)

  -- nor than a page has words, whatever the place
  pub few_in_all : count ≤ 64
  few_in_all = omega (arith, w.tally, w.size, count_few changes)

pub none_collected : (copy twin : List ℕ) → Collected copy twin twin (replicate 64 None) 0 0
unfolding change_count
none_collected copy twin =
    record {
      same = λ k h. absurd (omega arith);
      rest = λ k h. refl;
      found = λ k h. absurd (omega arith);
      none = λ k h. fill_at None 64 k;
      size = refl;
      tally = refl;
    }

module _ {copy old twin : List ℕ} {changes : List (Option ℕ)} {count i : ℕ} (w : Collected copy old twin changes count i) where
  was : get_or twin i 0 ≡ get_or old i 0
  was = w.rest i (omega arith)

  -- a word that differs
  module _ (ne : get_or copy i 0 ≡ get_or twin i 0 → ⊥) (h : i < length twin) (room : i < 64) where
    differs : change (memory copy) (memory old) i ≡ Some (get_or copy i 0)
    differs = rw (ne_eqb (get_or copy i 0) (get_or old i 0) (λ e. ne (e ∙ sym was)))

    here : get_or (set changes i (Some (get_or copy i 0))) i None ≡ Some (get_or copy i 0)
    here = search (rules, places)

    pub one_collected : Collected copy old (set twin i (get_or copy i 0)) (set changes i (Some (get_or copy i 0))) (count + 1) (i + 1)
    one_collected =
        record {
          same = below_more _ _ (λ k b. grind (arith, places, w.same)) (search (rules, places));
          rest = λ k b. grind (arith, places, w.rest);
          found = below_more _ _ (λ k b. grind (arith, places, w.found)) (here ∙ sym differs);
          none = λ k b. grind (arith, places, w.none);
          size = search (rules, places);
          tally = omega (arith, w.tally, count_set changes i (get_or copy i 0) (omega (arith, w.size)) (w.none i (omega arith)));
        }

  -- a word that does not
  module _ (eq : get_or copy i 0 ≡ get_or twin i 0) where
    agrees : change (memory copy) (memory old) i ≡ None
    agrees = rw (eq-eqb (get_or copy i 0) (get_or old i 0) (eq ∙ was))

    pub on_collected : Collected copy old twin changes count (i + 1)
    on_collected =
        record {
          same = below_more _ _ w.same (sym eq);
          rest = λ k b. w.rest k (omega arith);
          found = below_more _ _ w.found (w.none i (omega arith) ∙ sym agrees);
          none = λ k b. w.none k (omega arith);
          size = w.size;
          tally = w.tally;
        }

-- at the end of the page
module _ {copy old twin : List ℕ} {changes : List (Option ℕ)} {count i : ℕ} (w : Collected copy old twin changes count i) (end : i ≡ 64) where
  pub all_changes : changes ≡ changes_at 0 (memory copy) (memory old)
  unfolding changes_at
  all_changes =
      fill_by_all (change (memory copy) (memory old)) changes 64 None w.size (λ k h. w.found k (omega arith))

  pub all_counted : count ≡ change_count (changes_at 0 (memory copy) (memory old))
  all_counted = w.tally ∙ ap change_count all_changes

  pub all_same : length twin ≡ 64 → length copy ≡ 64 → twin ≡ copy
  all_same l m =
      same_lists twin copy (l ∙ sym m) (λ k d h. get_or_default twin k d 0 h ∙ w.same k (omega arith) ∙ get_or_default copy k 0 d (omega arith))
