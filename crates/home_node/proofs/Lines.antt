-- Searches along the line of those who wait.
use Rattle.std.proofs.Common.{◌≡◌, ℕ, suc, ◌+◌, ◌≤◌, Bool, ltb, cond, eqb, List, [], ◌∷◌, length, Some, None, Option, inl, inr, refl, ap, ◌∙◌, arith, position}
use Rattle.std.specs.List.{find, position_or_len, remove, slice_get}
use Rattle.std.specs.Option.{option_map}
use Rattle.std.proofs.lemmas.Option.{slice_get-get_or, slice_get_past}
use Rattle.std.proofs.lemmas.List.{append-nil, drop_all, take_all}
use Rattle.std.proofs.lemmas.Bool.Decides.{eqb_tells, leb_tells, nat_tests}
use Rattle.model.specs.declared.Waiter.{Waiter}
use Rattle.model.specs.Locks.{waits_with, first_for, without_first}
use Rattle.home_node.specs.Lines.{Found}

number_of_first : (s : ℕ) (ws : List Waiter) → option_map (λ w. w.number) (find (λ w. eqb w.station s) ws) ≡ waits_with s ws
number_of_first s [] = refl
number_of_first s (w ∷ ws) = let e = number_of_first s ws in grind (arith, nat_tests)

number_through : {A : Type 0} (v : A → Waiter) (found : Option A) → option_map (λ x. (v x).number) found ≡ option_map (λ w. w.number) (option_map v found)
number_through v None = refl
number_through v (Some x) = refl

-- the first waiter of the station, if there is one, waits with this number
pub number_found : {A : Type 0} (v : A → Waiter) (found : Option A) (s : ℕ) (ws : List Waiter) → option_map v found ≡ find (λ w. eqb w.station s) ws → option_map (λ x. (v x).number) found ≡ waits_with s ws
number_found v found s ws e = number_through v found ∙ ap (option_map (λ w. w.number)) e ∙ number_of_first s ws

module _ (l : ℕ) where
  abbrev waits_for : Waiter → Bool
  waits_for w = eqb w.lock l

  first : (ws : List Waiter) → first_for l ws ≡ slice_get ws (position_or_len waits_for ws)
  first [] = refl
  first (w ∷ ws) = let e = first ws in grind (arith, nat_tests)

  others : (ws : List Waiter) → without_first l ws ≡ remove ws (position_or_len waits_for ws)
  others [] = refl
  others (w ∷ ws) =
      let next : 1 + position_or_len waits_for ws ≡ suc (position_or_len waits_for ws) = omega arith in
      elim (eqb_tells w.lock l) [
        | inl t ↦ rw t.0 refl
        | inr t ↦ rw t.0 (rw next (ap (λ r. w ∷ r) (others ws)))
      ]

  remove_past : (ws : List Waiter) (i : ℕ) → length ws ≤ i → remove ws i ≡ ws
  remove_past ws i h = rw (take_all i ws h, drop_all (suc i) ws (omega arith)) (append-nil ws)

  at_place : (ws : List Waiter) (i : ℕ) → i ≡ position_or_len waits_for ws → Found l ws (cond (ltb i (length ws)) (Some i) None)
  at_place ws i e =
      let f : first_for l ws ≡ slice_get ws i = rw e (first ws) in
      let o : without_first l ws ≡ remove ws i = rw e (others ws) in
      elim (leb_tells (suc i) (length ws)) [
        | inl t ↦ rw t.0 (t.1, λ d. f ∙ slice_get-get_or ws i d t.1, o)
        | inr t ↦ rw t.0 (f ∙ slice_get_past ws i (omega (arith, t.1)), o ∙ remove_past ws i (omega (arith, t.1)))
      ]

  -- the place of the first that waits for the lock, if anybody does
  pub placed : (ws : List Waiter) → Found l ws (position waits_for ws)
  placed ws = at_place ws _ refl
