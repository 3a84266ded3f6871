-- What is read off each entry of a list, as a table: one entry written is one entry replaced. Assumes nothing.
use Rattle.std.proofs.Common.{◌≡◌, ℕ, ◌<◌, Bool, true, false, cond, List, length, get_or, set, refl, ap, ◌∙◌, inl, inr, ◌==◌}
use mathlib.Core.Path.{fun_ext}
use Rattle.std.proofs.lemmas.Bool.Decides.{eqb_tells}
use Rattle.basics.specs.Sizes.{put}
use Rattle.basics.proofs.Tables.{put_set}

module _ {A B : Type 0} (f : A → B) where
  of_either : (x y : A) (b : Bool) → f (cond b x y) ≡ cond b (f x) (f y)
  of_either x y true = refl
  of_either x y false = refl

  pub entry_set : (d x : A) (xs : List A) (i : ℕ) → i < length xs → ◌≡◌ {A = ℕ → B} (λ j. f (get_or (set xs i x) j d)) (put i (f x) (λ j. f (get_or xs j d)))
  entry_set d x xs i h = ap (λ t j. f (t j)) (put_set d x xs i h) ∙ fun_ext (λ j. of_either x (get_or xs j d) (j == i))

pub put_same : {A : Type 0} (i : ℕ) (t : ℕ → A) → put i (t i) t ≡ t
put_same i t = fun_ext (λ j. elim (eqb_tells j i) [ inl e ↦ rw (e.0, e.1) refl | inr e ↦ rw e.0 refl ])
