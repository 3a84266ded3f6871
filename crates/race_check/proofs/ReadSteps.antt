-- The latest unordered read among the first stations, one station more at a time. Assumes nothing.
use Rattle.std.proofs.Common.{◌≡◌, ℕ, suc, ◌+◌, ◌<◌, List, ◌∷◌, length, get_or, drop, None, Option, refl, ap, ◌∙◌, add-one}
use Rattle.std.proofs.lemmas.List.{drop_more}
use Rattle.trace.specs.declared.Event.TheVariants.{Read}
use Rattle.trace.specs.declared.Placed.{Placed}
use Rattle.vectors.specs.declared.Access.{Access}
use Rattle.vectors.specs.Check.{Vector, never, unordered, later, unordered_read}
use Rattle.race_check.specs.Rows.{accesses_of}

pub none_at_first : (v : Vector) (w : ℕ) (rs : ℕ → Access) → None ≡ unordered_read 0 v w rs
unfolding unordered_read
none_at_first v w rs = refl

pub with_next : (v : Vector) (w : ℕ) (rs : ℕ → Access) (j : ℕ) → later (unordered_read j v w rs) (unordered v j (rs j) (Read j w (rs j).value)) ≡ unordered_read (suc j) v w rs
unfolding unordered_read
with_next v w rs j = refl

-- the read of station j, and those that are left
module _ (rs : List Access) (j : ℕ) (read : Access) (left : List Access) (below : j < length rs) (is : read ∷ left ≡ drop j rs) where
  pub read_is : read ≡ get_or rs j never
  read_is = let more = drop_more rs j never below in cc

  pub left_is : left ≡ drop (j + 1) rs
  left_is = let more = drop_more rs j never below in cc

  pub one_more :
      (v : Vector) (w : ℕ) (latest found next : Option Placed) → latest ≡ unordered_read j v w (accesses_of rs) → found ≡ unordered v j read (Read j w read.value) →
      next ≡ later latest found → next ≡ unordered_read (j + 1) v w (accesses_of rs)
  one_more v w latest found next e f g =
      rw add-one
      (g ∙ ap (λ x. later x found) e ∙ ap (λ x. later (unordered_read j v w (accesses_of rs)) x) (rw read_is at f) ∙ with_next v w (accesses_of rs) j)
