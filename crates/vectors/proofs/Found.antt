-- The later of two findings, and the latest among the stations' reads: what holds of each holds of it, and it lies as late as any. Assumes nothing.
use Rattle.std.proofs.Common.{ℕ, zero, suc, ◌<◌, ◌≤◌, Some, None, Option, arith}
use Rattle.std.proofs.lemmas.Bool.Decides.{nat_tests}
use Rattle.trace.specs.declared.Event.TheVariants.{Read}
use Rattle.trace.specs.declared.Placed.{Placed}
use Rattle.vectors.specs.declared.Access.{Access}
use Rattle.vectors.specs.Check.{Vector, unordered, later, unordered_read}

-- P holds of what was found
abbrev pub Of : (Placed → Type 0) → Option Placed → Type 0
Of P None = Unit {0}
Of P (Some p) = P p

-- something was found, at place m or later
abbrev pub Reaches : ℕ → Option Placed → Type 0
Reaches m None = ⊥
Reaches m (Some p) = m ≤ p.place

pub later_of : (P : Placed → Type 0) (a b : Option Placed) → Of P a → Of P b → Of P (later a b)
later_of P (Some p) (Some q) h k = grind (arith, nat_tests)
later_of P None (Some q) h k = k
later_of P (Some p) None h k = h
later_of P None None h k = tt

pub reaches_left : (m : ℕ) (a b : Option Placed) → Reaches m a → Reaches m (later a b)
reaches_left m (Some p) (Some q) h = grind (arith, nat_tests)
reaches_left m (Some p) None h = h
reaches_left m None b h = absurd h

pub reaches_right : (m : ℕ) (a b : Option Placed) → Reaches m b → Reaches m (later a b)
reaches_right m (Some p) (Some q) h = grind (arith, nat_tests)
reaches_right m None (Some q) h = h
reaches_right m a None h = absurd h

module _ (v : Vector) (w : ℕ) (rs : ℕ → Access) where
  abbrev read_of : ℕ → Option Placed
  read_of j = unordered v j (rs j) (Read j w (rs j).value)

  pub reads_of : (P : Placed → Type 0) → ((j : ℕ) → Of P (read_of j)) → (n : ℕ) → Of P (unordered_read n v w rs)
  unfolding unordered_read
  reads_of P each zero = tt
  reads_of P each (suc n) = later_of P _ _ (reads_of P each n) (each n)

  pub reads_reach : (m j n : ℕ) → j < n → Reaches m (read_of j) → Reaches m (unordered_read n v w rs)
  unfolding unordered_read
  reads_reach m j zero l h = absurd (omega arith)
  reads_reach m j (suc n) l h =
      let before = reads_reach m j n in
      grind (arith, reaches_right m (unordered_read n v w rs) (read_of n), reaches_left m (unordered_read n v w rs) (read_of n))
