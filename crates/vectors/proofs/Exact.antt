-- A vector that counts just the events at the places of a set: the greatest of two does so for both sets together, and one event more keeps it. Assumes nothing.
use Rattle.std.proofs.Common.{◌≡◌, [], ℕ, suc, ◌<◌, ◌≤◌, ◌⊎◌, List, ◌∷◌, length, Some, arith}
use Rattle.std.proofs.lemmas.Bool.Decides.{nat_tests}
use Rattle.basics.specs.Sizes.{put}
use Rattle.trace.specs.declared.Event.{Event}
use Rattle.trace.specs.Events.{by}
use Rattle.trace.specs.Order.{event_at}
use Rattle.trace.specs.Memory.{earlier}
use Rattle.trace.proofs.Places.{at_cases, earlier_more, earlier_last}
use Rattle.vectors.specs.Check.{Vector, greatest}
use Rattle.vectors.specs.Laws.{count, Counts}

-- an event's index is how many of its station's came before it: with one event more, an event is that one, behind all others of its station,
-- or it has the index that it had
index_cases :
    (es : List Event) (f : Event) (m : ℕ) {e : Event} → event_at (f ∷ es) m ≡ Some e →
    ((m ≡ suc (length es)) × (e ≡ f) × (count (by e) (earlier m (f ∷ es)) ≡ count (by f) es)) ⊎
    ((m ≤ length es) × (event_at es m ≡ Some e) × (count (by e) (earlier m (f ∷ es)) ≡ count (by e) (earlier m es)))
index_cases es f m h =
    let k = at_cases es f m h in
    let old = earlier_more es f m in
    let last = earlier_last es f m in
    grind arith

-- an event's own index is below the count of its station's events
pub index_within : (es : List Event) (m : ℕ) {e : Event} → event_at es m ≡ Some e → count (by e) (earlier m es) < count (by e) es
index_within [] m h = cc
index_within (f ∷ es) m h = grind (arith, nat_tests, index_cases es f m h, index_within es m)

-- it counts no more than there is, and an event just where its place is in the set
pub record Exact (es : List Event) (v : Vector) (R : ℕ → Type 0) : Type 0 where
  pub within : (j : ℕ) → v j ≤ count j es
  pub counted : (m : ℕ) (e : Event) → event_at es m ≡ Some e → Counts v es m e → R m
  pub counts : (m : ℕ) (e : Event) → event_at es m ≡ Some e → R m → Counts v es m e

pub exact_same :
    {es : List Event} {v : Vector} {R S : ℕ → Type 0} → ((m : ℕ) → R m → S m) → ((m : ℕ) → S m → R m) → Exact es v R → Exact es v S
exact_same to from x =
    record { within = x.within; counted = λ m e a c. to m (x.counted m e a c); counts = λ m e a s. x.counts m e a (from m s) }

pub exact_join :
    {es : List Event} {u v : Vector} {R S : ℕ → Type 0} → Exact es u R → Exact es v S → Exact es (greatest u v) (λ m. R m ⊎ S m)
exact_join x y =
    record {
      within = λ j. grind (arith, nat_tests, x.within j, y.within j);
      counted = λ m e a c. grind (arith, nat_tests, x.counted m e, y.counted m e);
      counts = λ m e a w. grind (arith, nat_tests, x.counts m e a, y.counts m e a);
    }

module _ {es : List Event} (f : Event) {v : Vector} {R : ℕ → Type 0} (old : (m : ℕ) → R m → m ≤ length es) (x : Exact es v R) where
  -- with an event more that the vector does not count
  pub exact_more : Exact (f ∷ es) v R
  exact_more =
      record {
        within = λ j. grind (arith, nat_tests, x.within j);
        counted = λ m e a c. grind (arith, index_cases es f m a, x.within (by e), x.counted m e);
        counts = λ m e a r. grind (arith, index_cases es f m a, old m r, x.counts m e);
      }

  -- with an event more that it does count, having counted all earlier ones of that station
  pub exact_own : v (by f) ≡ count (by f) es → Exact (f ∷ es) (put (by f) (suc (v (by f))) v) (λ m. (m ≡ suc (length es)) ⊎ R m)
  exact_own all =
      record {
        within = λ j. grind (arith, nat_tests, x.within j);
        counted = λ m e a c. grind (arith, nat_tests, index_cases es f m a, index_within es m, x.counted m e);
        counts = λ m e a r. grind (arith, nat_tests, index_cases es f m a, old m, x.counts m e);
      }
