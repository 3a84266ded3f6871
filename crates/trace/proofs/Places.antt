-- Places of a trace, and what happens before what there, when one event more comes. Assumes nothing.
use Rattle.std.proofs.Common.{◌≡◌, ℕ, suc, ◌<◌, ◌≤◌, ◌⊎◌, List, [], ◌∷◌, length, Some, sym, refl, ◌∙◌, inl, inr, arith}
use Rattle.std.proofs.lemmas.Bool.Decides.{nat_tests, eqb_tells}
use Rattle.trace.specs.declared.Event.{Event}
use Rattle.trace.specs.Order.{event_at, Before, own, lock, through}
use Rattle.trace.specs.Memory.{earlier}

pub at_within : (es : List Event) (n : ℕ) {e : Event} → event_at es n ≡ Some e → n ≤ length es
at_within [] n h = cc
at_within (f ∷ es) n h = grind (arith, nat_tests, at_within es n)

pub at_last : (es : List Event) (e : Event) → event_at (e ∷ es) (suc (length es)) ≡ Some e
at_last es e = grind (arith, nat_tests)

pub at_more : (es : List Event) (f : Event) (n : ℕ) → n ≤ length es → event_at (f ∷ es) n ≡ event_at es n
at_more es f n h = grind (arith, nat_tests)

-- an event stays at its place
pub at_stays : (es : List Event) (f : Event) (n : ℕ) {e : Event} → event_at es n ≡ Some e → event_at (f ∷ es) n ≡ Some e
at_stays es f n h = at_more es f n (at_within es n h) ∙ h

-- an event is the last one or an earlier one
pub at_cases :
    (es : List Event) (f : Event) (n : ℕ) {e : Event} → event_at (f ∷ es) n ≡ Some e →
    ((n ≡ suc (length es)) × (e ≡ f)) ⊎ ((n ≤ length es) × (event_at es n ≡ Some e))
at_cases es f n {e} h =
    elim (eqb_tells n (suc (length es))) [
      | inl t ↦ inl (t.1, grind (arith, t.0))
      | inr t ↦ let k = rw t.0 at h in inr (at_within es n k, k)
    ]

earlier_all : (es : List Event) (n : ℕ) → length es < n → earlier n es ≡ es
earlier_all [] n h = refl
earlier_all (e ∷ es) n h = grind (arith, nat_tests)

pub earlier_more : (es : List Event) (f : Event) (n : ℕ) → n ≤ suc (length es) → earlier n (f ∷ es) ≡ earlier n es
earlier_more es f n h = grind (arith, nat_tests)

-- what came before the last event
pub earlier_last : (es : List Event) (f : Event) (n : ℕ) → n ≡ suc (length es) → earlier n (f ∷ es) ≡ es
earlier_last es f n h = earlier_more es f n (omega arith) ∙ earlier_all es n (omega arith)

pub before_rises : {es : List Event} {m n : ℕ} → Before es m n → m < n
before_rises (own e f a b l s) = l
before_rises (lock e f k a b l r q) = l
before_rises (through k x y) = omega (arith, before_rises x, before_rises y)

pub before_more : {es : List Event} (g : Event) {m n : ℕ} → Before es m n → Before (g ∷ es) m n
before_more {es} g {m} {n} (own e f a b l s) = own e f (at_stays es g m a) (at_stays es g n b) l s
before_more {es} g {m} {n} (lock e f k a b l r q) = lock e f k (at_stays es g m a) (at_stays es g n b) l r q
before_more g (through k x y) = through k (before_more g x) (before_more g y)

pub before_less : {es : List Event} (g : Event) {m n : ℕ} → n ≤ length es → Before (g ∷ es) m n → Before es m n
before_less {es} g {m} {n} h (own e f a b l s) =
    own e f (sym (at_more es g m (omega arith)) ∙ a) (sym (at_more es g n h) ∙ b) l s
before_less {es} g {m} {n} h (lock e f k a b l r q) =
    lock e f k (sym (at_more es g m (omega arith)) ∙ a) (sym (at_more es g n h) ∙ b) l r q
before_less g h (through k x y) = through k (before_less g (omega (arith, before_rises y)) x) (before_less g h y)
