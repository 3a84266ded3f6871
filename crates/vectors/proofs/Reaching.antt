-- What happens before the next event is what reaches an event of its station or, where it acquires a lock, a release of that lock. Assumes nothing.
use Rattle.std.proofs.Common.{◌≡◌, ℕ, suc, ◌≤◌, ◌⊎◌, List, ◌∷◌, length, Some, None, Option, refl, inl, inr, arith}
use Rattle.std.proofs.lemmas.Bool.Decides.{nat_tests}
use Rattle.trace.specs.declared.Event.{Event}
use Rattle.trace.specs.Events.{by, acquires, releases}
use Rattle.trace.specs.Order.{event_at, Before, own, lock, through}
use Rattle.trace.proofs.Places.{at_within, at_last, at_more, at_stays, at_cases, before_rises, before_more, before_less}

-- an event of the kind is at the place or happens after it
pub record Reached (es : List Event) (P : Event → Type 0) (m : ℕ) : Type 0 where
  pub place : ℕ
  pub event : Event
  pub there : event_at es place ≡ Some event
  pub fits : P event
  pub way : (m ≡ place) ⊎ Before es m place

-- the events of a station, the releases of a lock
abbrev pub By : ℕ → Event → Type 0
By i e = by e ≡ i

abbrev pub Frees : ℕ → Event → Type 0
Frees l e = releases e ≡ Some l

-- a release of the lock, where there is one to acquire, is at the place or happens after it
abbrev pub Freed : List Event → Option ℕ → ℕ → Type 0
Freed es None m = ⊥
Freed es (Some l) m = Reached es (Frees l) m

-- the next event follows directly on an event of its station, and on a release of the lock that it acquires
abbrev pub Follows : Event → Event → Type 0
Follows f e = (by e ≡ by f) ⊎ ((l : ℕ) × (releases e ≡ Some l) × (acquires f ≡ Some l))

-- it follows directly on an event that is at the place or happens after it
abbrev pub Leads : List Event → Event → ℕ → Type 0
Leads es f m = Reached es (Follows f) m

-- it happens after what is at the place
abbrev pub Precedes : List Event → Event → ℕ → Type 0
Precedes es f m = Before (f ∷ es) m (suc (length es))

-- it is at the place or happens after it
abbrev pub Ends : List Event → Event → ℕ → Type 0
Ends es f m = (m ≡ suc (length es)) ⊎ Precedes es f m

pub reached_within : (es : List Event) {P : Event → Type 0} {m : ℕ} → Reached es P m → m ≤ length es
reached_within es r = let k = at_within es r.place r.there in grind (arith, before_rises)

pub reached_more : (es : List Event) (f : Event) {P : Event → Type 0} {m : ℕ} → Reached es P m → Reached (f ∷ es) P m
reached_more es f r = let k = at_stays es f r.place r.there in grind (arith, before_more {es = es} f)

-- what happens before a place from which it is reached
reached_from : {es : List Event} {P : Event → Type 0} {m k : ℕ} → Before es m k → Reached es P k → Reached es P m
reached_from b r = grind (arith, through)

pub ends_more : (es : List Event) (f : Event) {P : Event → Type 0} {m : ℕ} → P f → Ends es f m → Reached (f ∷ es) P m
ends_more es f h w = search at_last

-- what is reached with one event more was reached before, or that event reaches it
pub reached_less : (es : List Event) (f : Event) (P : Event → Type 0) (m : ℕ) → Reached (f ∷ es) P m → Reached es P m ⊎ (P f × Ends es f m)
reached_less es f P m r = let k = at_cases es f r.place r.there in grind (arith, before_less)

-- the event at the new last place
last_is : (es : List Event) (f g : Event) (n : ℕ) → n ≡ suc (length es) → event_at (f ∷ es) n ≡ Some g → g ≡ f
last_is es f g n h b = grind (arith, nat_tests)

-- WHAT HAPPENS BEFORE THE NEXT EVENT is what leads to it.
pub before_leads : (es : List Event) (f : Event) {m n : ℕ} → n ≡ suc (length es) → Before (f ∷ es) m n → Leads es f m
before_leads es f {m} {n} h (own e g a b l s) =
    let same = last_is es f g n h b in
    let there = at_more es f m in
    record { place = m; event = e; there = grind arith; fits = inl cc; way = inl refl }
before_leads es f {m} {n} h (lock e g k a b l r q) =
    let same = last_is es f g n h b in
    let there = at_more es f m in
    record { place = m; event = e; there = grind arith; fits = inr (k, r, cc); way = inl refl }
before_leads es f h (through k x y) = reached_from (before_less f (omega (arith, before_rises y)) x) (before_leads es f h y)

pub leads_before : (es : List Event) (f : Event) (m : ℕ) → Leads es f m → Precedes es f m
leads_before es f m r =
    let within = at_within es r.place r.there in
    let there = at_stays es f r.place r.there in
    let last = at_last es f in
    let direct : Precedes es f r.place =
    elim r.fits [ inl s ↦ own r.event f there last (omega arith) s | inr t ↦ lock r.event f t.0 there last (omega arith) t.1 t.2 ] in
    grind (arith, through, before_more {es = es} f)
