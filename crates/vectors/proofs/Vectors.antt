-- What happens before the next event is what its vector counts: event after event, each station's and each lock's vector counts what reaches it. Assumes nothing.
use Rattle.std.proofs.Common.{eqb, ◌≡◌, ℕ, ◌⊎◌, List, [], ◌∷◌, Some, None, Option, refl, inl, arith}
use Rattle.std.proofs.lemmas.Bool.Decides.{nat_tests}
use Rattle.std.proofs.lemmas.Bool.{cond_both, eqb-true}
use Rattle.trace.specs.declared.Event.{Event}
use Rattle.trace.specs.Events.{by, acquires, releases}
use Rattle.trace.proofs.Places.{before_rises}
use Rattle.vectors.specs.Check.{Vector, Clocks, joined, before, up_to, changed, greatest, clocks_with, after}
use Rattle.vectors.specs.Laws.{count, VectorsTell}
use Rattle.vectors.proofs.Reaching.{Reached, By, Frees, Freed, Ends, Leads, reached_within, reached_more, reached_less, ends_more, before_leads, leads_before}
use Rattle.vectors.proofs.Exact.{Exact, exact_same, exact_join, exact_more, exact_own}

-- what holds at each time: a station's vector counts what its events reach, a lock's what its releases reach
record Sound (es : List Event) (c : Clocks) : Type 0 where
  stations : (i : ℕ) → Exact es (c.station i) (Reached es (By i))
  locks : (l : ℕ) → Exact es (c.lock l) (Reached es (Frees l))
  own : (i : ℕ) → c.station i i ≡ count i es

module _ {es : List Event} {c : Clocks} (k : Sound es c) where
  -- with the vector of a lock or of none, of any station
  joined_exact : (i : ℕ) (a : Option ℕ) → Exact es (joined c.lock a (c.station i)) (λ m. Reached es (By i) m ⊎ Freed es a m)
  joined_exact i None = exact_same (λ m r. inl r) (λ m r. grind arith) (k.stations i)
  joined_exact i (Some l) = exact_join (k.stations i) (k.locks l)

  -- with that of the lock that an event acquires, if any: what leads to it
  leads_exact : (f : Event) (a : Option ℕ) → acquires f ≡ a → Exact es (joined c.lock a (c.station (by f))) (Leads es f)
  leads_exact f None h = exact_same (λ m r. grind arith) (λ m r. grind arith) (joined_exact (by f) None)
  leads_exact f (Some l) h = exact_same (λ m r. grind arith) (λ m r. grind arith) (joined_exact (by f) (Some l))

  joined_own : (i : ℕ) (a : Option ℕ) → joined c.lock a (c.station i) i ≡ count i es
  joined_own i None = k.own i
  joined_own i (Some l) = grind (arith, nat_tests, k.own i, (k.locks l).within i)

  before_exact : (f : Event) → Exact es (before c f) (Leads es f)
  before_exact f = leads_exact f (acquires f) refl

  up_to_exact : (f : Event) → Exact (f ∷ es) (up_to c f) (Ends es f)
  up_to_exact f =
      exact_same (λ m w. grind (arith, leads_before es f m)) (λ m w. grind (arith, before_leads es f {m = m} refl))
      (exact_own f (λ m r. omega (arith, before_rises (leads_before es f m r))) (before_exact f) (joined_own (by f) (acquires f)))

  -- a kind that the next event is not of
  others_exact : (f : Event) {v : Vector} (P : Event → Type 0) → (P f → ⊥) → Exact es v (Reached es P) → Exact (f ∷ es) v (Reached (f ∷ es) P)
  others_exact f P none x =
      exact_same (λ m r. reached_more es f r) (λ m r. grind (arith, reached_less es f P m r)) (exact_more f (λ m r. reached_within es r) x)

  -- one that it is of: a station's last event comes after all of its others, a lock's releases need not
  station_exact : (f : Event) (i : ℕ) → by f ≡ i → Exact (f ∷ es) (up_to c f) (Reached (f ∷ es) (By i))
  station_exact f i h =
      exact_same (λ m w. ends_more es f h w) (λ m r. grind (arith, reached_less es f (By i) m r, leads_before es f m))
      (up_to_exact f)

  lock_exact : (f : Event) (l : ℕ) → releases f ≡ Some l → Exact (f ∷ es) (greatest (c.lock l) (up_to c f)) (Reached (f ∷ es) (Frees l))
  lock_exact f l h =
      exact_same
      (λ m w. grind (arith, reached_more es f {P = Frees l}, ends_more es f {P = Frees l}))
      (λ m r. grind (arith, reached_less es f (Frees l) m r))
      (exact_join (exact_more f (λ m r. reached_within es r) (k.locks l)) (up_to_exact f))

  stations_more : (f : Event) (i : ℕ) → Exact (f ∷ es) ((clocks_with c f).station i) (Reached (f ∷ es) (By i))
  stations_more f i =
      cond_both (eqb i (by f)) (up_to c f) (c.station i) (λ v. Exact (f ∷ es) v (Reached (f ∷ es) (By i)))
      (λ t. station_exact f i (grind (arith, nat_tests))) (λ t. others_exact f (By i) (λ e. grind (arith, nat_tests)) (k.stations i))

  locks_more :
      (f : Event) (l : ℕ) (r : Option ℕ) → releases f ≡ r →
      Exact (f ∷ es) (changed r (λ v. greatest v (up_to c f)) c.lock l) (Reached (f ∷ es) (Frees l))
  locks_more f l None h = others_exact f (Frees l) (λ e. cc) (k.locks l)
  locks_more f l (Some o) h =
      cond_both (eqb l o) _ _ (λ v. Exact (f ∷ es) v (Reached (f ∷ es) (Frees l)))
      (λ t. rw (← eqb-true l o t) (lock_exact f l (grind (arith, nat_tests))))
      (λ t. others_exact f (Frees l) (λ e. grind (arith, nat_tests)) (k.locks l))

  own_more : (f : Event) (i : ℕ) → (clocks_with c f).station i i ≡ count i (f ∷ es)
  own_more f i = grind (arith, nat_tests, k.own i, joined_own i (acquires f))

  sound_more : (f : Event) → Sound (f ∷ es) (clocks_with c f)
  sound_more f = record { stations = stations_more f; locks = λ l. locks_more f l (releases f) refl; own = own_more f }

none_exact : {R : ℕ → Type 0} → Exact [] (λ j. 0) R
none_exact = record { within = λ j. omega arith; counted = λ m e a c. cc; counts = λ m e a r. cc }

always_sound : (es : List Event) → Sound es (after es).clocks
always_sound [] = record { stations = λ i. none_exact; locks = λ l. none_exact; own = λ i. refl }
always_sound (f ∷ es) = sound_more (always_sound es) f

-- the vector of the next event
abbrev pub vector : List Event → Event → Vector
vector es e = before (after es).clocks e

pub vectors_tell : VectorsTell
vectors_tell es f =
    let x = before_exact (always_sound es) f in
    record {
      counts = λ m e a b. x.counts m e a (before_leads es f refl b);
      happens = λ m e a c. leads_before es f m (x.counted m e a c);
    }

-- it counts all earlier events of the event's own station
pub own_count : (es : List Event) (e : Event) → vector es e (by e) ≡ count (by e) es
own_count es e = joined_own (always_sound es) (by e) (acquires e)
