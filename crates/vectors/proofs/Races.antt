-- The race check: it says none of race-free traces alone, and else the first race. Assumes nothing.
use Rattle.std.proofs.Common.{◌≡◌, ℕ, suc, List, [], ◌∷◌, length, Some, None, Option, inl, inr, arith}
use Rattle.trace.specs.declared.Event.{Event}
use Rattle.trace.specs.declared.Placed.{Placed}
use Rattle.trace.specs.declared.Race.{Race}
use Rattle.trace.specs.Order.{event_at, Conflict, Clash, RaceFree, FirstRace}
use Rattle.trace.proofs.Places.{at_within, at_last, at_more, at_stays, at_cases, before_more}
use Rattle.trace.proofs.OneMore.{clash_less, race_more}
use Rattle.vectors.specs.Check.{either, race_with, unordered_with, after}
use Rattle.vectors.specs.Laws.{RaceSaid, Known}
use Rattle.vectors.proofs.Found.{Of, Reaches}
use Rattle.vectors.proofs.Held.{open_with, reach_with}
use Rattle.vectors.proofs.Latest.{places_are}
use Rattle.vectors.proofs.Reaching.{Precedes}
use Rattle.vectors.proofs.Unordered.{Open}
use Rattle.vectors.proofs.Vectors.{vectors_tell}

-- a clash of the longer trace stood there before, or its later event is the new one
data Clashes (es : List Event) (e : Event) (m n : ℕ) : Type 0 where
  old : Clash es m n → Clashes es e m n
  new : n ≡ suc (length es) → (f : Event) → event_at es m ≡ Some f → Conflict f e → Clashes es e m n

module _ (es : List Event) (e : Event) where
  clashes : (m n : ℕ) → Clash (e ∷ es) m n → Clashes es e m n
  clashes m n c =
      elim (at_cases es e n c.at_second) [
        | inl t ↦ new t.0 c.earlier (grind (arith, at_more es e m)) (rw t.1 at c.conflict)
        | inr t ↦ old (clash_less e es m n t.0 c)
      ]

  -- whatever conflicts with the new event and does not come before it lies no later than what was found
  abbrev Farthest : Option Placed → Type 0
  Farthest o = (m : ℕ) (f : Event) → event_at es m ≡ Some f → Conflict f e → (Precedes es e m → ⊥) → Reaches m o

  -- the vector decides what comes before
  ordered : Farthest None → (m : ℕ) (f : Event) → event_at es m ≡ Some f → Conflict f e → Precedes es e m
  ordered far m f h k = let tells = vectors_tell es e in grind (arith, tells.counts m f h, tells.happens m f h, far m f h k)

  -- in a race-free trace a race comes with the new event alone: what was found is the first one
  module _ (free : RaceFree es) where
    free_more : Farthest None → RaceFree (e ∷ es)
    free_more far m n c = let k = clashes m n c in grind (arith, before_more {es = es} e, free m n, ordered far m)

    first_new : (p : Placed) → Open es e p → Farthest (Some p) → FirstRace (e ∷ es) p.place (suc (length es))
    first_new p o far =
        let in-es = at_within es p.place o.there in
        record {
          race = search (arith, at_stays, at_last);
          first = λ m n r. let k = clashes m n r.clash in grind (arith, before_more {es = es} e, free m n);
          latest = λ m r. let k = clashes m (suc (length es)) r.clash in grind (arith, before_more {es = es} e, free m (suc (length es)), far m);
        }

    race_next : (o : Option Placed) → Of (Open es e) o → Farthest o → RaceSaid (e ∷ es) (race_with (suc (length es)) e o)
    race_next None found far = free_more far
    race_next (Some p) found far = search (first_new, at_stays, at_last)

  -- a race said once stays the first
  race_on :
      (r : Option Race) → RaceSaid es r → (o : Option Placed) → Of (Open es e) o → (RaceFree es → Farthest o) →
      RaceSaid (e ∷ es) (either r (race_with (suc (length es)) e o))
  race_on None free o found far = race_next free o found (far free)
  race_on (Some r) first o found far = search (arith, race_more, at_stays)

pub race_said : (es : List Event) → Known es → RaceSaid es (after es).race
race_said [] known = λ m n c. absurd cc
race_said (e ∷ es) known =
    rw (places_are es)
    (race_on es e (after es).race (race_said es known.1) (unordered_with (after es) e) (open_with es e) (reach_with es e known.1))
