-- The last access of a kind, held against the next event: the vector finds it just where it does not come before that. Assumes nothing.
use Rattle.std.proofs.Common.{nat_lt, ◌≡◌, ℕ, ◌<◌, List, Some, arith}
use Rattle.std.proofs.lemmas.Bool.Decides.{nat_tests}
use Rattle.std.proofs.lemmas.Bool.{cond_both}
use Rattle.trace.specs.declared.Event.{Event}
use Rattle.trace.specs.declared.Placed.{Placed}
use Rattle.trace.specs.Events.{by, value_of}
use Rattle.trace.specs.Order.{event_at, Before, through, Conflict}
use Rattle.trace.proofs.Places.{before_more}
use Rattle.vectors.specs.declared.Access.{Access}
use Rattle.vectors.specs.Check.{Vector, unordered}
use Rattle.vectors.proofs.Found.{Of, Reaches}
use Rattle.vectors.proofs.Latest.{Last, none, some}
use Rattle.vectors.proofs.Reaching.{Precedes}
use Rattle.vectors.proofs.Vectors.{vector, vectors_tell}

-- it stands where it was found, conflicts with the next event and does not come before it
pub record Open (es : List Event) (e : Event) (p : Placed) : Type 0 where
  pub there : event_at es p.place ≡ Some p.event
  pub conflict : Conflict p.event e
  pub unordered : Precedes es e p.place → ⊥

-- of any kind of access, the last one, a, as the event x that it was
module _ (es : List Event) (e : Event) (kind : Event → Type 0) (s : ℕ) (a : Access) (x : Event) where
  abbrev v : Vector
  v = vector es e

  -- what is found is open
  pub last_open :
      ((g : Event) → kind g → by g ≡ s → value_of g ≡ a.value → g ≡ x) → ((g : Event) → kind g → Conflict g e) → Last es kind s a →
      Of (Open es e) (unordered v s a x)
  last_open same clash (none z never) = grind (arith, nat_tests)
  last_open same clash (some g l) =
      let same-g = same g l.of_kind l.station l.value in
      let conflict = clash g l.of_kind in
      let counts = (vectors_tell es e).counts a.place g l.there in
      cond_both (nat_lt (v s) a.count) _ _ (Of (Open es e))
      (λ t. record { there = cc; conflict = rw same-g at conflict; unordered = λ b. grind (arith, nat_tests) }) (λ _. tt)

  -- if those of the kind are ordered, it lies no earlier than any of them that does not come before the next event
  pub last_reaches :
      (m : ℕ) (f : Event) → event_at es m ≡ Some f → kind f → (Precedes es e m → ⊥) →
      ((p : ℕ) (g : Event) → event_at es p ≡ Some g → kind g → m < p → Before es m p) → Last es kind s a → Reaches m (unordered v s a x)
  last_reaches m f h k apart chain (none z never) = absurd (never m f h k)
  last_reaches m f h k apart chain (some g l) =
      let latest = l.latest m f h k in
      let happens = (vectors_tell es e).happens a.place g l.there in
      let first = chain a.place g l.there l.of_kind in
      cond_both (nat_lt (v s) a.count) _ _ (Reaches m) (λ _. latest) (λ t. grind (arith, nat_tests, before_more {es = es} e, through))
