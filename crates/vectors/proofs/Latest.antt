-- The tables hold the last write of each word and each station's last read of it. Assumes nothing.
use Rattle.std.proofs.Common.{eqb, ◌≡◌, ℕ, suc, ◌≤◌, List, [], ◌∷◌, length, Some, None, Option, refl, ap, arith}
use Rattle.std.proofs.lemmas.Bool.Decides.{nat_tests}
use Rattle.std.proofs.lemmas.Bool.{cond_both, eqb-true}
use Rattle.basics.specs.Sizes.{put}
use Rattle.trace.specs.declared.Event.{Event}
use Rattle.trace.specs.Events.{by, reads, writes, value_of}
use Rattle.trace.specs.Order.{event_at}
use Rattle.trace.specs.Memory.{earlier}
use Rattle.trace.proofs.Places.{at_within, at_last, at_stays, at_cases, earlier_more, earlier_last}
use Rattle.vectors.specs.declared.Access.{Access}
use Rattle.vectors.specs.declared.LastWrite.{LastWrite}
use Rattle.vectors.specs.Check.{changed, access_of, after}
use Rattle.vectors.specs.Laws.{count}
use Rattle.vectors.proofs.Vectors.{own_count}

pub places_are : (es : List Event) → (after es).places ≡ length es
places_are [] = refl
places_are (e ∷ es) = ap suc (places_are es)

-- the access is that of the event g, and no later event is of that kind
pub record IsLast (es : List Event) (kind : Event → Type 0) (s : ℕ) (a : Access) (g : Event) : Type 0 where
  pub there : event_at es a.place ≡ Some g
  pub of_kind : kind g
  pub station : by g ≡ s
  pub value : value_of g ≡ a.value
  pub number : a.count ≡ suc (count (by g) (earlier a.place es))
  pub latest : (m : ℕ) (f : Event) → event_at es m ≡ Some f → kind f → m ≤ a.place

-- the access is the last of a kind, or there was none
pub data Last (es : List Event) (kind : Event → Type 0) (s : ℕ) (a : Access) : Type 0 where
  none : a.count ≡ 0 → ((m : ℕ) (f : Event) → event_at es m ≡ Some f → kind f → ⊥) → Last es kind s a
  some : (g : Event) → IsLast es kind s a g → Last es kind s a

module _ (es : List Event) (e : Event) (kind : Event → Type 0) where
  -- the new event is the last of its kind
  last_new : (s : ℕ) → kind e → by e ≡ s → Last (e ∷ es) kind s (access_of (after es) e)
  last_new s k b =
      let place : suc (after es).places ≡ suc (length es) = ap suc (places_are es) in
      let before = earlier_last es e _ place in
      some e
      record {
        there = rw (places_are es) (at_last es e);
        of_kind = k;
        station = b;
        value = refl;
        number = grind (arith, nat_tests, own_count es e);
        latest = λ m f h _. rw (places_are es) (at_within (e ∷ es) m h);
      }

  -- and of other kinds the last one stays so
  last_same : (s : ℕ) (a : Access) → (kind e → ⊥) → Last es kind s a → Last (e ∷ es) kind s a
  last_same s a other (none z never) = none z (λ m f h k. grind (arith, at_cases es e m h, never m f))
  last_same s a other (some g l) =
      let in-es = at_within es a.place l.there in
      let number : a.count ≡ suc (count (by g) (earlier a.place (e ∷ es))) = rw (earlier_more es e a.place (omega arith)) l.number in
      let latest : (m : ℕ) (f : Event) → event_at (e ∷ es) m ≡ Some f → kind f → m ≤ a.place =
      λ m f h k. grind (arith, at_cases es e m h, l.latest m f) in
      some g (search (at_stays, number, latest))

abbrev pub Writes : ℕ → Event → Type 0
Writes w f = writes f ≡ Some w

abbrev pub ReadsBy : ℕ → ℕ → Event → Type 0
ReadsBy w j f = (reads f ≡ Some w) × (by f ≡ j)

module _ (es : List Event) (e : Event) (w : ℕ) where
  write_on :
      (o : Option ℕ) → writes e ≡ o → Last es (Writes w) ((after es).write w).station ((after es).write w).access →
      let t = changed o (λ _. record { station = by e; access = access_of (after es) e }) (after es).write w in Last (e ∷ es) (Writes w) t.station t.access
  write_on None k l = last_same es e (Writes w) _ _ (λ h. grind arith) l
  write_on (Some x) k l =
      cond_both (eqb w x) _ _ (λ (t : LastWrite). Last (e ∷ es) (Writes w) t.station t.access)
      (λ t. last_new es e (Writes w) _ (grind (arith, nat_tests)) refl) (λ t. last_same es e (Writes w) _ _ (λ h. grind (arith, nat_tests)) l)

pub last_write : (es : List Event) (w : ℕ) → Last es (Writes w) ((after es).write w).station ((after es).write w).access
last_write [] w = none refl (λ m f h k. cc)
last_write (e ∷ es) w = write_on es e w (writes e) refl (last_write es w)

module _ (es : List Event) (e : Event) (w j : ℕ) where
  read_reached :
      (o : Option ℕ) → reads e ≡ o → Last es (ReadsBy w j) j ((after es).read w j) →
      Last (e ∷ es) (ReadsBy w j) j (changed o (put (by e) (access_of (after es) e)) (after es).read w j)
  read_reached None k l = last_same es e (ReadsBy w j) _ _ (λ h. grind arith) l
  read_reached (Some x) k l =
      cond_both (eqb w x) _ _ (λ (t : ℕ → Access). Last (e ∷ es) (ReadsBy w j) j (t j))
      (λ t.
      let same = eqb-true w x t in
      cond_both (eqb j (by e)) _ _ (Last (e ∷ es) (ReadsBy w j) j)
      (λ u. last_new es e (ReadsBy w j) j (cc, grind (arith, nat_tests)) (grind (arith, nat_tests)))
      (λ u. rw (← same) (last_same es e (ReadsBy w j) j _ (λ h. grind (arith, nat_tests)) l)))
      (λ t. last_same es e (ReadsBy w j) j _ (λ h. grind (arith, nat_tests)) l)

pub last_read : (es : List Event) (w j : ℕ) → Last es (ReadsBy w j) j ((after es).read w j)
last_read [] w j = none refl (λ m f h k. cc)
last_read (e ∷ es) w j = read_reached es e w j (reads e) refl (last_read es w j)
