-- Tables that some trace led to: they leave room for one event more, and lead on with it. Assumes nothing.
use Rattle.std.proofs.Common.{◌≡◌, ℕ, ◌<◌, ◌≤◌, true, List, [], ◌∷◌, length, None, Ok, Err, Result, IfOk, sym, ap, ◌∙◌, inl, inr, arith}
use mathlib.Core.Logic.{∥∥₁_elim, ∥∥₁_prop}
use native.Mathlib.Bridge.{le_prop}
use Rattle.std.proofs.lemmas.Bool.Decides.{nat_tests, eqb_tells}
use Rattle.basics.specs.declared.Refusal.{Refusal}
use Rattle.trace.specs.declared.Event.{Event}
use Rattle.trace.specs.declared.Event.TheVariants.{Read, Write, Acquire, Release}
use Rattle.trace.specs.Events.{by, acquires, is_known}
use Rattle.vectors.specs.Check.{Vector, Tables, joined, before, stepped, after}
use Rattle.vectors.specs.Laws.{count, Known, Tells, Judged, verdict_of}
use Rattle.vectors.proofs.Held.{station_known}
use Rattle.vectors.proofs.Latest.{places_are}
use Rattle.vectors.proofs.Told.{check_tells}
use Rattle.vectors.proofs.Vectors.{vectors_tell, own_count}
use Rattle.race_check.specs.Rows.{vector_of}
use Rattle.race_check.specs.States.{Led, Reached}

count_within : (s : ℕ) (es : List Event) → count s es ≤ length es
count_within s [] = omega arith
count_within s (e ∷ es) = let h = count_within s es in grind (arith, nat_tests)

writer_next : (t : Tables) (e : Event) (w : ℕ) → by e < 16 → (t.write w).station < 16 → ((stepped t e).write w).station < 16
writer_next t (Read s u v) w k h = h
writer_next t (Write s u v) w k h = elim (eqb_tells w u) [ inl x ↦ rw x.0 k | inr x ↦ rw x.0 h ]
writer_next t (Acquire s l) w k h = h
writer_next t (Release s l) w k h = h

writer_after : (es : List Event) → Known es → (w : ℕ) → ((after es).write w).station < 16
writer_after [] k w = omega arith
writer_after (e ∷ es) k w = writer_next (after es) e w (station_known e k.0) (writer_after es k.1 w)

pub places_led : (t : Tables) (es : List Event) → Led t es → t.places ≡ length es
places_led t es l = ap (λ u. u.places) l.leads ∙ places_are es

module _ (t : Tables) (reached : Reached t) where
  pub writers : (w : ℕ) → (t.write w).station < 16
  writers w = ∥∥₁_elim reached le_prop (λ p. rw p.1.leads (writer_after p.0 p.1.known w))

  -- no station has more events than there were
  pub room_for_one : (e : Event) → t.places < 4294967295 → before t.clocks e (by e) < 4294967295
  room_for_one e h =
      ∥∥₁_elim reached le_prop (λ p.
      let es = p.0 in
      let places = places_led t es p.1 in
      let own : before t.clocks e (by e) ≡ count (by e) es = ap (λ u. before u.clocks e (by e)) p.1.leads ∙ own_count es e in
      omega (arith, places, own, count_within (by e) es))

pub judged : (t : Tables) (es : List Event) → Led t es → Judged es (verdict_of t)
judged t es l = rw l.leads (check_tells es l.known)

-- a next event that acquires nothing has its station's vector
pub vector_tells : (t : Tables) (v : Vector) (i : ℕ) (es : List Event) (next : Event) → Led t es → by next ≡ i → acquires next ≡ None → v ≡ t.clocks.station i → Tells v es next
vector_tells t v i es next l b a e =
    let own : before (after es).clocks next ≡ (after es).clocks.station (by next) = ap (λ o. joined (after es).clocks.lock o ((after es).clocks.station (by next))) a in
    let same : v ≡ before (after es).clocks next = e ∙ ap (λ u. u.clocks.station i) l.leads ∙ ap (λ j. (after es).clocks.station j) (sym b) ∙ sym own in
    rw same (vectors_tell es next)

pub tells_all :
    (t : Tables) (i : ℕ) (r : Result (List ℕ) Refusal) → IfOk r (λ v. vector_of v ≡ t.clocks.station i) →
    IfOk r (λ v. (es : List Event) (next : Event) → Led t es → by next ≡ i → acquires next ≡ None → Tells (vector_of v) es next)
tells_all t i (Ok v) h = λ es next l b a. vector_tells t (vector_of v) i es next l b a h
tells_all t i (Err why) h = tt

module _ (t u : Tables) (e : Event) (known : is_known e ≡ true) (step : u ≡ stepped t e) where
  pub led_on : (es : List Event) → Led t es → Led u (e ∷ es)
  led_on es l = record { known = (rw known tt, l.known); leads = step ∙ ap (λ x. stepped x e) l.leads }

  pub reached_on : Reached t → Reached u
  reached_on reached = ∥∥₁_elim reached ∥∥₁_prop (λ p. ∣ (e ∷ p.0, led_on p.0 p.1) ∣₁)
