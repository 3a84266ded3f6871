-- What the check finds against the next event conflicts with it and does not come before it; without earlier races, no such event lies later. Assumes nothing.
use Rattle.std.proofs.Common.{◌≡◌, ℕ, ◌<◌, T, List, [], ◌∷◌, Some, None, Option, sym, refl, arith}
use Rattle.std.proofs.lemmas.Bool.Decides.{nat_tests}
use Rattle.trace.specs.declared.Event.{Event}
use Rattle.trace.specs.declared.Event.TheVariants.{Read, Write}
use Rattle.trace.specs.Events.{by, reads, writes, value_of, is_known}
use Rattle.trace.specs.Order.{event_at, own, Conflict, RaceFree}
use Rattle.trace.proofs.Places.{at_cases}
use Rattle.vectors.specs.Check.{Vector, either, against_write, against_reads, unordered_with, after}
use Rattle.vectors.specs.Laws.{Known}
use Rattle.vectors.proofs.Conflicts.{on_write, on_read, meets, met, two_writes}
use Rattle.vectors.proofs.Found.{Of, Reaches, later_of, reaches_left, reaches_right, reads_of, reads_reach}
use Rattle.vectors.proofs.Latest.{Writes, ReadsBy, last_write, last_read}
use Rattle.vectors.proofs.Reaching.{Precedes}
use Rattle.vectors.proofs.Unordered.{Open, last_open, last_reaches}
use Rattle.vectors.proofs.Vectors.{vector}

-- a write and a read are given by their station, word and value
is_write : (s w v : ℕ) (g : Event) → writes g ≡ Some w → by g ≡ s → value_of g ≡ v → g ≡ Write s w v
is_write s w v (Write a b c) h p q = cc
is_write s w v g h p q = cc

is_read : (s w v : ℕ) (g : Event) → reads g ≡ Some w → by g ≡ s → value_of g ≡ v → g ≡ Read s w v
is_read s w v (Read a b c) h p q = cc
is_read s w v g h p q = cc

-- a station of a known trace is one of the 16
pub station_known : (f : Event) → T (is_known f) → by f < 16
station_known (Read s w v) k = grind (arith, nat_tests)
station_known f k = grind (arith, nat_tests)

known_at : (es : List Event) → Known es → (m : ℕ) (f : Event) → event_at es m ≡ Some f → by f < 16
known_at [] k m f h = cc
known_at (e ∷ es) k m f h = grind (arith, at_cases es e m h, station_known e k.0, known_at es k.1 m f)

module _ (es : List Event) (e : Event) where
  abbrev v : Vector
  v = vector es e

  write_open : (o : Option ℕ) → either (reads e) (writes e) ≡ o → Of (Open es e) (against_write (after es) v o)
  write_open None k = tt
  write_open (Some w) k =
      let t = (after es).write w in
      last_open es e (Writes w) t.station t.access _ (is_write t.station w t.access.value) (λ g h. met g e (on_write w h k))
      (last_write es w)

  reads_open : (o : Option ℕ) → writes e ≡ o → Of (Open es e) (against_reads (after es) v o)
  reads_open None k = tt
  reads_open (Some w) k =
      reads_of v w ((after es).read w) (Open es e)
      (λ j.
      let a = (after es).read w j in
      last_open es e (ReadsBy w j) j a _ (λ g h. is_read j w a.value g h.0) (λ g h. met g e (on_read w h.0 k))
      (last_read es w j))
      16

  pub open_with : Of (Open es e) (unordered_with (after es) e)
  open_with = later_of (Open es e) _ _ (write_open (either (reads e) (writes e)) refl) (reads_open (writes e) refl)

  -- an event of the trace
  module _ (known : Known es) (free : RaceFree es) (m : ℕ) (f : Event) (h : event_at es m ≡ Some f) where
    -- that does not come before the next one
    module _ (apart : Precedes es e m → ⊥) where
      -- all writes of a word are ordered, for want of races
      write_reaches : (w : ℕ) → writes f ≡ Some w → Reaches m (against_write (after es) v (Some w))
      write_reaches w k =
          last_reaches es e (Writes w) _ _ _ m f h k apart
          (λ p g there l r. free m p (record { earlier = f; later = g; at_first = h; at_second = there; rising = r; conflict = two_writes f g w k l }))
          (last_write es w)

      -- all reads of one station are ordered
      read_reaches : (w : ℕ) → reads f ≡ Some w → Reaches m (against_reads (after es) v (Some w))
      read_reaches w k =
          reads_reach v w ((after es).read w) m (by f) 16 (known_at es known m f h)
          (last_reaches es e (ReadsBy w (by f)) (by f) ((after es).read w (by f)) _ m f h (k, refl) apart
          (λ p g there l r. own f g h there r (sym l.1)) (last_read es w (by f)))

    -- one that conflicts with the next one and does not come before it
    pub reach_with : Conflict f e → (Precedes es e m → ⊥) → Reaches m (unordered_with (after es) e)
    reach_with c apart =
        elim (meets f e c) [
          | on_write w a b ↦ reaches_left m _ (against_reads (after es) v (writes e)) (rw b (write_reaches apart w a))
          | on_read w a b ↦ reaches_right m (against_write (after es) v (either (reads e) (writes e))) _ (rw b (read_reaches apart w a))
        ]
