-- What a step does to the vectors is what an event changes in the clocks of the check. Assumes nothing.
use Rattle.std.proofs.Common.{◌≡◌, ℕ, true, ◌+◌, ◌<◌, List, [], length, get_or, set, Some, None, refl, ap, ◌∙◌, add-one, arith}
use Rattle.std.proofs.lemmas.Bool.Decides.{nat_tests}
use Rattle.basics.proofs.Tables.{put_set}
use Rattle.trace.specs.declared.Event.{Event}
use Rattle.trace.specs.declared.Event.TheVariants.{Read, Write, Acquire, Release}
use Rattle.trace.specs.Events.{by, releases, is_known}
use Rattle.vectors.specs.Check.{before, up_to, clocks_with, greatest}
use Rattle.basics.specs.Sizes.{put}
use Rattle.vectors.proofs.Held.{station_known}
use Rattle.race_check.specs.declared.clocks.VectorClocks.{VectorClocks}
use Rattle.race_check.specs.Rows.{vector_of, vectors_of}
use Rattle.race_check.specs.States.{clocks_of}
use Rattle.race_check.proofs.Entries.{entry_set}

pub no_release : (e : Event) → ((s l : ℕ) → e ≡ Release s l → ⊥) → releases e ≡ None
no_release (Read s w v) h = refl
no_release (Write s w v) h = refl
no_release (Acquire s l) h = refl
no_release (Release s l) h = absurd (h s l refl)

pub lock_there : (e : Event) (s l : ℕ) → e ≡ Release s l → is_known e ≡ true → l < 64
lock_there e s l is known = let k = rw is at known in grind (arith, nat_tests, k)

-- v: what comes before the event
module _ (c : VectorClocks) (e : Event) (s : ℕ) (v : List ℕ) (at : s ≡ by e) (known : is_known e ≡ true) (all : length c.stations ≡ 16) (is : vector_of v ≡ before (clocks_of c) e) (whole : length v ≡ 16) where
  there : s < 16
  there = rw at (station_known e (rw known tt))

  abbrev counted : List ℕ
  counted = set v s (get_or v s 0 + 1)

  counts : vector_of counted ≡ up_to (clocks_of c) e
  counts = put_set 0 (get_or v s 0 + 1) v s (omega (arith, there)) ∙ rw (add-one, ap (λ u. u s) is, is, at) refl

  stations : vectors_of (set c.stations s counted) ≡ put (by e) (up_to (clocks_of c) e) (vectors_of c.stations)
  stations = entry_set vector_of [] counted c.stations s (omega (arith, there)) ∙ rw (counts, at) refl

  pub station_counted : releases e ≡ None → clocks_of (record { stations = set c.stations s counted; locks = c.locks }) ≡ clocks_with (clocks_of c) e
  station_counted none = rw (stations, none) refl

  pub lock_counted :
      (l : ℕ) (m : List ℕ) → releases e ≡ Some l → l < length c.locks → vector_of m ≡ greatest (vectors_of c.locks l) (vector_of counted) →
      clocks_of (record { stations = set c.stations s counted; locks = set c.locks l m }) ≡ clocks_with (clocks_of c) e
  lock_counted l m some h most = rw (stations, entry_set vector_of [] m c.locks l h, most, counts, some) refl
