-- What the code does with an event is one step of the check. Assumes nothing.
use Rattle.std.proofs.Common.{◌≡◌, ℕ, suc, ◌<◌, List, length, get_or, set, Some, None, Option, vec_items, sym, refl, ap, ◌∙◌, inl, inr, ◌⊎◌, arith}
use Rattle.std.proofs.lemmas.List.{get_or_default}
use Rattle.basics.specs.Sizes.{put}
use Rattle.basics.proofs.Tables.{put_set}
use Rattle.trace.specs.declared.Event.{Event}
use Rattle.trace.specs.declared.Event.TheVariants.{Read, Write, Acquire, Release}
use Rattle.trace.specs.declared.Placed.{Placed}
use Rattle.trace.specs.declared.Race.{Race}
use Rattle.trace.specs.declared.Verdict.{Verdict}
use Rattle.trace.specs.Events.{by}
use Rattle.vectors.specs.declared.Access.{Access}
use Rattle.vectors.specs.declared.LastWrite.{LastWrite}
use Rattle.vectors.specs.Check.{Clocks, Tables, never, before, up_to, clocks_with, either, later, race_with, stale_of, unordered_write, unordered_read, unordered_with, stepped}
use Rattle.race_check.specs.declared.clocks.VectorClocks.{VectorClocks}
use Rattle.race_check.specs.declared.history.WordHistory.{WordHistory}
use Rattle.race_check.specs.declared.state.Check.{Check}
use Rattle.race_check.specs.Checks.{check_of}
use Rattle.race_check.specs.Rows.{vector_of, accesses_of, untouched, word_of, reads_of, writes_of}
use Rattle.race_check.specs.States.{clocks_of, tables_of}
use Rattle.race_check.proofs.Feeding.{writers}
use Rattle.race_check.proofs.Entries.{entry_set, put_same}

later_none : (p : Option Placed) → later p None ≡ p
later_none None = refl
later_none (Some p) = refl

either_none : {A : Type 0} (x : Option A) → either x None ≡ x
either_none None = refl
either_none (Some y) = refl

same :
    {m n : ℕ} {c d : Clocks} {w u : ℕ → LastWrite} {r s : ℕ → ℕ → Access} {a b : Option Race} {x y : Option ℕ} → m ≡ n → c ≡ d → w ≡ u → r ≡ s → a ≡ b → x ≡ y →
    ◌≡◌ {A = Tables} (record { places = m; clocks = c; write = w; read = r; race = a; stale = x }) (record { places = n; clocks = d; write = u; read = s; race = b; stale = y })
same e f g h i j = rw (e, f, g, h, i, j) refl

-- an event that is neither a read nor a write; d: the clocks with it
pub other_taken :
    (t : Check) (e : Event) {m : ℕ} (d : VectorClocks) → m ≡ suc t.places → clocks_of d ≡ clocks_with (clocks_of t.clocks) e →
    ((s : ℕ) × (l : ℕ) × (e ≡ Acquire s l)) ⊎ ((s : ℕ) × (l : ℕ) × (e ≡ Release s l)) → tables_of m t.verdict d (vec_items t.words) ≡ stepped (check_of t) e
other_taken t e d next clocks (inl k) = rw (clocks, k.2, either_none t.verdict.race, either_none t.verdict.stale, next) refl
other_taken t e d next clocks (inr k) = rw (clocks, k.2, either_none t.verdict.race, either_none t.verdict.stale, next) refl

-- t: the check before the event; h: what it keeps of the word
module _ (t : Check) (w : ℕ) {h : WordHistory} (here : h ≡ get_or (vec_items t.words) w h) (below : w < 65536) where
  abbrev words : List WordHistory
  words = vec_items t.words

  there : w < length words
  there = omega (arith, t.words.ok.0, t.all_words)

  kept : h ≡ word_of words w
  kept = here ∙ get_or_default words w h untouched there

  pub writer_known : h.write.station < 16
  writer_known = rw kept (writers (check_of t) t.reached w)

  -- the event and its place; what comes before it; the clocks with it, and its station's count
  module _
      (e : Event) {m : ℕ} (b : List ℕ) (d : VectorClocks) {n : ℕ} (next : m ≡ suc t.places) (seen : vector_of b ≡ before (clocks_of t.clocks) e)
      (clocks : clocks_of d ≡ clocks_with (clocks_of t.clocks) e) (count : n ≡ up_to (clocks_of t.clocks) e (by e)) (s x : ℕ) where
    abbrev access : Access
    access = record { count = n; place = m; value = x }

    module _ (is : e ≡ Read s w x) (station : s < length h.reads) where
      abbrev read : WordHistory
      read = record { write = h.write; reads = set h.reads s access }

      read_left : reads_of (set words w read) ≡ (stepped (check_of t) e).read
      read_left =
          entry_set (λ h. accesses_of h.reads) untouched read words w there ∙ ap (λ r. put w r (reads_of words)) (put_set never access h.reads s station) ∙
          rw (kept, count, next, is) refl

      write_kept : writes_of (set words w read) ≡ (stepped (check_of t) e).write
      write_kept = entry_set (λ h. h.write) untouched read words w there ∙ rw (kept, is) (put_same w (writes_of words))

      found_read : unordered_write (vector_of b) w h.write ≡ unordered_with (check_of t) e
      found_read = ap (λ v. unordered_write v w h.write) seen ∙ rw (kept, is) (sym (later_none _))

      pub read_taken :
          {v : Verdict} →
          v ≡ record { race = either t.verdict.race (race_with m e (unordered_write (vector_of b) w h.write)); stale = either t.verdict.stale (stale_of x h.write.access.value m) } →
          tables_of m v d (set words w read) ≡ stepped (check_of t) e
      read_taken f =
          same next clocks write_kept read_left (ap (λ v. v.race) f ∙ ap (λ p. either t.verdict.race (race_with m e p)) found_read ∙ rw next refl)
          (ap (λ v. v.stale) f ∙ rw (next, kept, is) refl)

    module _ (is : e ≡ Write s w x) where
      abbrev written : WordHistory
      written = record { write = record { station = s; access = access }; reads = h.reads }

      write_left : writes_of (set words w written) ≡ (stepped (check_of t) e).write
      write_left = entry_set (λ h. h.write) untouched written words w there ∙ rw (count, next, is) refl

      read_kept : reads_of (set words w written) ≡ (stepped (check_of t) e).read
      read_kept = entry_set (λ h. accesses_of h.reads) untouched written words w there ∙ rw (kept, is) (put_same w (reads_of words))

      found_write : later (unordered_write (vector_of b) w h.write) (unordered_read 16 (vector_of b) w (accesses_of h.reads)) ≡ unordered_with (check_of t) e
      found_write = ap (λ v. later (unordered_write v w h.write) (unordered_read 16 v w (accesses_of h.reads))) seen ∙ rw (kept, is) refl

      pub write_taken :
          {v : Verdict} →
          v ≡
          record {
            race = either t.verdict.race (race_with m e (later (unordered_write (vector_of b) w h.write) (unordered_read 16 (vector_of b) w (accesses_of h.reads))));
            stale = t.verdict.stale;
          } →
          tables_of m v d (set words w written) ≡ stepped (check_of t) e
      write_taken f =
          same next clocks write_left read_kept (ap (λ v. v.race) f ∙ ap (λ p. either t.verdict.race (race_with m e p)) found_write ∙ rw next refl)
          (ap (λ v. v.stale) f ∙ rw is (sym (either_none t.verdict.stale)))
