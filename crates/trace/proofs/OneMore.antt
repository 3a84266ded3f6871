-- What is said of a trace when one event more comes: `-more` says that it holds then too, `-less` that it held before. Assumes nothing.
use Rattle.std.proofs.Common.{◌≡◌, ℕ, ◌≤◌, List, ◌∷◌, length, sym, ◌∙◌, inl, inr, arith}
use Rattle.std.proofs.lemmas.Bool.{cases_lt}
use Rattle.trace.specs.declared.Event.{Event}
use Rattle.trace.specs.Order.{Clash, Racing, RaceFree, FirstRace}
use Rattle.trace.specs.Memory.{left, earlier, ReadAt, Stale, OneMemory, FirstStale}
use Rattle.trace.proofs.Places.{at_within, at_more, at_stays, earlier_more, before_more, before_less}

module _ (g : Event) (es : List Event) where
  -- races
  clash_more : (m n : ℕ) → Clash es m n → Clash (g ∷ es) m n
  clash_more m n c = search (arith, at_stays)

  pub clash_less : (m n : ℕ) → n ≤ length es → Clash (g ∷ es) m n → Clash es m n
  clash_less m n h c = grind (arith, at_more)

  clash_within : (m n : ℕ) → Clash es m n → n ≤ length es
  clash_within m n c = at_within es n c.at_second

  racing_more : (m n : ℕ) → Racing es m n → Racing (g ∷ es) m n
  racing_more m n r =
      let l = clash_within m n r.clash in search (arith, clash_more, before_less)

  racing_less : (m n : ℕ) → n ≤ length es → Racing (g ∷ es) m n → Racing es m n
  racing_less m n h r = search (arith, clash_less, before_more)

  pub free_less : RaceFree (g ∷ es) → RaceFree es
  free_less f m n c = before_less g (clash_within m n c) (f m n (clash_more m n c))

  pub race_less : (a b : ℕ) → b ≤ length es → FirstRace (g ∷ es) a b → FirstRace es a b
  race_less a b h f =
      record {
        race = racing_less a b h f.race;
        first = λ m n r. f.first m n (racing_more m n r);
        latest = λ m r. f.latest m (racing_more m b r);
      }

  -- a race that the last event makes ends behind every race from before
  pub race_more : (a b : ℕ) → FirstRace es a b → FirstRace (g ∷ es) a b
  race_more a b f =
      let l : b ≤ length es = clash_within a b f.race.clash in
      record {
        race = racing_more a b f.race;
        first = λ m n r. elim (cases_lt (length es) n) [ inl h ↦ omega arith | inr h ↦ f.first m n (racing_less m n h r) ];
        latest = λ m r. f.latest m (racing_less m b l r);
      }

  -- reads
  abbrev read_more : (n : ℕ) → ReadAt es n → ReadAt (g ∷ es) n
  read_more n r = record { event = r.event; word = r.word; there = at_stays es g n r.there; is_read = r.is_read }

  abbrev pub read_less : (n : ℕ) → n ≤ length es → ReadAt (g ∷ es) n → ReadAt es n
  read_less n h r = record { event = r.event; word = r.word; there = sym (at_more es g n h) ∙ r.there; is_read = r.is_read }

  read_within : (n : ℕ) → ReadAt es n → n ≤ length es
  read_within n r = at_within es n r.there

  -- what was left in a word before a place is the same
  pub left_same : (n w : ℕ) → n ≤ length es → left (earlier n (g ∷ es)) w ≡ left (earlier n es) w
  left_same n w h = rw (earlier_more es g n (omega arith))

  stale_more : (n : ℕ) → Stale es n → Stale (g ∷ es) n
  stale_more n s =
      record { read = read_more n s.read; wrong = λ r. s.wrong (r ∙ left_same n s.read.word (read_within n s.read)) }

  pub stale_less : (n : ℕ) → n ≤ length es → Stale (g ∷ es) n → Stale es n
  stale_less n h s = record { read = read_less n h s.read; wrong = λ r. s.wrong (r ∙ sym (left_same n s.read.word h)) }

  pub memory_less : OneMemory (g ∷ es) → OneMemory es
  memory_less o n r = o n (read_more n r) ∙ left_same n r.word (read_within n r)

  pub first_stale_less : (n : ℕ) → n ≤ length es → FirstStale (g ∷ es) n → FirstStale es n
  first_stale_less n h f = record { stale = stale_less n h f.stale; none_before = λ m s. f.none_before m (stale_more m s) }

  pub first_stale_more : (n : ℕ) → FirstStale es n → FirstStale (g ∷ es) n
  first_stale_more n f =
      let l : n ≤ length es = read_within n f.stale.read in
      record {
        stale = stale_more n f.stale;
        none_before = λ m s. elim (cases_lt (length es) m) [ inl h ↦ omega arith | inr h ↦ f.none_before m (stale_less m h s) ];
      }
