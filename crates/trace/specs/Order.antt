-- What happens before what, and races. Assumes nothing.
--
-- A trace is a list of events, THE LATEST FIRST: what came before an event stands behind it. The place of an event is how many events there were by then: the first has place 1.
use Rattle.std.specs.Prelude.{◌≡◌, ℕ, suc, ◌<◌, ◌≤◌, cond, ◌||◌, T, List, [], ◌∷◌, length, Some, None, Option, ◌==◌}
use Rattle.trace.specs.declared.Event.{Event}
use Rattle.trace.specs.Events.{by, writes, acquires, releases, is, touches}

abbrev pub event_at : List Event → ℕ → Option Event
event_at [] n = None
event_at (e ∷ es) n = cond (n == suc (length es)) (Some e) (event_at es n)

-- HAPPENS BEFORE: by a station's own order, from a release of a lock to each later acquire of it, and through others.
pub data Before (es : List Event) : ℕ → ℕ → Type 0 where
  own : {m n : ℕ} (e f : Event) → event_at es m ≡ Some e → event_at es n ≡ Some f → m < n → by e ≡ by f → Before es m n
  lock : {m n : ℕ} (e f : Event) (l : ℕ) → event_at es m ≡ Some e → event_at es n ≡ Some f → m < n → releases e ≡ Some l → acquires f ≡ Some l → Before es m n
  through : {m n : ℕ} (k : ℕ) → Before es m k → Before es k n → Before es m n

-- two events on one word, at least one of which writes it
pub record Conflict (e f : Event) : Type 0 where
  pub word : ℕ
  pub first : T (touches word e)
  pub second : T (touches word f)
  pub written : T (is word (writes e) || is word (writes f))

-- the events at two places conflict, the earlier place first
pub record Clash (es : List Event) (m n : ℕ) : Type 0 where
  pub earlier : Event
  pub later : Event
  pub at_first : event_at es m ≡ Some earlier
  pub at_second : event_at es n ≡ Some later
  pub rising : m < n
  pub conflict : Conflict earlier later

-- RACE-FREE: whatever conflicts is ordered.
abbrev pub RaceFree : List Event → Type 0
RaceFree es = (m n : ℕ) → Clash es m n → Before es m n

-- a conflict that is not ordered
pub record Racing (es : List Event) (m n : ℕ) : Type 0 where
  pub clash : Clash es m n
  pub unordered : Before es m n → ⊥

-- THE FIRST RACE: no race ends before place b, and none of those that end there begins behind place a.
pub record FirstRace (es : List Event) (a b : ℕ) : Type 0 where
  pub race : Racing es a b
  pub first : (m n : ℕ) → Racing es m n → b ≤ n
  pub latest : (m : ℕ) → Racing es m b → m ≤ a
