-- What the check tells of a trace, in terms of what happens before what. Assumes nothing.
use Rattle.std.specs.Prelude.{◌≡◌, ℕ, suc, ◌<◌, cond, T, List, [], ◌∷◌, length, Some, None, Option, ◌==◌}
use Rattle.std.specs.List.{AllByRecursion}
use Rattle.trace.specs.declared.Event.{Event}
use Rattle.trace.specs.declared.Race.{Race}
use Rattle.trace.specs.declared.Verdict.{Verdict}
use Rattle.trace.specs.Events.{by, is_known}
use Rattle.trace.specs.Order.{event_at, Before, RaceFree, FirstRace}
use Rattle.trace.specs.Memory.{earlier, OneMemory, FirstStale}
use Rattle.vectors.specs.Check.{Vector, Tables, before, after}

-- how many events of a station a trace has
abbrev pub count : ℕ → List Event → ℕ
count s [] = 0
count s (e ∷ es) = cond (by e == s) (suc (count s es)) (count s es)

-- the vector counts the event at place m: it counts more events of that station than came before it
abbrev pub Counts : Vector → List Event → ℕ → Event → Type 0
Counts v es m e = count (by e) (earlier m es) < v (by e)

-- VECTORS. What happens before the next event, whatever that is, is what its vector counts. Where it acquires nothing, that is its station's vector.
pub record Tells (v : Vector) (es : List Event) (next : Event) : Type 0 where
  pub counts : (m : ℕ) (e : Event) → event_at es m ≡ Some e → Before (next ∷ es) m (suc (length es)) → Counts v es m e
  pub happens : (m : ℕ) (e : Event) → event_at es m ≡ Some e → Counts v es m e → Before (next ∷ es) m (suc (length es))

abbrev pub VectorsTell : Type 0
VectorsTell = (es : List Event) (next : Event) → Tells (before (after es).clocks next) es next

-- THE RACE CHECK. No race is said: the trace is race-free. A race is said: it is the first, and these are its events.
pub record IsFirst (es : List Event) (r : Race) : Type 0 where
  pub places : FirstRace es r.earlier.place r.later.place
  pub earlier : event_at es r.earlier.place ≡ Some r.earlier.event
  pub later : event_at es r.later.place ≡ Some r.later.event

abbrev pub RaceSaid : List Event → Option Race → Type 0
RaceSaid es None = RaceFree es
RaceSaid es (Some r) = IsFirst es r

-- THE MEMORY CHECK, likewise.
abbrev pub StaleSaid : List Event → Option ℕ → Type 0
StaleSaid es None = OneMemory es
StaleSaid es (Some n) = FirstStale es n

abbrev pub Known : List Event → Type 0
Known es = AllByRecursion (λ e. T (is_known e)) es

-- a verdict is right of a trace
pub record Judged (es : List Event) (v : Verdict) : Type 0 where
  pub race : RaceSaid es v.race
  pub stale : StaleSaid es v.stale

abbrev pub verdict_of : Tables → Verdict
verdict_of t = record { race = t.race; stale = t.stale }

abbrev pub CheckTells : Type 0
CheckTells = (es : List Event) → Known es → Judged es (verdict_of (after es))
