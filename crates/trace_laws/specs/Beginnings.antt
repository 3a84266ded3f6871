-- What is said of a trace is said of each of its beginnings that has the events. Assumes nothing.
use Rattle.std.specs.Prelude.{ℕ, ◌≤◌, List, ◌++◌, length}
use Rattle.trace.specs.declared.Event.{Event}
use Rattle.trace.specs.Order.{RaceFree, FirstRace}
use Rattle.trace.specs.Memory.{OneMemory, FirstStale}

-- es is how the trace began, and later, the latest first, what came then
pub record Inherits (later es : List Event) : Type 0 where
  pub race_free : RaceFree (later ++ es) → RaceFree es
  pub race_there : (a b : ℕ) → b ≤ length es → FirstRace (later ++ es) a b → FirstRace es a b
  pub race_stays : (a b : ℕ) → FirstRace es a b → FirstRace (later ++ es) a b
  pub one_memory : OneMemory (later ++ es) → OneMemory es
  pub stale_there : (n : ℕ) → n ≤ length es → FirstStale (later ++ es) n → FirstStale es n
  pub stale_stays : (n : ℕ) → FirstStale es n → FirstStale (later ++ es) n

abbrev pub Beginnings : Type 0
Beginnings = (later es : List Event) → Inherits later es
