-- What programs print of events, races and verdicts. Assumes nothing.
use Rattle.std.specs.Prelude.{ℕ, List, ◌++◌, Some, None, codes, decimal, Option}
use Rattle.basics.specs.Lines.{line, numbered}
use Rattle.trace.specs.declared.Event.{Event}
use Rattle.trace.specs.declared.Event.TheVariants.{Read, Write, Acquire, Release}
use Rattle.trace.specs.declared.Placed.{Placed}
use Rattle.trace.specs.declared.Race.{Race}
use Rattle.trace.specs.declared.Verdict.{Verdict}

-- an event in words
abbrev pub in_words : Event → List ℕ
in_words (Read s w v) = numbered (codes "station ") s ++ (numbered (codes " read ") v ++ numbered (codes " from word ") w)
in_words (Write s w v) = numbered (codes "station ") s ++ (numbered (codes " wrote ") v ++ numbered (codes " to word ") w)
in_words (Acquire s l) = numbered (codes "station ") s ++ numbered (codes " took lock ") l
in_words (Release s l) = numbered (codes "station ") s ++ numbered (codes " freed lock ") l

-- its place, and what it was
abbrev pub placed_words : Placed → List ℕ
placed_words p = decimal p.place ++ (codes ": " ++ in_words p.event)

-- and that as a line of its own
abbrev pub placed_line : Placed → List ℕ
placed_line p = line (numbered (codes "  ") p.place ++ (codes ": " ++ in_words p.event))

-- the first race, if there is one: where its events are, then each of them
abbrev pub race_lines : Option Race → List ℕ
race_lines None = line (codes "orderly")
race_lines (Some r) =
    line (numbered (codes "unordered ") r.earlier.place ++ numbered (codes " ") r.later.place) ++ (placed_line r.earlier ++ placed_line r.later)

-- the first stale read, if there is one
abbrev pub memory_line : Option ℕ → List ℕ
memory_line None = line (codes "one memory")
memory_line (Some n) = line (numbered (codes "stale ") n)

-- the race check first, then the memory check
abbrev pub verdict_lines : Verdict → List ℕ
verdict_lines v = race_lines v.race ++ memory_line v.stale
