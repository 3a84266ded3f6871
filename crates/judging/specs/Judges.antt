-- A judge of the code, and what it has read so far. Assumes nothing.
use Rattle.std.specs.Prelude.{◌≡◌, ℕ, ◌≤◌, List, length, Ok, Err, Option, Result}
use Rattle.std.specs.Borrow.{MutBor}
use Rattle.basics.specs.declared.Refusal.{Refusal}
use Rattle.trace.specs.declared.Event.{Event}
use Rattle.trace.specs.declared.Verdict.{Verdict}
use Rattle.trace_text.specs.declared.trace_reader.TraceReader.{TraceReader}
use Rattle.trace_text.specs.Parts.{part_of}
use Rattle.trace_text.specs.Readers.{reading_of, ReadsOn}
use Rattle.trace_text.specs.Text.{TextReading}
use Rattle.vectors.specs.Laws.{Judged}
use Rattle.race_check.specs.Checks.{check_of}
use Rattle.race_check.specs.States.{Led}
use Rattle.judging.specs.declared.judge.Judge.{Judge}

-- where it is in the text, the bytes of an event that is not whole yet, and the events that its check was fed, no more than it can count
pub record Holds (j : Judge) (t : TextReading) : Type 0 where
  pub mode : j.reader.mode ≡ t.mode
  pub part : part_of j.reader.reader ≡ t.reading.part
  pub fed : Led (check_of j.check) t.reading.trace
  pub room : length t.reading.trace ≤ 4294967295

-- a call that was done left the judge with what there is to hold then; one that was refused was refused for that
abbrev pub Follows : Result (Unit {0}) Refusal → Judge → Result TextReading Refusal → Type 0
Follows (Ok _) j (Ok t) = Holds j t
Follows (Ok _) j (Err why) = ⊥
Follows (Err why) j (Ok t) = ⊥
Follows (Err why) j (Err w) = why ≡ w

-- what each call of a reader's method reads, whatever was read before: before and left are the reader as it was lent and as it came back
abbrev pub Reads : (MutBor TraceReader → ℕ → Result (Option Event) Refusal → MutBor TraceReader → Type 0) → (TextReading → ℕ → Result TextReading Refusal) → Type 0
Reads call step =
    (before left : MutBor TraceReader) (c : ℕ) (got : Result (Option Event) Refusal) → call before c got left → (es : List Event) → ReadsOn got left.now es (step (reading_of before.now es) c)

-- a verdict is right of the trace that was read, or there is no trace
abbrev pub Judges : Result Verdict Refusal → Result (List Event) Refusal → Type 0
Judges (Ok v) (Ok es) = Judged es v
Judges (Ok v) (Err why) = ⊥
Judges (Err why) (Ok es) = ⊥
Judges (Err why) (Err w) = why ≡ w
