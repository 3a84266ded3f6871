-- What a reader of the code has read, and what one character or byte more makes of that. Assumes nothing.
use Rattle.std.specs.Prelude.{◌≡◌, true, List, ◌∷◌, Some, None, Ok, Err, Option, Result}
use Rattle.basics.specs.declared.Refusal.{Refusal}
use Rattle.trace.specs.declared.Event.{Event}
use Rattle.trace.specs.Events.{is_known}
use Rattle.trace_text.specs.declared.trace_reader.TraceReader.{TraceReader}
use Rattle.trace_text.specs.Parts.{part_of}
use Rattle.trace_text.specs.Text.{TextReading}

-- where it is, with the events so far, which it does not keep
abbrev pub reading_of : TraceReader → List Event → TextReading
reading_of r es = record { mode = r.mode; reading = record { trace = es; part = part_of r.reader } }

-- a call that was done left the reader where the step leads, with the event that it gave, if any, which names what is there;
-- one that was refused was refused as the step is
abbrev pub ReadsOn : Result (Option Event) Refusal → (left : TraceReader) → List Event → (step : Result TextReading Refusal) → Type 0
ReadsOn (Ok None) left es step = step ≡ Ok (reading_of left es)
ReadsOn (Ok (Some e)) left es step = (step ≡ Ok (reading_of left (e ∷ es))) × (is_known e ≡ true)
ReadsOn (Err why) left es step = step ≡ Err why
