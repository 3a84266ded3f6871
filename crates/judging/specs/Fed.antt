-- What a judge makes of a trace that comes piece by piece, as text or as raw bytes. Assumes nothing.
use Rattle.std.specs.Prelude.{ℕ, cond, List, [], ◌∷◌, length, Ok, Err, Result, nat_lt}
use Rattle.basics.specs.declared.Refusal.{Refusal}
use Rattle.basics.specs.declared.Refusal.TheVariants.{CounterFull}
use Rattle.trace.specs.Bytes.{with_byte}
use Rattle.trace_text.specs.Text.{TextReading, char_on, in_mode}

-- a trace has at most 4,294,967,295 events
abbrev pub limited : Result TextReading Refusal → Result TextReading Refusal
limited (Ok t) = cond (nat_lt 4294967295 (length t.reading.trace)) (Err CounterFull) (Ok t)
limited (Err why) = Err why

-- one character of a text more, and one raw byte
abbrev pub fed_char : TextReading → ℕ → Result TextReading Refusal
fed_char t c = limited (char_on t c)

abbrev pub fed_byte : TextReading → ℕ → Result TextReading Refusal
fed_byte t b = limited (in_mode t.mode (with_byte t.reading b))

-- one after the other, up to the first that is refused
abbrev pub fed_on : (TextReading → ℕ → Result TextReading Refusal) → Result TextReading Refusal → List ℕ → Result TextReading Refusal
fed_on feed t [] = t
fed_on feed (Ok t) (c ∷ cs) = fed_on feed (feed t c) cs
fed_on feed (Err why) (c ∷ cs) = Err why
