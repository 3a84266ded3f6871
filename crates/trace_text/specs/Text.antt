-- A trace as text, character by character. Assumes nothing.
use Rattle.std.specs.Prelude.{◌≡◌, ℕ, ◌<◌, cond, List, [], ◌∷◌, Some, None, Ok, Err, Option, Result}
use Rattle.std.specs.List.{AllByRecursion}
use Rattle.basics.specs.declared.Refusal.{Refusal}
use Rattle.basics.specs.declared.Refusal.TheVariants.{Malformed}
use Rattle.text.specs.Hex.{hex_of}
use Rattle.trace.specs.declared.Event.{Event}
use Rattle.trace.specs.Bytes.{Reading, none_read, with_byte, whole, read_trace}
use Rattle.trace_text.specs.declared.chars.Mode.{Mode}
use Rattle.trace_text.specs.declared.chars.Mode.TheVariants.{LineStart}
use Rattle.trace_text.specs.Chars.{with_char, may_end}

-- where the text is, and what was read
pub record TextReading : Type 0 where
  pub mode : Mode
  pub reading : Reading

abbrev pub text_start : TextReading
text_start = record { mode = LineStart; reading = none_read }

abbrev pub with_maybe : Reading → Option ℕ → Result Reading Refusal
with_maybe r None = Ok r
with_maybe r (Some b) = with_byte r b

abbrev pub in_mode : Mode → Result Reading Refusal → Result TextReading Refusal
in_mode mode (Ok r) = Ok (record { mode = mode; reading = r })
in_mode mode (Err why) = Err why

abbrev pub followed : Reading → Result (Mode × Option ℕ) Refusal → Result TextReading Refusal
followed r (Ok next) = in_mode next.0 (with_maybe r next.1)
followed r (Err why) = Err why

abbrev pub char_on : TextReading → ℕ → Result TextReading Refusal
char_on t c = followed t.reading (with_char t.mode c)

-- one raw byte more: the mode stays as it is
abbrev pub byte_on : TextReading → ℕ → Result TextReading Refusal
byte_on t b = in_mode t.mode (with_byte t.reading b)

abbrev pub text_on : Result TextReading Refusal → List ℕ → Result TextReading Refusal
text_on t [] = t
text_on (Ok t) (c ∷ cs) = text_on (char_on t c) cs
text_on (Err why) (c ∷ cs) = Err why

abbrev pub text_whole : Result TextReading Refusal → Result (List Event) Refusal
text_whole (Ok t) = cond (may_end t.mode) (whole (Ok t.reading)) (Err Malformed)
text_whole (Err why) = Err why

-- the trace that a text is
abbrev pub text_trace : List ℕ → Result (List Event) Refusal
text_trace cs = text_whole (text_on (Ok text_start) cs)

-- A trace's bytes, written as digits, are read as that trace.
abbrev pub HexIsRead : Type 0
HexIsRead = (bs : List ℕ) → AllByRecursion (λ b. b < 256) bs → text_trace (hex_of bs) ≡ read_trace bs
