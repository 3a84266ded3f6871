-- Hexadecimal with white space between the bytes; a line that begins with '#' is passed over. Assumes nothing.
use Rattle.std.specs.Prelude.{ℕ, Bool, true, false, cond, Some, None, Ok, Err, Option, Result, ◌==◌}
use Rattle.basics.specs.declared.Refusal.{Refusal}
use Rattle.basics.specs.declared.Refusal.TheVariants.{Malformed}
use Rattle.text.specs.Hex.{byte_of}
use Rattle.text.specs.Line.{white}
use Rattle.trace_text.specs.declared.chars.Mode.{Mode}
use Rattle.trace_text.specs.declared.chars.Mode.TheVariants.{LineStart, InLine, Comment, Half}

-- between two bytes: white space is passed over, and anything else is the first digit of a byte
abbrev pub between : Mode → ℕ → Mode
between mode c = cond (c == 10) LineStart (cond (white c) mode (Half c))

-- two digits that are a byte, or malformed
abbrev pub behind : Option ℕ → Result (Mode × Option ℕ) Refusal
behind (Some b) = Ok (InLine, Some b)
behind None = Err Malformed

-- one character more: where the reading is then, and the byte that it makes, if any
abbrev pub with_char : Mode → ℕ → Result (Mode × Option ℕ) Refusal
with_char LineStart c = Ok (cond (c == 35) Comment (between LineStart c), None)
with_char InLine c = Ok (between InLine c, None)
with_char Comment c = Ok (cond (c == 10) LineStart Comment, None)
with_char (Half high) c = behind (byte_of high c)

-- a text does not end within a byte
abbrev pub may_end : Mode → Bool
may_end LineStart = true
may_end InLine = true
may_end Comment = true
may_end (Half high) = false
