-- What is fed in pieces is what is read as a whole. Assumes nothing.
use Rattle.std.specs.Prelude.{◌≡◌, ℕ, ◌⊎◌, List, ◌++◌, Ok, Err, Result}
use Rattle.basics.specs.declared.Refusal.{Refusal}
use Rattle.basics.specs.declared.Refusal.TheVariants.{CounterFull}
use Rattle.trace.specs.Bytes.{none_read, read_on}
use Rattle.trace_text.specs.Text.{TextReading, text_start, text_on, in_mode}
use Rattle.judging.specs.Fed.{fed_char, fed_byte, fed_on}

-- It does not matter where the pieces are cut.
abbrev pub PiecesJoin : Type 0
PiecesJoin =
    (feed : TextReading → ℕ → Result TextReading Refusal) (t : Result TextReading Refusal) (xs ys : List ℕ) → fed_on feed (fed_on feed t xs) ys ≡ fed_on feed t (xs ++ ys)

-- the same, or refused for the trace's length alone
abbrev pub Agrees : (fed read : Result TextReading Refusal) → Type 0
Agrees (Ok t) read = read ≡ Ok t
Agrees (Err why) read = (why ≡ CounterFull) ⊎ (read ≡ Err why)

-- What is fed from the start is what there is to read, in a text and in raw bytes.
abbrev pub TextIsRead : Type 0
TextIsRead = (text : List ℕ) → Agrees (fed_on fed_char (Ok text_start) text) (text_on (Ok text_start) text)

abbrev pub BytesAreRead : Type 0
BytesAreRead = (bs : List ℕ) → Agrees (fed_on fed_byte (Ok text_start) bs) (in_mode text_start.mode (read_on (Ok none_read) bs))
