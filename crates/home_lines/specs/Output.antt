-- What the program `home` prints for a line, and the home afterwards. Assumes nothing.
use Rattle.std.specs.Prelude.{ℕ, cond, List, [], ◌++◌, Some, None, decimal, Option}
use Rattle.std.specs.List.{flat_map}
use Rattle.model.specs.declared.Message.{Message}
use Rattle.basics.specs.declared.Refusal.{Refusal}
use Rattle.basics.specs.declared.Refusal.TheVariants.{Malformed}
use Rattle.model.specs.Bytes.{bytes_of}
use Rattle.model.specs.Home.{HomeState, receives}
use Rattle.basics.specs.Sizes.{is_word}
use Rattle.basics.specs.Lines.{line, refusal_line}
use Rattle.text.specs.Hex.{hex_of}
use Rattle.text.specs.Line.{Meaning, Nothing, ShowWord, Bytes}

abbrev pub refusal_lines : Option Refusal → List ℕ
refusal_lines None = []
refusal_lines (Some why) = refusal_line why

abbrev pub message_line : Message → List ℕ
message_line m = line (hex_of (bytes_of m))

abbrev pub message_lines : List Message → List ℕ
message_lines ms = flat_map message_line ms

-- a refusal first, then what is sent
abbrev pub answer_lines : Option Refusal → List Message → List ℕ
answer_lines refusal sent = refusal_lines refusal ++ message_lines sent

abbrev pub shown : HomeState → Option Meaning → List ℕ
shown h None = refusal_line Malformed
shown h (Some Nothing) = []
shown h (Some (ShowWord w)) = cond (is_word w) (line (decimal (h.words w))) (refusal_line Malformed)
shown h (Some (Bytes bytes)) = answer_lines (receives h bytes).refusal (receives h bytes).sent

abbrev pub followed : HomeState → Option Meaning → HomeState
followed h None = h
followed h (Some Nothing) = h
followed h (Some (ShowWord w)) = h
followed h (Some (Bytes bytes)) = (receives h bytes).after
