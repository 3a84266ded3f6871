-- The words of a line, and what a line of the program `home` means.
use Rattle.std.specs.Prelude.{ℕ, Bool, true, cond, ◌&&◌, ◌||◌, List, [], ◌∷◌, length, drop, Some, None, vec_items, codes, Option, ◌==◌}
use Rattle.std.specs.Option.{option_map}
use Rattle.std.specs.List.{prefix_len, position_or_len, before_first}
use Rattle.std.specs.Str.{bytes_eq}
use Rattle.text.specs.declared.lines.HomeLine.{HomeLine}
use Rattle.text.specs.declared.lines.HomeLine.TheVariants.{Blank, Show, Message}
use Rattle.text.specs.Hex.{bytes_from}
use Rattle.text.specs.Number.{number_of}

-- a space, a tab or a carriage return, which ends the lines of some systems
abbrev pub white : ℕ → Bool
white c = c == 32 || (c == 9 || c == 13)

-- what follows the white space in front
abbrev pub skipped : List ℕ → List ℕ
skipped bs = drop (prefix_len white bs) bs

-- the longest run without white space, after the white space in front; none where the line has no word
abbrev pub first_word : List ℕ → List ℕ
first_word bs = before_first white (skipped bs)

-- what follows that word
abbrev pub after_word : List ℕ → List ℕ
after_word bs = drop (position_or_len white (skipped bs)) (skipped bs)

abbrev pub wordless : List ℕ → Bool
wordless bs = length (first_word bs) == 0

-- what a line means: a message is its bytes, wherever they lie
pub data Meaning : Type 0 where
  Nothing : Meaning
  ShowWord : ℕ → Meaning
  Bytes : List ℕ → Meaning

-- no word at all, or one that begins with '#'
abbrev pub passed_over : List ℕ → Bool
passed_over [] = true
passed_over (c ∷ cs) = c == 35

-- one word is a message's bytes; two are `show` and a number
abbrev pub order_of : List ℕ → List ℕ → Option Meaning
order_of word rest = cond (wordless rest) (option_map Bytes (bytes_from word)) (cond (bytes_eq word (codes "show") && wordless (after_word rest)) (option_map ShowWord (number_of (first_word rest))) None)

-- none where the line is malformed
abbrev pub meaning_of : List ℕ → Option Meaning
meaning_of line = cond (passed_over (first_word line)) (Some Nothing) (order_of (first_word line) (after_word line))

abbrev pub meant : HomeLine → Meaning
meant Blank = Nothing
meant (Show word) = ShowWord word
meant (Message bytes) = Bytes (vec_items bytes)
