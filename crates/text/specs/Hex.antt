-- Bytes as hexadecimal digits, two for each byte, the high one first.
use Rattle.std.specs.Prelude.{◌≡◌, ℕ, ◌+◌, ◌-◌, ◌*◌, ◌/◌, ◌%◌, ◌<◌, cond, List, [], ◌∷◌, Some, None, Option, nat_lt}
use Rattle.std.specs.Int.{is_in_range}
use Rattle.std.specs.List.{AllByRecursion}

-- '0' to '9', then 'a' to 'f'
abbrev pub digit_of : ℕ → ℕ
digit_of n = cond (nat_lt n 10) (48 + n) (97 + (n - 10))

abbrev pub hex_of : List ℕ → List ℕ
hex_of [] = []
hex_of (b ∷ bs) = digit_of (b / 16) ∷ digit_of (b % 16) ∷ hex_of bs

-- what a digit stands for, in either case; no other character stands for anything
abbrev pub hex_value : ℕ → Option ℕ
hex_value c = cond (is_in_range 48 57 c) (Some (c - 48)) (cond (is_in_range 97 102 c) (Some (c - 97 + 10)) (cond (is_in_range 65 70 c) (Some (c - 65 + 10)) None))

-- both digits count, or there is no byte
abbrev pub paired : Option ℕ → Option ℕ → Option ℕ
paired (Some high) (Some low) = Some (high * 16 + low)
paired (Some high) None = None
paired None (Some low) = None
paired None None = None

abbrev pub byte_of : ℕ → ℕ → Option ℕ
byte_of high low = paired (hex_value high) (hex_value low)

-- one byte, and then those that follow, if all of them are there
abbrev pub before : Option ℕ → Option (List ℕ) → Option (List ℕ)
before (Some b) (Some bs) = Some (b ∷ bs)
before (Some b) None = None
before None (Some bs) = None
before None None = None

-- an odd count of digits has one too many
abbrev pub bytes_from : List ℕ → Option (List ℕ)
bytes_from [] = Some []
bytes_from (c ∷ []) = None
bytes_from (high ∷ low ∷ cs) = before (byte_of high low) (bytes_from cs)

-- what is written as digits is read back as it was
abbrev pub HexComesBack : Type 0
HexComesBack = (bs : List ℕ) → AllByRecursion (λ b. b < 256) bs → bytes_from (hex_of bs) ≡ Some bs
