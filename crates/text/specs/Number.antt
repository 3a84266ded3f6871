-- Decimal numbers of 32 bits.
use Rattle.std.specs.Prelude.{◌≡◌, ℕ, ◌+◌, ◌-◌, ◌*◌, ◌^◌, ◌<◌, cond, List, [], ◌∷◌, Some, None, decimal, Option, nat_lt}
use Rattle.std.specs.Str.{all_ascii_digits}

-- the number that digits write after those of n
abbrev pub value_after : ℕ → List ℕ → ℕ
value_after n [] = n
value_after n (d ∷ ds) = value_after (n * 10 + (d - 48)) ds

abbrev pub fitting : ℕ → Option ℕ
fitting n = cond (nat_lt n (2 ^ 32)) (Some n) None

-- digits alone, and a number that fits
abbrev pub number_after : ℕ → List ℕ → Option ℕ
number_after n ds = cond (all_ascii_digits ds) (fitting (value_after n ds)) None

-- one digit or more; zeros in front change nothing, so a number may be long, and is refused only for its value
abbrev pub number_of : List ℕ → Option ℕ
number_of [] = None
number_of (d ∷ ds) = number_after 0 (d ∷ ds)

-- what is written as digits is read back as it was
abbrev pub NumberComesBack : Type 0
NumberComesBack = (n : ℕ) → n < 2 ^ 32 → number_of (decimal n) ≡ Some n
