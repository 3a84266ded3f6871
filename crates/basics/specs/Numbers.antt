-- Numbers as bytes, high byte first. Assumes nothing.
use Rattle.std.specs.Prelude.{ℕ, ◌+◌, ◌*◌, ◌/◌, ◌%◌, ◌^◌, ◌<◌, List, [], ◌∷◌, slice_index}

-- what four bytes have room for
abbrev pub Word : ℕ → Type 0
Word n = n < 2 ^ 32

-- A number in two bytes, and in four.
abbrev pub u16_bytes : ℕ → List ℕ
u16_bytes n = (n / 256 % 256) ∷ (n % 256) ∷ []

abbrev pub u32_bytes : ℕ → List ℕ
u32_bytes n = (n / 16777216 % 256) ∷ (n / 65536 % 256) ∷ (n / 256 % 256) ∷ (n % 256) ∷ []

-- The byte, and the number of two or four bytes, at a place.
abbrev pub u8_at : List ℕ → ℕ → ℕ
u8_at bs i = slice_index bs i

abbrev pub u16_at : List ℕ → ℕ → ℕ
u16_at bs i = slice_index bs i * 256 + slice_index bs (i + 1)

abbrev pub u32_at : List ℕ → ℕ → ℕ
u32_at bs i = slice_index bs i * 16777216 + slice_index bs (i + 1) * 65536 + slice_index bs (i + 2) * 256 + slice_index bs (i + 3)
