-- A number comes back from its two or four bytes, and bytes come back from the number read of them. Assumes nothing.
use Rattle.std.proofs.Common.{◌≡◌, ℕ, ◌+◌, ◌*◌, ◌/◌, ◌%◌, ◌<◌, List, ◌∷◌, ◌++◌, length, get_or, drop, sym, arith}
use Rattle.std.proofs.ByRecursion.{All-drop, All-get_or}
use Rattle.std.proofs.lemmas.List.{append-nil, drop_more, drop_all, get_or_past}
use Rattle.std.specs.List.{AllByRecursion as All}
use Rattle.basics.specs.Numbers.{Word, u16_bytes, u32_bytes, u16_at, u32_at}

abbrev pub Bytes : List ℕ → Type 0
Bytes bs = All (λ b. b < 256) bs

-- from a number to its bytes and back
pub half_back : (n : ℕ) → n < 1024 → n / 256 % 256 * 256 + n % 256 ≡ n
half_back n h = omega arith

pub word_back : (n : ℕ) → Word n → n / 16777216 % 256 * 16777216 + n / 65536 % 256 * 65536 + n / 256 % 256 * 256 + n % 256 ≡ n
word_back n h = grind arith

pub bytes_drop : (n : ℕ) (bs : List ℕ) → Bytes bs → Bytes (drop n bs)
bytes_drop n bs h = All-drop (λ b. b < 256) n bs h

-- the number read at a place, and what stands behind it, are the bytes from there on
pub byte_written : (bs : List ℕ) (i j : ℕ) → j ≡ i + 1 → i < length bs → get_or bs i 0 ∷ drop j bs ≡ drop i bs
byte_written bs i j e l = rw e (sym (drop_more bs i 0 l))

-- from bytes to their number and back
module _ (bs : List ℕ) (i : ℕ) (h : Bytes bs) where
  byte_at : (j : ℕ) → get_or bs j 0 < 256
  byte_at j = grind (arith, All-get_or (λ b. b < 256) bs j 0, get_or_past bs j 0)

  pub half_written : i + 1 < length bs → u16_bytes (u16_at bs i) ++ drop (i + 2) bs ≡ drop i bs
  half_written l = grind (arith, byte_at, byte_written)

  pub word_written : i + 3 < length bs → u32_bytes (u32_at bs i) ++ drop (i + 4) bs ≡ drop i bs
  word_written l = grind (arith, byte_at, byte_written)

  pub word_last : length bs ≡ i + 4 → u32_bytes (u32_at bs i) ≡ drop i bs
  word_last l = let none = drop_all (i + 4) bs in let text = word_written in grind (arith, append-nil)

  pub word_fits : Word (u32_at bs i)
  word_fits = omega (arith, byte_at)
