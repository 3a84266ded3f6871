-- Bytes written as digits, read character by character, are those bytes. Assumes nothing.
use Rattle.std.proofs.Common.{◌≡◌, ℕ, ◌/◌, ◌%◌, ◌<◌, List, [], ◌∷◌, Ok, Err, Result, refl, ap, ◌∙◌, arith}
use Rattle.std.specs.List.{AllByRecursion}
use Rattle.std.proofs.lemmas.Nat.{div_below}
use Rattle.std.proofs.lemmas.Bool.Decides.{nat_tests}
use Rattle.basics.specs.declared.Refusal.{Refusal}
use Rattle.text.specs.Hex.{digit_of, hex_of}
use Rattle.text.proofs.HexSteps.{byte_back}
use Rattle.trace.specs.Bytes.{Reading, none_read, with_byte, whole, read_on, read_trace}
use Rattle.trace_text.specs.declared.chars.Mode.TheVariants.{LineStart, InLine, Half}
use Rattle.trace_text.specs.Text.{in_mode, char_on, text_on, text_whole, text_trace}

-- so it is the first of a byte
first_on_line : (r : Reading) (n : ℕ) → n < 16 → char_on (record { mode = LineStart; reading = r }) (digit_of n) ≡ Ok (record { mode = Half (digit_of n); reading = r })
first_on_line r n small = grind (arith, nat_tests)

first_in_line : (r : Reading) (n : ℕ) → n < 16 → char_on (record { mode = InLine; reading = r }) (digit_of n) ≡ Ok (record { mode = Half (digit_of n); reading = r })
first_in_line r n small = grind (arith, nat_tests)

-- and the next makes the byte
second : (r : Reading) (b : ℕ) → b < 256 → char_on (record { mode = Half (digit_of (b / 16)); reading = r }) (digit_of (b % 16)) ≡ in_mode InLine (with_byte r b)
second r b small = rw byte_back refl

high_small : (b : ℕ) → b < 256 → b / 16 < 16
high_small b small = div_below b 16 16 (omega arith) (omega arith)

-- behind a byte: digits lead as far as the bytes themselves do
goes_on : (bs : List ℕ) → AllByRecursion (λ b. b < 256) bs → (r : Result Reading Refusal) → text_on (in_mode InLine r) (hex_of bs) ≡ in_mode InLine (read_on r bs)
goes_on [] small (Ok r) = refl
goes_on [] small (Err why) = refl
goes_on (b ∷ bs) small (Err why) = refl
goes_on (b ∷ bs) small (Ok r) =
    ap (λ t. text_on t (digit_of (b % 16) ∷ hex_of bs)) (first_in_line r (b / 16) (high_small b small.0))
    ∙ ap (λ t. text_on t (hex_of bs)) (second r b small.0)
    ∙ goes_on bs small.1 (with_byte r b)

-- behind a byte a text may end
ends : (r : Result Reading Refusal) → text_whole (in_mode InLine r) ≡ whole r
ends (Ok r) = refl
ends (Err why) = refl

pub hex_is_read : (bs : List ℕ) → AllByRecursion (λ b. b < 256) bs → text_trace (hex_of bs) ≡ read_trace bs
hex_is_read [] small = refl
hex_is_read (b ∷ bs) small =
    ap (λ t. text_whole (text_on t (digit_of (b % 16) ∷ hex_of bs))) (first_on_line none_read (b / 16) (high_small b small.0))
    ∙ ap (λ t. text_whole (text_on t (hex_of bs))) (second none_read b small.0)
    ∙ ap text_whole (goes_on bs small.1 (with_byte none_read b))
    ∙ ends (read_on (with_byte none_read b) bs)
