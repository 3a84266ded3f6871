-- Bytes that agree with a message's as far as both go, and are shorter or longer, are refused: such are those of a message that was
-- cut, and of one with something behind it. Assumes nothing.
use Rattle.std.proofs.Common.{◌≡◌, ℕ, ◌+◌, ◌*◌, ◌<◌, List, [], ◌∷◌, ◌++◌, length, get_or, take, Err, refl, ap, ◌∙◌, arith}
use Rattle.std.proofs.lemmas.List.{length-append, length-take-le, get_or-take, get_or_append_left}
use Rattle.std.proofs.lemmas.Bool.{ne_eqb}
use Rattle.model.specs.declared.Message.{Message}
use Rattle.model.specs.declared.Message.TheVariants.{PageReply, Diff}
use Rattle.basics.specs.declared.Refusal.TheVariants.{Malformed}
use Rattle.basics.specs.Numbers.{u8_at}
use Rattle.model.specs.Bytes.{bytes_of, parse, read_kind}
use Rattle.promise.specs.Codec.{InRange, CutRefused, LongerRefused}
use Rattle.promise.proofs.Words.{length_word_bytes}
use Rattle.promise.proofs.Changes.{length_change_bytes}

abbrev Agree : List ℕ → List ℕ → Type 0
Agree bs cs = (i : ℕ) → i < length bs → i < length cs → get_or bs i 0 ≡ get_or cs i 0

some_bytes : (m : Message) → 0 < length (bytes_of m)
some_bytes (PageReply s p n ws) = omega arith
some_bytes m = omega arith

kind_refused :
    (m : Message) (bs : List ℕ) → InRange m → Agree bs (bytes_of m) → (length bs ≡ length (bytes_of m) → ⊥) →
    read_kind (u8_at (bytes_of m) 0) bs ≡ Err Malformed
kind_refused (PageReply s p n ws) bs h a d = rw (ne_eqb (length bs) 264 (λ e. d (omega (arith, length_word_bytes ws))))
kind_refused (Diff s n p cs) bs h a d =
    rw (ne_eqb (length bs) (9 + 5 * u8_at bs 8) (λ e. d (omega (arith, length_change_bytes 0 cs, a 8 (omega arith) (omega arith)))))
kind_refused m bs h a d = rw (ne_eqb (length bs) (length (bytes_of m)) d)

refused : (m : Message) (bs : List ℕ) → InRange m → Agree bs (bytes_of m) → (length bs ≡ length (bytes_of m) → ⊥) → parse bs ≡ Err Malformed
refused m [] h a d = refl
refused m (b ∷ bs) h a d = ap (λ k. read_kind k (b ∷ bs)) (a 0 (omega arith) (some_bytes m)) ∙ kind_refused m (b ∷ bs) h a d

pub cut_refused : CutRefused
cut_refused m k h l =
    let long : length (take k (bytes_of m)) ≡ k = length-take-le k (bytes_of m) (omega arith) in
    refused m (take k (bytes_of m)) h (λ i p q. get_or-take k (bytes_of m) i 0 (omega arith)) (λ e. omega arith)

pub longer_refused : LongerRefused
longer_refused m b more h =
    let long : length (bytes_of m ++ (b ∷ more)) ≡ length (bytes_of m) + length (b ∷ more) = length-append (bytes_of m) (b ∷ more) in
    refused m (bytes_of m ++ (b ∷ more)) h (λ i p q. get_or_append_left (bytes_of m) (b ∷ more) 0 i q) (λ e. omega arith)
