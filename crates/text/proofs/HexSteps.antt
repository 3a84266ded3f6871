-- Digits that are written and read back, and what pairs of digits stand for.
use Rattle.std.proofs.Common.{◌≡◌, ℕ, zero, suc, ◌+◌, ◌/◌, ◌%◌, ◌<◌, ◌≤◌, true, false, ◌&&◌, ◌==◌, Bool, List, [], ◌∷◌, ◌++◌, length, get_or, drop, is_some, Some, None, Option, sym, refl, ap, ◌∙◌, append_assoc, arith}
use Rattle.std.specs.Char.{is_ascii_hexdigit}
use Rattle.std.specs.List.{AllByRecursion, list_all}
use Rattle.std.specs.Option.{option_map}
use Rattle.std.proofs.lemmas.List.{append-nil, at_drop_more, at_drop_all}
use Rattle.std.specs.Simd.{first_chunks}
use Rattle.std.proofs.lemmas.Nat.{div-add-mod', div_below, mod_below}
use mathlib.Core.Bool.{true≢false}
use Rattle.std.proofs.lemmas.Bool.Decides.{nat_tests}
use Rattle.text.specs.Hex.{digit_of, hex_of, hex_value, byte_of, paired, before, bytes_from}

digit_back : (n : ℕ) → n < 16 → hex_value (digit_of n) ≡ Some n
digit_back n small = grind (arith, nat_tests)

pub byte_back : (b : ℕ) → b < 256 → byte_of (digit_of (b / 16)) (digit_of (b % 16)) ≡ Some b
byte_back b small = rw (digit_back (b / 16) (div_below b 16 16 (omega arith) (omega arith)), digit_back (b % 16) (mod_below b 16 (omega arith))) (ap Some (div-add-mod' b 16))

pub comes_back : (bs : List ℕ) → AllByRecursion (λ b. b < 256) bs → bytes_from (hex_of bs) ≡ Some bs
comes_back [] small = refl
comes_back (b ∷ bs) small = rw (byte_back b small.0, comes_back bs small.1) refl

-- the byte of a pair of digits
abbrev pub of_pair : List ℕ → Option ℕ
of_pair p = byte_of (get_or p 0 0) (get_or p 1 0)

-- std's digits are the ones with a value
digit_counts : (c : ℕ) → is_some (hex_value c) ≡ is_ascii_hexdigit c
digit_counts c = grind (arith, nat_tests)

pair_counts : (a b : Option ℕ) (o : Option (List ℕ)) → is_some (before (paired a b) o) ≡ (is_some a && (is_some b && is_some o))
pair_counts a b o = grind arith

evenness_first : (even a b c : Bool) → (a && (b && (even && c))) ≡ (even && (a && (b && c)))
evenness_first even a b c = grind arith

pub counts_by_digits : (cs : List ℕ) → is_some (bytes_from cs) ≡ (length cs % 2 == 0 && list_all is_ascii_hexdigit cs)
counts_by_digits [] = refl
counts_by_digits (c ∷ []) = refl
counts_by_digits (high ∷ low ∷ cs) =
    let shorter : suc (suc (length cs)) % 2 ≡ length cs % 2 = omega arith in
    rw (pair_counts (hex_value high) (hex_value low) (bytes_from cs), digit_counts high, digit_counts low, counts_by_digits cs, shorter) (evenness_first (length cs % 2 == 0) (is_ascii_hexdigit high) (is_ascii_hexdigit low) (list_all is_ascii_hexdigit cs))

both_some : (b : Option ℕ) (o : Option (List ℕ)) → is_some (before b o) ≡ true → (is_some b ≡ true) × (is_some o ≡ true)
both_some b o some = grind arith

-- the bytes of pairs of digits, if each pair has one
abbrev pub of_pairs : List (List ℕ) → Option (List ℕ)
of_pairs [] = Some []
of_pairs (p ∷ ps) = before (of_pair p) (of_pairs ps)

by_pairs : (k : ℕ) (cs : List ℕ) → length cs / 2 ≡ k → is_some (bytes_from cs) ≡ true → of_pairs (first_chunks 2 k cs) ≡ bytes_from cs
by_pairs zero [] long some = refl
by_pairs (suc k) [] long some = absurd (omega arith)
by_pairs k (c ∷ []) long some = absurd (true≢false (sym some))
by_pairs zero (high ∷ low ∷ cs) long some = absurd (omega arith)
by_pairs (suc k) (high ∷ low ∷ cs) long some = ap (before (byte_of high low)) (by_pairs k cs (omega arith) (both_some (byte_of high low) (bytes_from cs) some).1)

-- the bytes xs are read, and the pairs ps are still to read
abbrev pub Reads : List ℕ → List ℕ → List (List ℕ) → Type 0
Reads cs xs ps = option_map (λ ys. xs ++ ys) (of_pairs ps) ≡ bytes_from cs

continued_none : (o : Option (List ℕ)) → option_map (λ ys. [] ++ ys) o ≡ o
continued_none o = grind arith

pub reads_none : (cs xs : List ℕ) (ps : List (List ℕ)) → xs ≡ [] → ps ≡ first_chunks 2 (length cs / 2) cs → is_some (bytes_from cs) ≡ true → Reads cs xs ps
reads_none cs xs ps none all some = rw (none, all, by_pairs (length cs / 2) cs refl some) (continued_none (bytes_from cs))

next_counts : (xs : List ℕ) (b : Option ℕ) (o : Option (List ℕ)) → is_some (option_map (λ ys. xs ++ ys) (before b o)) ≡ true → is_some b ≡ true
next_counts xs b o some = grind arith

one_more : (xs : List ℕ) (b : ℕ) (o : Option (List ℕ)) → option_map (λ ys. (xs ++ b ∷ []) ++ ys) o ≡ option_map (λ ys. xs ++ ys) (before (Some b) o)
one_more xs b o = grind (arith, append_assoc)

module _ (cs xs : List ℕ) (ps : List (List ℕ)) (i : ℕ) (r : Reads cs xs (drop i ps)) where
  next : i < length ps → option_map (λ ys. xs ++ ys) (before (of_pair (get_or ps i [])) (of_pairs (drop (i + 1) ps))) ≡ bytes_from cs
  next more = sym (at_drop_more (λ l. option_map (λ ys. xs ++ ys) (of_pairs l)) ps i [] more) ∙ r

  pub reads_some : i < length ps → is_some (bytes_from cs) ≡ true → is_some (of_pair (get_or ps i [])) ≡ true
  reads_some more some = next_counts xs (of_pair (get_or ps i [])) (of_pairs (drop (i + 1) ps)) (ap is_some (next more) ∙ some)

  pub reads_more : {b : ℕ} (zs : List ℕ) → i < length ps → of_pair (get_or ps i []) ≡ Some b → zs ≡ xs ++ b ∷ [] → Reads cs zs (drop (i + 1) ps)
  reads_more {b} zs more is pushed = rw pushed (one_more xs b (of_pairs (drop (i + 1) ps)) ∙ ap (λ v. option_map (λ ys. xs ++ ys) (before v (of_pairs (drop (i + 1) ps)))) (sym is) ∙ next more)

  pub reads_all : length ps ≤ i → bytes_from cs ≡ Some xs
  reads_all all = sym r ∙ at_drop_all (λ l. option_map (λ ys. xs ++ ys) (of_pairs l)) ps i all ∙ ap Some (append-nil xs)

pub none_where_not : (o : Option (List ℕ)) → false ≡ is_some o → o ≡ None
none_where_not o is = grind arith
