-- What one digit more makes of a number, what a fold over digits reads, and that written digits are read back.
use Rattle.std.proofs.Common.{◌≡◌, ℕ, ◌+◌, ◌-◌, ◌*◌, ◌^◌, ◌<◌, ◌≤◌, true, List, [], ◌∷◌, length, Some, None, Option, Bor, decimal, sym, refl, ap, ◌∙◌, arith, rules}
use denote.Param.Members.{Mut}
use Rattle.std.specs.Fn.{Called}
use Rattle.std.specs.Iterator.{Yields, YieldsThen}
use Rattle.std.specs.List.{FoldsTo}
use Rattle.std.specs.Option.{MatchOption}
use Rattle.std.specs.Slice.Iter.{iter_rest}
use Rattle.std.specs.Str.{all_ascii_digits}
use Rattle.std.specs.declared.slice.Iter.{Iter}
use Rattle.std.proofs.lemmas.Fmt.{decimal_nonempty, digits_decimal, digits_value-decimal}
use Rattle.std.proofs.lemmas.Fn.{fronts}
use Rattle.std.proofs.lemmas.List.{nil_from_length}
use Rattle.std.proofs.lemmas.Str.Parse.{IsNumeralModel, numerals_by_fold, tells_all_ascii_digits}
use Rattle.std.proofs.lemmas.Bool.{cond_below}
use Rattle.std.proofs.lemmas.Bool.Decides.{nat_tests}
use Rattle.text.specs.Number.{value_after, number_after, number_of}

never_smaller : (n : ℕ) (ds : List ℕ) → n ≤ value_after n ds
never_smaller n [] = omega arith
never_smaller n (d ∷ ds) = omega (arith, never_smaller (n * 10 + (d - 48)) ds)

one_digit : (n d m : ℕ) (ds : List ℕ) → number_after n (d ∷ []) ≡ Some m → number_after n (d ∷ ds) ≡ number_after m ds
one_digit n d m ds h = grind (arith, nat_tests)

-- a number that has grown too large stays so
no_digit : (n d : ℕ) (ds : List ℕ) → number_after n (d ∷ []) ≡ None → number_after n (d ∷ ds) ≡ None
no_digit n d ds h = grind (arith, nat_tests, never_smaller (n * 10 + (d - 48)) ds)

fits : (n d m : ℕ) → number_after n (d ∷ []) ≡ Some m → m < 2 ^ 32
fits n d m h = grind (arith, nat_tests)

pub whole : (ds : List ℕ) → (length ds ≡ 0 → ⊥) → number_of ds ≡ number_after 0 ds
whole [] some = absurd (some refl)
whole (d ∷ ds) some = refl

-- a closure g that puts one digit more to a number
module _ {F : Type 0} (g : Mut F (ℕ × (Bor ℕ × Unit {0})) (Option ℕ)) (says : (f f' : F) (n : ℕ) (x : Bor ℕ) (o : Option ℕ) → Called g f (n, (x, tt)) o f' → o ≡ number_after n (x.now ∷ [])) where
  abbrev pub Goes : F × ℕ → Bor ℕ → F × ℕ → Type 0
  Goes p x q = (o : Option ℕ) × Called g p.0 (p.1, (x, tt)) o q.0 × (o ≡ Some q.1)

  goes_on : (xs : List (Bor ℕ)) (s t : Iter ℕ) (p q : F × ℕ) → Yields fronts s xs t → FoldsTo Goes p xs q → p.1 < 2 ^ 32 → (number_after p.1 (iter_rest s) ≡ number_after q.1 (iter_rest t)) × (q.1 < 2 ^ 32)
  goes_on [] s t p q y c small = (ap (λ i. number_after p.1 (iter_rest i)) y ∙ ap (λ k. number_after k.1 (iter_rest t)) c, rw c at small)
  goes_on (x ∷ xs) s t p q (i, first, y) (m, (o, call, some), c) small =
      let one = sym (says _ _ _ _ _ call) ∙ some in
      let later = goes_on xs i t m q y c (fits p.1 x.now m.1 one) in
      (ap (number_after p.1) first ∙ one_digit p.1 x.now m.1 (iter_rest i) one ∙ later.0, later.1)

  -- what `try_fold` answers
  pub folded : {E : Type 0} (s u : Iter ℕ) (f : F) (r : Option ℕ) → (xs : List (Bor ℕ)) × (o : Option (Bor ℕ)) × (h : F) × (n : ℕ) × YieldsThen fronts s xs o u × FoldsTo Goes (f, 0) xs (h, n) × MatchOption o (r ≡ Some n) (λ x. (v : Option ℕ) × (k : F) × E × Called g h (n, (x, tt)) v k × (v ≡ None) × (r ≡ None)) → r ≡ number_after 0 (iter_rest s)
  folded s u f r (xs, None, h, n, (t, y, ended), c, is) =
      let read = goes_on xs s t (f, 0) (h, n) y c (omega arith) in
      let whole : number_after n [] ≡ Some n = sym (cond_below n (2 ^ 32) (Some n) None read.1) in
      is ∙ sym (read.0 ∙ ap (number_after n) (nil_from_length (iter_rest t) ended.0) ∙ whole)
  folded s u f r (xs, Some x, h, n, (t, y, next), c, (v, k, e, call, none, is)) =
      let read = goes_on xs s t (f, 0) (h, n) y c (omega arith) in
      is ∙ sym (read.0 ∙ ap (number_after n) next ∙ no_digit n x.now (iter_rest u) (sym (says _ _ _ _ _ call) ∙ none))

own : IsNumeralModel (λ ds. all_ascii_digits ds ≡ true) (value_after 0)
own = numerals_by_fold _ tells_all_ascii_digits value_after (search rules)

pub comes_back : (n : ℕ) → n < 2 ^ 32 → number_of (decimal n) ≡ Some n
comes_back n small =
    let wide : n < 2 ^ 64 = omega arith in
    let digits = digits_decimal own n wide in
    let value = digits_value-decimal own n wide in
    whole (decimal n) (λ e. omega (arith, decimal_nonempty n wide)) ∙ rw (digits, value) (sym (cond_below n (2 ^ 32) (Some n) None small))
