-- Readers that have the same bytes so far are equal, since zeros stand behind these. Assumes nothing.
use Rattle.std.proofs.Common.{◌≡◌, ℕ, ◌-◌, ◌≤◌, List, ◌++◌, length, take, drop, replicate, sym, ap, ◌∙◌, arith}
use Rattle.std.proofs.lemmas.List.{length-take-le, take-append-drop}
use Rattle.trace_text.specs.declared.reader.Reader.{Reader}
use Rattle.trace_text.specs.Parts.{part_of}

whole : (n : ℕ) (xs : List ℕ) → drop n xs ≡ replicate (9 - n) 0 → xs ≡ take n xs ++ replicate (9 - n) 0
whole n xs zeros = sym (take-append-drop n xs) ∙ ap (λ r. take n xs ++ r) zeros

module _ (a b : Reader) (same : part_of a ≡ part_of b) where
  -- as many bytes
  pub same_number : a.filled ≡ b.filled
  same_number =
      sym (length-take-le a.filled a.part (omega (arith, a.short, a.nine))) ∙ ap length same ∙
      length-take-le b.filled b.part (omega (arith, b.short, b.nine))

  -- and the same ones, in the same nine places
  pub same_bytes : a.part ≡ b.part
  same_bytes =
      whole a.filled a.part a.zeros ∙ ap (λ l. l ++ replicate (9 - a.filled) 0) same ∙
      ap (λ n. part_of b ++ replicate (9 - n) 0) same_number ∙ sym (whole b.filled b.part b.zeros)
