-- An array made by a closure that stays as it is. Assumes nothing.
use Rattle.std.proofs.Common.{◌≡◌, ℕ, zero, suc, ◌+◌, ◌<◌, ◌≤◌, List, get_or, sym, ◌∙◌, inl, inr, arith}
use mathlib.Core.Path.{fun_ext}
use denote.Param.Members.{Mut, Called}
use Rattle.std.proofs.lemmas.Bool.{cases_lt}
use Rattle.std.proofs.lemmas.List.{get_or_past}
use Rattle.std.specs.Array.{IsFromFnResult, IsFromFnResultFrom}
use Rattle.race_check.specs.Rows.{vector_of}

-- each call below n gives v at the index
module _ {F : Type 0} (g : Mut F (ℕ × Unit {0}) ℕ) (f : F) (v : ℕ → ℕ) (n : ℕ) (gives : (i y : ℕ) (q : F) → i < n → Called g f (i, tt) y q → (y ≡ v i) × (q ≡ f)) (ys : List ℕ) where
  made_from : (i m k : ℕ) → i + m ≤ n → IsFromFnResultFrom g f ys i m → k < m → get_or ys (i + k) 0 ≡ v (i + k)
  made_from i zero k e h l = absurd (omega arith)
  made_from i (suc m) zero e h l =
      let same : i + 0 ≡ i = omega arith in
      rw same (h.2.1 0 ∙ (gives i h.1 h.0 (omega arith) h.3).0)
  made_from i (suc m) (suc k) e h l =
      let next : i + suc k ≡ i + 1 + k = omega arith in
      rw next (made_from (i + 1) m k (omega arith) (rw (gives i h.1 h.0 (omega arith) h.3).1 at h.4) (omega arith))

  -- and v is 0 from there on, as is what lies past the array's end
  pub made : ((j : ℕ) → n ≤ j → v j ≡ 0) → IsFromFnResult g f ys n → vector_of ys ≡ v
  made beyond h =
      fun_ext (λ j.
      elim (cases_lt j n) [
        | inl l ↦ let at : 0 + j ≡ j = omega arith in rw at at (made_from 0 n j (omega arith) h.each l)
        | inr l ↦ get_or_past ys j 0 (omega (arith, h.long)) ∙ sym (beyond j l)
      ])
