-- A table of refusals: a reply is a refusal, or no row applies and it is what is done. Assumes nothing.
use Rattle.std.proofs.Common.{◌≡◌, false, List, [], ◌∷◌, Some, None}
use Rattle.std.proofs.lemmas.Bool.{cond_both}
use Rattle.basics.specs.declared.Refusal.{Refusal}
use Rattle.model.specs.Outcomes.{Outcome, Row, refused, unless}

-- no row applies
abbrev pub NoneApply : List Row → Type 0
NoneApply [] = Unit
NoneApply (row ∷ rows) = (row.applies ≡ false) × NoneApply rows

module _ {S : Type 0} where
  -- What holds of every refusal, and of what is done where no row applies, holds of the reply.
  pub unless_either :
      (P : Outcome S → Type 0) (rows : List Row) (s : S) (r : Outcome S) → ((why : Refusal) → P (refused why [] s)) → (NoneApply rows → P r) → P (unless rows s r)
  unless_either P [] s r stop otherwise = otherwise tt
  unless_either P (row ∷ rows) s r stop otherwise =
      cond_both row.applies _ _ P (λ _. stop row.why) (λ e. unless_either P rows s r stop (λ none. otherwise (e, none)))

  -- A refusal keeps all, if what is done otherwise is no refusal.
  pub unless_keeps :
      (rows : List Row) (s : S) (r : Outcome S) → r.refusal ≡ None → (why : Refusal) → (unless rows s r).refusal ≡ Some why →
      unless rows s r ≡ refused why [] s
  unless_keeps rows s r none why =
      unless_either (λ x. x.refusal ≡ Some why → x ≡ refused why [] s) rows s r (λ v e. let f : v ≡ why = cc in rw f) (λ _ e. absurd (cc))

  -- what was not refused had no row that applies
  pub none_apply : (rows : List Row) (s : S) (r : Outcome S) → (unless rows s r).refusal ≡ None → NoneApply rows
  none_apply rows s r = unless_either (λ x. x.refusal ≡ None → NoneApply rows) rows s r (λ why e. absurd (cc)) (λ none _. none)
