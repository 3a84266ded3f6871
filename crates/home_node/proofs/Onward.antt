-- One message more: the new state is reached by what came in before and these bytes, and a refusal leaves it as it was.
use Rattle.std.proofs.Common.{◌≡◌, ℕ, List, [], ◌∷◌, Ok, Err, Result, OnErr, sym, refl, ap, ◌∙◌}
use mathlib.Core.Logic.{∥∥₁_elim, ∥∥₁_prop}
use Rattle.basics.specs.declared.Refusal.{Refusal}
use Rattle.model.specs.declared.Message.{Message}
use Rattle.model.specs.Home.{HomeState, fresh, hears, hears_read, receives, home_after}
use Rattle.model.specs.Bytes.{parse}
use Rattle.promise.proofs.All.{all_kept}
use Rattle.promise.proofs.Refused.{refused_keeps}
use Rattle.home_node.specs.declared.answer.Refused.{Refused}
use Rattle.home_node.specs.declared.answer.Sent.{Sent}
use Rattle.home_node.specs.Answers.{reply_of}
use Rattle.home_node.specs.Homes.{Onward}

pub at_first : home_after [] ≡ fresh
unfolding home_after
at_first = refl

next : (bytes : List ℕ) (seen : List (List ℕ)) → (receives (home_after seen) bytes).after ≡ home_after (bytes ∷ seen)
unfolding home_after
next bytes seen = refl

abbrev Reached : HomeState → Type 0
Reached h = ∥ ((seen : List (List ℕ)) × (h ≡ home_after seen)) ∥₁

abbrev Promised : HomeState → HomeState → List ℕ → Type 0
Promised h after bytes = ∥ ((seen : List (List ℕ)) × Onward h after bytes seen) ∥₁

module _ (h after : HomeState) (bytes : List ℕ) (e : after ≡ (receives h bytes).after) (reached : Reached h) where
  leads : (seen : List (List ℕ)) → h ≡ home_after seen → after ≡ home_after (bytes ∷ seen)
  leads seen p = e ∙ ap (λ g. (receives g bytes).after) p ∙ next bytes seen

  again : Reached after
  again = ∥∥₁_elim reached ∥∥₁_prop (λ p. ∣ (bytes ∷ p.0, leads p.0 p.1) ∣₁)

  onward : Promised h after bytes
  onward =
      ∥∥₁_elim reached ∥∥₁_prop (λ p. ∣ (p.0, record { led = p.1; leads = leads p.0 p.1; kept = all_kept (bytes ∷ p.0) }) ∣₁)

refusal_keeps : (answer : Result Sent Refused) (h after : HomeState) (bytes : List ℕ) → reply_of answer after ≡ receives h bytes → OnErr answer (after ≡ h)
refusal_keeps (Ok sent) h after bytes a = tt
refusal_keeps (Err r) h after bytes a = ap (λ r. r.after) a ∙ refused_keeps h bytes r.why (sym (ap (λ r. r.refusal) a))

-- the bytes were read as a message, and it was heard
module _ (answer : Result Sent Refused) (h after : HomeState) (bytes : List ℕ) (m : Message) (read : Ok m ≡ parse bytes) (heard : reply_of answer after ≡ hears h m) where
  answered : reply_of answer after ≡ receives h bytes
  answered = heard ∙ ap (hears_read h) read

  pub as_it_was : OnErr answer (after ≡ h)
  as_it_was = refusal_keeps answer h after bytes answered

  pub reached_again : Reached h → Reached after
  reached_again = again h after bytes (ap (λ r. r.after) answered)

  pub promised : Reached h → Promised h after bytes
  promised = onward h after bytes (ap (λ r. r.after) answered)

-- or they were not
pub not_read : (h : HomeState) (bytes : List ℕ) (why : Refusal) → Err why ≡ parse bytes → Reached h → Promised h h bytes
not_read h bytes why e = onward h h bytes (ap (λ r. (hears_read h r).after) e)
