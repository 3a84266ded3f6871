-- A whole trace fed to the check, one event after the other. Assumes nothing.
use Rattle.std.proofs.Common.{◌≡◌, ℕ, ◌+◌, ◌<◌, List, [], ◌∷◌, length, get_or, drop, Ok, Err, Result, sym, refl, ap, ◌∙◌}
use Rattle.std.proofs.lemmas.List.{at_drop_more}
use Rattle.basics.specs.declared.Refusal.{Refusal}
use Rattle.trace.specs.declared.Event.{Event}
use Rattle.vectors.specs.Check.{Tables}
use Rattle.vectors.proofs.Latest.{places_are}
use Rattle.race_check.specs.declared.whole.Unchecked.TheVariants.{Refused}
use Rattle.race_check.specs.Checks.{accepted, Fed}
use Rattle.race_check.specs.States.{Led}
use Rattle.race_check.specs.Whole.{fed_all, fed_with, Checked}

-- the check was fed all events before place i, and what follows decides
pub record FedTo (t : Tables) (events : List Event) (i : ℕ) : Type 0 where
  pub trace : List Event
  pub led : Led t trace
  pub rest : fed_all trace (drop i events) ≡ fed_all [] events

module _ {t : Tables} (events : List Event) (i : ℕ) (f : FedTo t events i) where
  module _ (e d : Event) (is : e ≡ get_or events i d) (h : i < length events) (r : Result (Unit {0}) Refusal) (answer : r ≡ accepted t.places e) where
    places : t.places ≡ length f.trace
    places = ap (λ u. u.places) f.led.leads ∙ places_are f.trace

    -- the whole is what comes of this event and the next ones
    next : fed_with r (fed_all (e ∷ f.trace) (drop (i + 1) events)) ≡ fed_all [] events
    next =
        ap (λ x. fed_with x (fed_all (e ∷ f.trace) (drop (i + 1) events))) (answer ∙ ap (λ n. accepted n e) places) ∙
        ap (λ x. fed_with (accepted (length f.trace) x) (fed_all (x ∷ f.trace) (drop (i + 1) events))) is ∙
        sym (at_drop_more (fed_all f.trace) events i d h) ∙ f.rest

    pub fed_more : (u : Tables) → (o : Unit {0}) → r ≡ Ok o → ((es : List Event) → Led t es → Fed r t u e es) → FedTo u events (i + 1)
    fed_more u o ok fed = record { trace = e ∷ f.trace; led = rw ok at (fed f.trace f.led); rest = rw ok at next }

    pub fed_refused : (why : Refusal) → r ≡ Err why → Checked (Err (Refused why)) (fed_all [] events)
    fed_refused why err = let all : fed_all [] events ≡ Err why = sym (rw err at next) in rw all refl
