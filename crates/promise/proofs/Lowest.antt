-- In a table of refusals in rising order the refusal that is given has the lowest number of those that apply. Assumes nothing.
use Rattle.std.proofs.Common.{◌≡◌, ℕ, ◌≤◌, Bool, true, false, ◌&&◌, leb, List, [], ◌∷◌, Some, None, Option, refl, arith}
use mathlib.Core.List.Memᴰ
use mathlib.Core.List.{Memᴰ}
use Rattle.std.proofs.lemmas.Bool.{both_ways, and_parts, leb-true, cond_both}
use Rattle.basics.specs.declared.Refusal.{Refusal}
use Rattle.basics.specs.Refusals.{number_of}
use Rattle.model.specs.declared.Message.{Message}
use Rattle.model.specs.declared.Message.TheVariants.{PageReply}
use Rattle.model.specs.declared.Call.{Call}
use Rattle.model.specs.declared.Call.TheVariants.{Tell}
use Rattle.model.specs.Outcomes.{Outcome, Row, refused, unless}
use Rattle.model.specs.Station.{StationState, call_refusals, message_refusals, does, takes_in}
use Rattle.promise.specs.Station.{Lowest, AlwaysLowest}
use Rattle.promise.proofs.StationSteps.{does_done, takes_done}

-- every row has at least this number, and behind each row the numbers are no lower
abbrev in_order : ℕ → List Row → Bool
in_order least [] = true
in_order least (row ∷ rows) = leb least (number_of row.why) && in_order (number_of row.why) rows

-- what holds of the first row and of all behind it holds of each
each_row : (P : Row → Type 0) {x : Row} {rows : List Row} → P x → ((row : Row) → Memᴰ row rows → P row) → (row : Row) → Memᴰ row (x ∷ rows) → P row
each_row P first behind row (Memᴰ.head h) = rw h first
each_row P first behind row (Memᴰ.tail h) = behind row h

-- where the numbers rise, none is below the least
order_least : (least : ℕ) (rows : List Row) → in_order least rows ≡ true → (row : Row) → Memᴰ row rows → least ≤ number_of row.why
order_least least [] e = λ row h. absurd (Memᴰ.not-nil h)
order_least least (x ∷ rows) e =
    let b = and_parts (leb least (number_of x.why)) _ e in
    let first = leb-true least _ b.0 in
    each_row (λ y. least ≤ number_of y.why) first (λ row h. omega (arith, order_least (number_of x.why) rows b.1 row h))

-- a first row that applies is the lowest
lowest_here : (x : Row) (rows : List Row) → in_order (number_of x.why) rows ≡ true → x.applies ≡ true → Lowest (x ∷ rows) (Some x.why)
lowest_here x rows e here =
    ((x, Memᴰ.head refl, here, refl), each_row (λ y. y.applies ≡ true → number_of x.why ≤ number_of y.why) (λ _. omega arith) (λ row h _. order_least (number_of x.why) rows e row h))

-- a first row that does not apply changes nothing
lowest_behind : (x : Row) (rows : List Row) (o : Option Refusal) → x.applies ≡ false → Lowest rows o → Lowest (x ∷ rows) o
lowest_behind x rows None off k = each_row (λ y. y.applies ≡ false) off k
lowest_behind x rows (Some why) off k =
    ((k.0.0, Memᴰ.tail k.0.1, k.0.2, k.0.3), each_row (λ y. y.applies ≡ true → number_of why ≤ number_of y.why) (λ on. absurd (both_ways _ off on)) k.1)

module _ {S : Type 0} (s : S) (r : Outcome S) (none : r.refusal ≡ None) where
  -- the first row that applies is the lowest that does
  lowest_unless : (least : ℕ) (rows : List Row) → in_order least rows ≡ true → Lowest rows (unless rows s r).refusal
  lowest_unless least [] e = rw none (λ row h. absurd (Memᴰ.not-nil h))
  lowest_unless least (x ∷ rows) e =
      let b = and_parts (leb least (number_of x.why)) _ e in
      cond_both x.applies (refused x.why [] s) (unless rows s r) (λ y. Lowest (x ∷ rows) y.refusal)
      (lowest_here x rows b.1) (λ off. lowest_behind x rows _ off (lowest_unless (number_of x.why) rows b.1))

-- THE TABLES have their refusals in rising order.
call_order : (s : StationState) (c : Call) → in_order 1 (call_refusals s c) ≡ true
call_order s (Tell p) = refl
call_order s c = refl

message_order : (s : StationState) (m : Message) → in_order 1 (message_refusals s m) ≡ true
message_order s (PageReply t p n ws) = refl
message_order s m = refl

pub lowest_given : AlwaysLowest
lowest_given s =
    record {
      calls = λ c. lowest_unless s (does s c) (does_done s c) 1 (call_refusals s c) (call_order s c);
      messages = λ m. lowest_unless s (takes_in s m) (takes_done s m) 1 (message_refusals s m) (message_order s m);
    }
