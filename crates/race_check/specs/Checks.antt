-- A check of the code as tables, what it answers to an event, and what it has been fed. Assumes nothing.
use Rattle.std.specs.Prelude.{◌≡◌, ℕ, cond, List, ◌∷◌, Ok, Err, vec_items, Result, nat_lt}
use Rattle.basics.specs.declared.Refusal.{Refusal}
use Rattle.basics.specs.declared.Refusal.TheVariants.{Malformed, CounterFull}
use Rattle.trace.specs.declared.Event.{Event}
use Rattle.trace.specs.Events.{is_known}
use Rattle.vectors.specs.Check.{Tables}
use Rattle.race_check.specs.declared.state.Check.{Check}
use Rattle.race_check.specs.States.{tables_of, Led}

abbrev pub check_of : Check → Tables
check_of c = tables_of c.places c.verdict c.clocks (vec_items c.words)

-- an event that names what is not there is refused by 1, one too many by 8
abbrev pub accepted : ℕ → Event → Result (Unit {0}) Refusal
accepted places e = cond (is_known e) (cond (nat_lt places 4294967295) (Ok tt) (Err CounterFull)) (Err Malformed)

-- the trace fed so far, with the event unless it was refused
abbrev pub Fed : Result (Unit {0}) Refusal → (t after : Tables) → Event → List Event → Type 0
Fed (Ok _) t after e es = Led after (e ∷ es)
Fed (Err why) t after e es = after ≡ t
