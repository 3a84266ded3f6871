-- What one character or byte more does to a judge. Assumes nothing.
use Rattle.std.proofs.Common.{◌≡◌, ℕ, suc, refl, ◌≤◌, true, List, ◌∷◌, length, None, Some, Ok, Err, Option, Result, ap, ◌∙◌, arith}
use Rattle.std.proofs.lemmas.Bool.{le-ltb, lt-ltb}
use Rattle.std.proofs.lemmas.Bool.Decides.{nat_tests}
use Rattle.basics.specs.declared.Refusal.{Refusal}
use Rattle.basics.specs.declared.Refusal.TheVariants.{CounterFull}
use Rattle.trace.specs.declared.Event.{Event}
use Rattle.trace.specs.Events.{is_known}
use Rattle.trace_text.specs.Text.{TextReading}
use Rattle.trace_text.specs.Readers.{reading_of, ReadsOn}
use Rattle.trace_text.specs.declared.trace_reader.TraceReader.{TraceReader}
use Rattle.race_check.specs.declared.state.Check.{Check}
use Rattle.vectors.proofs.Latest.{places_are}
use Rattle.race_check.specs.Checks.{check_of, accepted, Fed}
use Rattle.race_check.specs.States.{Led}
use Rattle.judging.specs.declared.judge.Judge.{Judge}
use Rattle.judging.specs.Fed.{limited}
use Rattle.judging.specs.Judges.{Holds, Follows}

-- an event that was taken found room, and one that was refused found none
abbrev Room : Result (Unit {0}) Refusal → List Event → Type 0
Room (Ok _) es = suc (length es) ≤ 4294967295
Room (Err why) es = (4294967295 ≤ length es) × (why ≡ CounterFull)

room_told :
    (es : List Event) (places : ℕ) (e : Event) (got : Result (Unit {0}) Refusal) → is_known e ≡ true → places ≡ length es → got ≡ accepted places e → Room got es
room_told es places e (Ok _) known p h = grind (arith, nat_tests)
room_told es places e (Err why) known p h = (grind (arith, nat_tests), grind (arith, nat_tests))

-- from what the judge j holds, t, the reader has read one character or byte more: it gave got, and is left as it is then
module _
    (step : TextReading → ℕ → Result TextReading Refusal) (j : Judge) (t : TextReading) (h : Holds j t) (c : ℕ) (got : Result (Option Event) Refusal) (left : TraceReader)
    (reads : (es : List Event) → ReadsOn got left es (step (reading_of j.reader es) c)) where
  here : ReadsOn got left t.reading.trace (step t c)
  here = rw (h.mode, h.part) at (reads t.reading.trace)

  -- it was refused
  pub refused_one : (why : Refusal) → got ≡ Err why → (answer : Result (Unit {0}) Refusal) → answer ≡ Err why → (k : Judge) → Follows answer k (limited (step t c))
  refused_one why is answer gives k = rw (gives, rw is at here) refl

  -- no event was made yet
  pub none_made : got ≡ Ok None → Follows (Ok tt) (record { reader = left; check = j.check }) (limited (step t c))
  none_made is = rw (rw is at here, le-ltb 4294967295 _ h.room) (record { mode = refl; part = refl; fed = h.fed; room = h.room })

  -- an event was made, which the check was fed
  pub event_fed :
      (e : Event) → got ≡ Ok (Some e) → (answer : Result (Unit {0}) Refusal) → answer ≡ accepted (check_of j.check).places e → (check : Check) →
      ((es : List Event) → Led (check_of j.check) es → Fed answer (check_of j.check) (check_of check) e es) → Follows answer (record { reader = left; check = check }) (limited (step t c))
  event_fed e is answer accepts check feeds =
      rw ((rw is at here).0)
      (after answer (room_told _ (check_of j.check).places e answer ((rw is at here).1) (ap (λ x. x.places) h.fed.leads ∙ places_are t.reading.trace) accepts) (feeds t.reading.trace h.fed))
    where
      after :
          (answer : Result (Unit {0}) Refusal) → Room answer t.reading.trace → Fed answer (check_of j.check) (check_of check) e t.reading.trace →
          Follows answer (record { reader = left; check = check }) (limited (Ok (reading_of left (e ∷ t.reading.trace))))
      after (Ok _) room fed = rw (le-ltb 4294967295 _ room) (record { mode = refl; part = refl; fed = fed; room = room })
      after (Err why) room fed = rw (lt-ltb 4294967295 (suc (length t.reading.trace)) (omega arith)) room.1
