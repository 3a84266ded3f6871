-- A piece that is fed item by item: what holds between two items, and how it ends. Assumes nothing.
use Rattle.std.proofs.Common.{◌≡◌, ℕ, ◌+◌, ◌<◌, List, [], ◌∷◌, length, get_or, drop, Ok, Err, Result, sym, refl, ◌∙◌}
use Rattle.std.proofs.lemmas.List.{at_drop_more}
use Rattle.basics.specs.declared.Refusal.{Refusal}
use Rattle.trace_text.specs.Text.{TextReading}
use Rattle.judging.specs.declared.judge.Judge.{Judge}
use Rattle.judging.specs.Fed.{fed_on}
use Rattle.judging.specs.Judges.{Holds, Follows}

-- the judge holds what the items so far have made, and the rest makes of that what the whole piece is to make
pub record Between (feed : TextReading → ℕ → Result TextReading Refusal) (now : Judge) (rest : List ℕ) (goal : Result TextReading Refusal) : Type 0 where
  pub held : TextReading
  pub holds : Holds now held
  pub same : fed_on feed (Ok held) rest ≡ goal

-- all this for whatever the judge held at the start
abbrev pub SoFar : (TextReading → ℕ → Result TextReading Refusal) → (start now : Judge) → (rest piece : List ℕ) → Type 0
SoFar feed start now rest piece = (t : TextReading) → Holds start t → Between feed now rest (fed_on feed (Ok t) piece)

module _ (feed : TextReading → ℕ → Result TextReading Refusal) where
  -- an item that was taken, and one that was refused
  taken : (k : Judge) (x : Result TextReading Refusal) (rest : List ℕ) → Follows (Ok tt) k x → Between feed k rest (fed_on feed x rest)
  taken k (Ok u) rest h = record { held = u; holds = h; same = refl }
  taken k (Err why) rest h = absurd h

  stopped : (k : Judge) (why : Refusal) (x : Result TextReading Refusal) (rest : List ℕ) → Follows (Err why) k x → Follows (Err why) k (fed_on feed x rest)
  stopped k why (Ok u) rest h = absurd h
  stopped k why (Err w) [] h = h
  stopped k why (Err w) (c ∷ rest) h = h

  module _ (start j k : Judge) (piece : List ℕ) (i : ℕ) (so : SoFar feed start j (drop i piece) piece) where
    pub one_more : i < length piece → ((u : TextReading) → Holds j u → Follows (Ok tt) k (feed u (get_or piece i 0))) → SoFar feed start k (drop (i + 1) piece) piece
    one_more within does t h =
        let b = so t h in
        let next = taken k (feed b.held (get_or piece i 0)) (drop (i + 1) piece) (does b.held b.holds) in
        record { held = next.held; holds = next.holds; same = next.same ∙ sym (at_drop_more (fed_on feed (Ok b.held)) piece i 0 within) ∙ b.same }

    pub refused :
        (got : Result (Unit {0}) Refusal) (why : Refusal) → got ≡ Err why → i < length piece → ((u : TextReading) → Holds j u → Follows (Err why) k (feed u (get_or piece i 0))) →
        (t : TextReading) → Holds start t → Follows got k (fed_on feed (Ok t) piece)
    refused got why is within does t h =
        let b = so t h in
        rw (is, sym (sym (at_drop_more (fed_on feed (Ok b.held)) piece i 0 within) ∙ b.same))
        (stopped k why (feed b.held (get_or piece i 0)) (drop (i + 1) piece) (does b.held b.holds))
