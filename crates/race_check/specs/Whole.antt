-- A whole trace fed to the check, and what it answers. Assumes nothing.
use Rattle.std.specs.Prelude.{◌≡◌, ℕ, codes, List, [], ◌∷◌, length, Ok, Err, Result}
use Rattle.basics.specs.declared.Refusal.{Refusal}
use Rattle.basics.specs.Refusals.{in_words}
use Rattle.trace.specs.declared.Event.{Event}
use Rattle.trace.specs.declared.Verdict.{Verdict}
use Rattle.vectors.specs.Laws.{Judged}
use Rattle.race_check.specs.declared.whole.Unchecked.{Unchecked}
use Rattle.race_check.specs.declared.whole.Unchecked.TheVariants.{Refused, Memory}
use Rattle.race_check.specs.Checks.{accepted}

-- what follows, unless the event is refused
abbrev pub fed_with : Result (Unit {0}) Refusal → Result (List Event) Refusal → Result (List Event) Refusal
fed_with (Ok _) next = next
fed_with (Err why) next = Err why

-- es: the trace so far, the latest first; then the events that follow, the first first, up to one that is refused
abbrev pub fed_all : List Event → List Event → Result (List Event) Refusal
fed_all es [] = Ok es
fed_all es (e ∷ next) = fed_with (accepted (length es) e) (fed_all (e ∷ es) next)

-- the verdict is right of that trace, or the refusal is that one; memory may always be wanting
abbrev pub Checked : Result Verdict Unchecked → Result (List Event) Refusal → Type 0
Checked (Ok v) (Ok es) = Judged es v
Checked (Ok v) (Err why) = ⊥
Checked (Err (Refused why)) (Ok es) = ⊥
Checked (Err (Refused why)) (Err w) = why ≡ w
Checked (Err Memory) (Ok es) = Unit {0}
Checked (Err Memory) (Err w) = Unit {0}

-- what programs print of it
abbrev pub unchecked_words : Unchecked → List ℕ
unchecked_words (Refused why) = in_words why
unchecked_words Memory = codes "out of memory"
