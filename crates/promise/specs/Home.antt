-- What is promised of a home, whatever bytes came in. Assumes nothing.
use Rattle.std.specs.Prelude.{◌≡◌, ℕ, ◌+◌, ◌≤◌, min, Bool, true, not, ◌&&◌, T, List, [], ◌∷◌, ◌++◌, length, take, is_some, Some, nat_lt}
use Rattle.std.specs.List.{range_with_len}
use Rattle.std.specs.Option.{option_to_list}
use Rattle.basics.specs.declared.Refusal.{Refusal}
use Rattle.model.specs.declared.Waiter.{Waiter}
use Rattle.model.specs.Home.{HomeState, receives, home_after}
use Rattle.model.specs.Locks.{waits_with}
use Rattle.promise.specs.History.{exchanges, diff_numbers, built, requested, released, granted}

-- A refused message changes nothing.
abbrev pub RefusedKeeps : Type 0
RefusedKeeps = (h : HomeState) (bytes : List ℕ) (why : Refusal) → (receives h bytes).refusal ≡ Some why → (receives h bytes).after ≡ h

-- Of each station, the diffs that were put in are the first, the second and so on, once each and in order; the words are made of just these.
pub record DiffsOnce (seen : List (List ℕ)) : Type 0 where
  pub numbers : (s : ℕ) → diff_numbers s (exchanges seen) ≡ range_with_len 1 ((home_after seen).applied s)
  pub words : (home_after seen).words ≡ built (λ w. 0) (exchanges seen)

-- A lock has one holder at a time: all that were granted it have given it back, each before the next, but for the holder.
-- It goes in turn and is never withheld: the grants are the beginning of the requests, as many as the lesser of the requests and one more than the releases.
pub record InTurn (seen : List (List ℕ)) (l : ℕ) : Type 0 where
  pub holder : granted l (exchanges seen) ≡ released l (exchanges seen) ++ option_to_list ((home_after seen).locks.holder l)
  pub turn :
      granted l (exchanges seen) ≡
      take (min (length (requested l (exchanges seen))) (length (released l (exchanges seen)) + 1)) (requested l (exchanges seen))

-- every station that waits is one of the sixteen, and waits once
abbrev pub apart : List Waiter → Bool
apart [] = true
apart (w ∷ ws) = nat_lt w.station 16 && (not (is_some (waits_with w.station ws)) && apart ws)

-- So the home does not grow: at most sixteen wait.
pub record Bounded (seen : List (List ℕ)) : Type 0 where
  pub once : T (apart (home_after seen).locks.waiting)
  pub few : length (home_after seen).locks.waiting ≤ 16

-- THE PROMISES of a home, over every list of what came in, the latest first.
pub record Kept (seen : List (List ℕ)) : Type 0 where
  pub diffs : DiffsOnce seen
  pub locks : (l : ℕ) → InTurn seen l
  pub bounded : Bounded seen

abbrev pub AllKept : Type 0
AllKept = (seen : List (List ℕ)) → Kept seen
