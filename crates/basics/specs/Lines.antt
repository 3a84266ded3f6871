-- Lines that programs print. Assumes nothing.
use Rattle.std.specs.Prelude.{ℕ, List, [], ◌∷◌, ◌++◌, decimal}
use Rattle.basics.specs.declared.Refusal.{Refusal}
use Rattle.basics.specs.Refusals.{in_words}

-- text as a line of output
abbrev pub line : List ℕ → List ℕ
line text = text ++ 10 ∷ []

-- some words with a number behind them
abbrev pub numbered : List ℕ → ℕ → List ℕ
numbered words n = words ++ decimal n

abbrev pub refusal_line : Refusal → List ℕ
refusal_line why = line (in_words why)
