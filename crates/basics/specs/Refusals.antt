-- The numbers of the refusals, and what programs print of them. Assumes nothing.
use Rattle.std.specs.Prelude.{ℕ, List, ◌++◌, codes, decimal}
use Rattle.basics.specs.declared.Refusal.{Refusal}
use Rattle.basics.specs.declared.Refusal.TheVariants.{Malformed, Waits, PageState, PagesFull, NotFlushed, LockState, StaleNumber, CounterFull}

abbrev pub number_of : Refusal → ℕ
number_of Malformed = 1
number_of Waits = 2
number_of PageState = 3
number_of PagesFull = 4
number_of NotFlushed = 5
number_of LockState = 6
number_of StaleNumber = 7
number_of CounterFull = 8

-- what programs print of a refusal; shut, so that proofs do not go through its letters
unfoldable pub in_words : Refusal → List ℕ
in_words why = codes "turned away " ++ decimal (number_of why)
