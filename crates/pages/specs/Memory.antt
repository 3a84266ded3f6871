-- Lent words as a memory. Assumes nothing.
use Rattle.std.specs.Prelude.{ℕ, ◌+◌, ◌*◌, Bool, List, length, nat_le, slice_index}

abbrev pub memory : List ℕ → ℕ → ℕ
memory ws w = slice_index ws w

-- the words reach to the end of the page
abbrev pub has_page : ℕ → List ℕ → Bool
has_page p ws = nat_le (64 * p + 64) (length ws)
