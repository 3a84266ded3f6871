-- A place in the line of those who wait. Assumes nothing.
use Rattle.std.specs.Prelude.{◌≡◌, ℕ, ◌<◌, List, length, Some, None, Option, slice_index_or}
use Rattle.std.specs.List.{remove}
use Rattle.model.specs.declared.Waiter.{Waiter}
use Rattle.model.specs.Locks.{first_for, without_first}

-- the first that waits for the lock stands at this place, or nobody waits for it
abbrev pub Found : ℕ → List Waiter → Option ℕ → Type 0
Found l ws None = (first_for l ws ≡ None) × (without_first l ws ≡ ws)
Found l ws (Some i) = (i < length ws) × ((d : Waiter) → first_for l ws ≡ Some (slice_index_or ws i d)) × (without_first l ws ≡ remove ws i)
