-- The code's tables as the state of the rules. Assumes nothing.
use Rattle.std.specs.Prelude.{None, vec_items, slice_index, slice_index_or}
use Rattle.model.specs.Home.{HomeState}
use Rattle.model.specs.Locks.{LockTable}
use Rattle.home_node.specs.declared.locks.Locks.{Locks}
use Rattle.home_node.specs.declared.node.state.State.{State}

abbrev pub table_of : Locks → LockTable
table_of t =
    record { requested = λ s. slice_index t.requested s; holder = λ l. slice_index_or t.holders l None; waiting = vec_items t.waiting }

abbrev pub state_of : State → HomeState
state_of s =
    record { words = λ w. slice_index (vec_items s.words) w; applied = λ i. slice_index s.applied i; locks = table_of s.locks }
