-- What the code keeps as the functions of the check. Assumes nothing.
use Rattle.std.specs.Prelude.{ℕ, List, [], replicate, slice_index, slice_index_or}
use Rattle.vectors.specs.declared.Access.{Access}
use Rattle.vectors.specs.declared.LastWrite.{LastWrite}
use Rattle.vectors.specs.Check.{Vector, never, unwritten}
use Rattle.race_check.specs.declared.history.WordHistory.{WordHistory}

abbrev pub vector_of : List ℕ → Vector
vector_of v j = slice_index v j

abbrev pub vectors_of : List (List ℕ) → ℕ → Vector
vectors_of vs i = vector_of (slice_index_or vs i [])

abbrev pub accesses_of : List Access → ℕ → Access
accesses_of rs j = slice_index_or rs j never

-- of a word that was neither read nor written
abbrev pub untouched : WordHistory
untouched = record { write = unwritten; reads = replicate 16 never }

abbrev pub word_of : List WordHistory → ℕ → WordHistory
word_of ws w = slice_index_or ws w untouched

abbrev pub writes_of : List WordHistory → ℕ → LastWrite
writes_of ws w = (word_of ws w).write

abbrev pub reads_of : List WordHistory → ℕ → ℕ → Access
reads_of ws w = accesses_of (word_of ws w).reads
