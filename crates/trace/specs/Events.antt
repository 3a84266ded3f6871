-- What an event is to the rules. Kinds of events are told apart here, in their bytes and in what is printed of them, and nowhere else. Assumes nothing.
use Rattle.std.specs.Prelude.{ℕ, Bool, false, ◌&&◌, ◌||◌, Some, None, Option, ◌==◌}
use Rattle.basics.specs.Sizes.{is_station, is_word, is_lock}
use Rattle.trace.specs.declared.Event.{Event}
use Rattle.trace.specs.declared.Event.TheVariants.{Read, Write, Acquire, Release}

-- the station whose event it is
abbrev pub by : Event → ℕ
by (Read s w v) = s
by (Write s w v) = s
by (Acquire s l) = s
by (Release s l) = s

-- the word that it reads, the word that it writes
abbrev pub reads : Event → Option ℕ
reads (Read s w v) = Some w
reads (Write s w v) = None
reads (Acquire s l) = None
reads (Release s l) = None

abbrev pub writes : Event → Option ℕ
writes (Read s w v) = None
writes (Write s w v) = Some w
writes (Acquire s l) = None
writes (Release s l) = None

-- the value that was read or written
abbrev pub value_of : Event → ℕ
value_of (Read s w v) = v
value_of (Write s w v) = v
value_of (Acquire s l) = 0
value_of (Release s l) = 0

-- the lock that it acquires, the lock that it releases
abbrev pub acquires : Event → Option ℕ
acquires (Read s w v) = None
acquires (Write s w v) = None
acquires (Acquire s l) = Some l
acquires (Release s l) = None

abbrev pub releases : Event → Option ℕ
releases (Read s w v) = None
releases (Write s w v) = None
releases (Acquire s l) = None
releases (Release s l) = Some l

-- what it names is there
abbrev pub is_known : Event → Bool
is_known (Read s w v) = is_station s && is_word w
is_known (Write s w v) = is_station s && is_word w
is_known (Acquire s l) = is_station s && is_lock l
is_known (Release s l) = is_station s && is_lock l

-- whether a word or lock is this one
abbrev pub is : ℕ → Option ℕ → Bool
is x None = false
is x (Some y) = y == x

-- it reads the word or writes it
abbrev pub touches : ℕ → Event → Bool
touches w e = is w (reads e) || is w (writes e)
