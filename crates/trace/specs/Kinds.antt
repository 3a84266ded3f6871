-- Kinds of events by their numbers, and the words and locks that are there. Assumes nothing.
use Rattle.std.specs.Prelude.{ℕ, cond, ◌&&◌, Ok, Err, Result, ◌==◌}
use Rattle.basics.specs.declared.Refusal.{Refusal}
use Rattle.basics.specs.declared.Refusal.TheVariants.{Malformed}
use Rattle.basics.specs.Sizes.{is_word, is_lock}
use Rattle.trace.specs.declared.bytes.Kind.{Kind}
use Rattle.trace.specs.declared.bytes.Kind.TheVariants.{Read, Write, Acquire, Release}

abbrev pub number_of : Kind → ℕ
number_of Read = 1
number_of Write = 2
number_of Acquire = 3
number_of Release = 4

abbrev pub kind_of : ℕ → Result Kind Refusal
kind_of n =
    cond (n == 1) (Ok Read)
    (cond (n == 2) (Ok Write)
    (cond (n == 3) (Ok Acquire)
    (cond (n == 4) (Ok Release)
    (Err Malformed))))

-- the word, or the lock, that an event is on; a lock has no value
abbrev pub word_of : ℕ → Result ℕ Refusal
word_of x = cond (is_word x) (Ok x) (Err Malformed)

abbrev pub lock_of : (on value : ℕ) → Result ℕ Refusal
lock_of x v = cond (is_lock x && v == 0) (Ok x) (Err Malformed)
