-- The home's locks: held by one at a time, and given in turn. Assumes nothing.
use Rattle.std.specs.Prelude.{ℕ, ◌+◌, Bool, false, cond, not, ◌&&◌, List, [], ◌∷◌, ◌++◌, is_some, Some, None, Option, ◌==◌, nat_le}
use Rattle.model.specs.declared.Holder.{Holder}
use Rattle.model.specs.declared.Waiter.{Waiter}
use Rattle.model.specs.declared.Message.TheVariants.{LockGranted, ReleaseTaken}
use Rattle.basics.specs.declared.Refusal.TheVariants.{StaleNumber}
use Rattle.model.specs.Replies.{Reply, done, refused}
use Rattle.basics.specs.Sizes.{put}

-- requested: of each station, the number of its last lock request; holder: of each lock; waiting: all that wait, first come first
pub record LockTable : Type 0 where
  pub requested : ℕ → ℕ
  pub holder : ℕ → Option Holder
  pub waiting : List Waiter

abbrev pub unlocked : LockTable
unlocked = record { requested = λ s. 0; holder = λ l. None; waiting = [] }

abbrev pub is_held_by : ℕ → ℕ → Option Holder → Bool
is_held_by s n None = false
is_held_by s n (Some h) = h.station == s && h.number == n

-- the number with which a station waits, if it does; it waits at most once
abbrev pub waits_with : ℕ → List Waiter → Option ℕ
waits_with s [] = None
waits_with s (w ∷ ws) = cond (w.station == s) (Some w.number) (waits_with s ws)

abbrev pub is_number : ℕ → Option ℕ → Bool
is_number n None = false
is_number n (Some m) = m == n

abbrev pub still_waits : ℕ → ℕ → List Waiter → Bool
still_waits s n ws = is_number n (waits_with s ws)

-- the first that waits for a lock, and those who wait without it
abbrev pub first_for : ℕ → List Waiter → Option Waiter
first_for l [] = None
first_for l (w ∷ ws) = cond (w.lock == l) (Some w) (first_for l ws)

abbrev pub without_first : ℕ → List Waiter → List Waiter
without_first l [] = []
without_first l (w ∷ ws) = cond (w.lock == l) ws (w ∷ without_first l ws)

-- A new request is granted if nobody holds the lock; else it waits behind the others.
abbrev pub admitted : LockTable → (s l n : ℕ) → Option Holder → Reply LockTable
admitted t s l n None =
    done (LockGranted s l n ∷ [])
    (record { requested = put s n t.requested; holder = put l (Some (record { station = s; number = n })) t.holder; waiting = t.waiting })
admitted t s l n (Some h) =
    done []
    (record { requested = put s n t.requested; holder = t.holder; waiting = t.waiting ++ (record { station = s; lock = l; number = n } ∷ []) })

-- A request is new if its number is the next one and its station does not wait. An earlier one is answered as it was: not at all while it waits, else granted again.
abbrev pub requests : LockTable → (s l n : ℕ) → Reply LockTable
requests t s l n =
    cond (n == t.requested s + 1 && not (is_some (waits_with s t.waiting))) (admitted t s l n (t.holder l))
    (cond (nat_le n (t.requested s) && not (still_waits s n t.waiting)) (refused StaleNumber (LockGranted s l n ∷ []) t)
    (refused StaleNumber [] t))

-- The lock that a station gives back goes to the first that waits for it.
abbrev pub passed_on : LockTable → (s l n : ℕ) → Option Waiter → Reply LockTable
passed_on t s l n None =
    done (ReleaseTaken s l n ∷ []) (record { requested = t.requested; holder = put l None t.holder; waiting = t.waiting })
passed_on t s l n (Some w) =
    done (ReleaseTaken s l n ∷ LockGranted w.station l w.number ∷ [])
    (record { requested = t.requested; holder = put l (Some (record { station = w.station; number = w.number })) t.holder; waiting = without_first l t.waiting })

-- It is taken from the holder with that number only. Any other whose number is not above the station's last, and that does not wait, counts as given back before: it is answered again.
abbrev pub releases : LockTable → (s l n : ℕ) → Reply LockTable
releases t s l n =
    cond (is_held_by s n (t.holder l)) (passed_on t s l n (first_for l t.waiting))
    (cond (nat_le n (t.requested s) && not (still_waits s n t.waiting)) (refused StaleNumber (ReleaseTaken s l n ∷ []) t)
    (refused StaleNumber [] t))
