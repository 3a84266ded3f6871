-- The line of those who wait stays one in which each station stands once.
use Rattle.std.proofs.Common.{◌≡◌, ℕ, ◌<◌, T, List, [], ◌∷◌, ◌++◌, None}
use Rattle.model.specs.declared.Waiter.{Waiter}
use Rattle.model.specs.Locks.{waits_with, without_first}
use Rattle.promise.specs.Home.{apart}
use Rattle.promise.proofs.Queue.{apart_push, apart_without}

-- one that did not stand in it comes
pub once_more : (ws after : List Waiter) (w : Waiter) → after ≡ ws ++ (w ∷ []) → T (apart ws) → w.station < 16 → waits_with w.station ws ≡ None → T (apart after)
once_more ws after w e h s n = rw e (apart_push ws w h s n)

-- one goes
pub still_once : (l : ℕ) (ws after : List Waiter) → after ≡ without_first l ws → T (apart ws) → T (apart after)
still_once l ws after e h = rw e (apart_without ws l h)
