-- Those who wait for one lock, in their order: the first of them is whom the lock goes to, and the others stay as they are. Assumes nothing.
use Rattle.std.proofs.Common.{◌≡◌, ℕ, List, [], ◌∷◌, Some, None, refl, arith}
use Rattle.std.proofs.lemmas.Bool.Decides.{nat_tests}
use Rattle.std.specs.List.{flat_map}
use Rattle.model.specs.declared.Holder.{Holder}
use Rattle.model.specs.declared.Waiter.{Waiter}
use Rattle.model.specs.Locks.{first_for, without_first}
use Rattle.promise.specs.History.{on_lock}

abbrev pub waiting_for : ℕ → List Waiter → List Holder
waiting_for l ws = flat_map (λ w. on_lock l w.lock w.station w.number) ws

pub first_none : (l : ℕ) (ws : List Waiter) → first_for l ws ≡ None → waiting_for l ws ≡ []
first_none l [] e = refl
first_none l (w ∷ ws) e = let f = first_none l ws in grind (arith, nat_tests)

pub first_some :
    (l : ℕ) (ws : List Waiter) (w : Waiter) → first_for l ws ≡ Some w →
    waiting_for l ws ≡ record { station = w.station; number = w.number } ∷ waiting_for l (without_first l ws)
first_some l [] w e = cc
first_some l (v ∷ ws) w e = let f = first_some l ws w in grind (arith, nat_tests)

pub without_other : (k l : ℕ) (ws : List Waiter) → (k ≡ l → ⊥) → waiting_for l (without_first k ws) ≡ waiting_for l ws
without_other k l [] d = refl
without_other k l (w ∷ ws) d = let f = without_other k l ws d in grind (arith, nat_tests)
