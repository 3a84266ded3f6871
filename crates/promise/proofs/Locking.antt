-- The table of locks: every request and every release keeps each lock's turns, and keeps the stations in the queue apart. Assumes nothing.
use Rattle.std.proofs.Common.{◌≡◌, ℕ, ◌+◌, ◌<◌, true, not, ◌&&◌, T, eqb, leb, List, [], ◌∷◌, ◌++◌, is_some, Some, None, Option, refl, arith}
use Rattle.std.proofs.lemmas.List.{append-nil, append_assoc}
use Rattle.std.proofs.lemmas.List.Concat.{flat_map-append}
use Rattle.std.proofs.lemmas.Bool.{and_parts, eqb-true}
use Rattle.std.proofs.lemmas.Bool.Decides.{nat_tests}
use Rattle.std.specs.List.{flat_map}
use Rattle.model.specs.declared.Holder.{Holder}
use Rattle.model.specs.declared.Waiter.{Waiter}
use Rattle.model.specs.declared.Message.{Message}
use Rattle.model.specs.declared.Message.TheVariants.{LockRequest, LockReleased}
use Rattle.model.specs.Locks.{LockTable, is_held_by, waits_with, still_waits, first_for, admitted, requests, passed_on, releases}
use Rattle.promise.specs.History.{Exchange, requested, released, granted, request_of, release_of, grant_of}
use Rattle.promise.specs.Home.{apart}
use Rattle.promise.proofs.Queue.{apart_push, apart_without}
use Rattle.promise.proofs.Line.{waiting_for, first_none, first_some, without_other}
use Rattle.promise.proofs.Steps.{Keeps, keeps_done, keeps_refused, keeps_cond}
use Rattle.promise.proofs.Turns.{Turn}

-- one lock's turns, told from the exchanges so far and the table
abbrev pub Turns : ℕ → List Exchange → LockTable → Type 0
Turns l es t = Turn (requested l es) (released l es) (granted l es) (t.holder l) (waiting_for l t.waiting)

-- what holds of the table at each time
pub record Table (es : List Exchange) (t : LockTable) : Type 0 where
  pub turns : (l : ℕ) → Turns l es t
  pub once : T (apart t.waiting)

-- lists joined, and tests of numbers
ruleset joined = (arith, nat_tests, append-nil, append_assoc, flat_map-append)

-- a message that is about no lock, and for which none is granted
pub table_same :
    {es : List Exchange} {t : LockTable} (m : Message) (ms : List Message) →
    ((l : ℕ) → request_of l m ≡ []) → ((l : ℕ) → release_of l m ≡ []) → ((l : ℕ) → flat_map (grant_of l) ms ≡ []) →
    Table es t → Table (es ++ (record { message = m; sent = ms } ∷ [])) t
table_same {es} {t} m ms asks gives grants h = record { turns = λ l. let t = h.turns l in grind (joined, asks l, gives l, grants l); once = h.once }

held_by : (s n : ℕ) (o : Option Holder) → is_held_by s n o ≡ true → o ≡ Some (record { station = s; number = n })
held_by s n None e = cc
held_by s n (Some h) e =
    let p = and_parts (eqb h.station s) (eqb h.number n) e in
    rw (← (eqb-true h.station s p.0), ← (eqb-true h.number n p.1))

module _ (es : List Exchange) (t : LockTable) (s k n : ℕ) (h : Table es t) where
  admitted_keeps : (o : Option Holder) → t.holder k ≡ o → s < 16 → waits_with s t.waiting ≡ None → Keeps Table es (LockRequest s k n) (admitted t s k n o)
  admitted_keeps None free small none = keeps_done _ _ (record { turns = λ l. let t = h.turns l in grind joined; once = h.once })
  admitted_keeps (Some y) held small none =
      let w : Waiter = record { station = s; lock = k; number = n } in
      keeps_done _ _ (record { turns = λ l. let t = h.turns l in grind joined; once = apart_push t.waiting w h.once small none })

  pub requests_keep : s < 16 → Keeps Table es (LockRequest s k n) (requests t s k n)
  requests_keep small =
      keeps_cond (eqb n (t.requested s + 1) && not (is_some (waits_with s t.waiting)))
      (λ e. admitted_keeps (t.holder k) refl small (grind (arith, nat_tests)))
      (keeps_cond (leb n (t.requested s) && not (still_waits s n t.waiting)) (λ e. keeps_refused _ _ _ h) (keeps_refused _ _ _ h))

  passed_keeps : (o : Option Waiter) → first_for k t.waiting ≡ o → t.holder k ≡ Some (record { station = s; number = n }) → Keeps Table es (LockReleased s k n) (passed_on t s k n o)
  passed_keeps None first held = keeps_done _ _ (record { turns = λ l. let t = h.turns l in grind (joined, first_none); once = h.once })
  passed_keeps (Some w) first held =
      keeps_done _ _
      (record { turns = λ l. let t = h.turns l in grind (joined, first_some, without_other); once = apart_without t.waiting k h.once })

  pub releases_keep : Keeps Table es (LockReleased s k n) (releases t s k n)
  releases_keep =
      keeps_cond (is_held_by s n (t.holder k))
      (λ e. passed_keeps (first_for k t.waiting) refl (held_by s n (t.holder k) e))
      (keeps_cond (leb n (t.requested s) && not (still_waits s n t.waiting)) (λ e. keeps_refused _ _ _ h) (keeps_refused _ _ _ h))
