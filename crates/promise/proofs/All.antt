-- All promises of a home, by induction over what came in. Assumes nothing.
use Rattle.std.proofs.Common.{◌≡◌, ℕ, ◌+◌, eqb, leb, List, [], ◌∷◌, ◌++◌, None, Ok, Err, Result, refl}
use Rattle.std.proofs.lemmas.List.{append-nil}
use Rattle.std.proofs.lemmas.Bool.{eqb-true}
use Rattle.model.specs.declared.Message.{Message}
use Rattle.model.specs.declared.Message.TheVariants.{PageRequest, Diff, DiffApplied, LockRequest, LockReleased}
use Rattle.basics.specs.declared.Refusal.{Refusal}
use Rattle.model.specs.Bytes.{parse}
use Rattle.model.specs.Home.{HomeState, fresh, hears, hears_read, receives, home_after, locked}
use Rattle.model.specs.Locks.{LockTable}
use Rattle.model.specs.Replies.{Reply}
use Rattle.promise.specs.History.{Exchange, exchange, exchange_at, exchanges, diff_number, put_in}
use Rattle.promise.specs.Home.{AllKept}
use Rattle.promise.specs.Ranges.{Known}
use Rattle.promise.proofs.Diffs.{Diffs, diffs_same, diffs_put}
use Rattle.promise.proofs.Locking.{Table, table_same, requests_keep, releases_keep}
use Rattle.promise.proofs.Queue.{apart_few}
use Rattle.promise.proofs.Ranges.{parse_known}
use Rattle.promise.proofs.IfRead.{IfRead}
use Rattle.promise.proofs.Steps.{Keeps, keeps_done, keeps_refused, keeps_cond}
use Rattle.promise.proofs.Turns.{turn_taken}

-- what holds at each time, of the exchanges so far and the home
pub record Sound (es : List Exchange) (h : HomeState) : Type 0 where
  pub diffs : Diffs es h.applied h.words
  pub table : Table es h.locks

-- a message that the locks answer and that is no diff
locked_keeps :
    (es : List Exchange) (h : HomeState) (m : Message) (r : Reply LockTable) → Sound es h → ((s : ℕ) → diff_number s m ≡ []) → ((ws : ℕ → ℕ) → put_in m ws ≡ ws) →
    Keeps Table es m r → Keeps Sound es m (locked h r)
locked_keeps es h m r k none same t = record { holds = record { diffs = diffs_same k.diffs m r.refusal r.sent none same; table = t.holds } }

hears_keeps : (es : List Exchange) (h : HomeState) (m : Message) → Known m → Sound es h → Keeps Sound es m (hears h m)
hears_keeps es h (PageRequest s p n) known k =
    let d = diffs_same k.diffs (PageRequest s p n) None _ (λ _. refl) (λ _. refl) in
    keeps_done _ _ (record { diffs = d; table = table_same _ _ (λ _. refl) (λ _. refl) (λ _. refl) k.table })
hears_keeps es h (Diff s n p cs) known k =
    let t = table_same (Diff s n p cs) (DiffApplied s n ∷ []) (λ _. refl) (λ _. refl) (λ _. refl) k.table in
    keeps_cond (eqb n (h.applied s + 1))
    (λ e. keeps_done _ _ (record { diffs = diffs_put k.diffs s n p cs _ (eqb-true n _ e); table = t }))
    (keeps_cond (leb n (h.applied s)) (λ _. keeps_refused _ _ _ k) (keeps_refused _ _ _ k))
hears_keeps es h (LockRequest s l n) known k =
    locked_keeps es h (LockRequest s l n) _ k (λ _. refl) (λ _. refl) (requests_keep es h.locks s l n k.table known.0)
hears_keeps es h (LockReleased s l n) known k =
    locked_keeps es h (LockReleased s l n) _ k (λ _. refl) (λ _. refl) (releases_keep es h.locks s l n k.table)
hears_keeps es h m known k = keeps_refused _ _ _ k

read_keeps :
    (es : List Exchange) (h : HomeState) (r : Result Message Refusal) → IfRead Known r → Sound es h →
    Sound (es ++ exchange (hears_read h r).refusal r (hears_read h r).sent) (hears_read h r).after
read_keeps es h (Ok m) known k = (hears_keeps es h m known.holds k).holds
read_keeps es h (Err why) known k = rw (append-nil es) k

-- ONE STEP: whatever bytes come in.
pub receives_keeps : (es : List Exchange) (h : HomeState) (bytes : List ℕ) → Sound es h → Sound (es ++ exchange_at h bytes) (receives h bytes).after
receives_keeps es h bytes k = read_keeps es h (parse bytes) (parse_known bytes) k

fresh_sound : Sound [] fresh
fresh_sound =
    record {
      diffs = record { numbers = λ s. refl; words = refl };
      table = record { turns = λ l. record { one = refl; line = refl; idle = λ _. refl }; once = tt };
    }

pub always_sound : (seen : List (List ℕ)) → Sound (exchanges seen) (home_after seen)
unfolding home_after exchanges
always_sound [] = fresh_sound
always_sound (bytes ∷ earlier) = receives_keeps _ _ bytes (always_sound earlier)

pub all_kept : AllKept
all_kept seen =
    let k = always_sound seen in
    record {
      diffs = record { numbers = k.diffs.numbers; words = k.diffs.words };
      locks = λ l. record { holder = (k.table.turns l).one; turn = turn_taken (k.table.turns l) };
      bounded = record { once = k.table.once; few = apart_few _ k.table.once };
    }
