-- The code's tables as states of the rules: tables with the same parts, and blank ones.
use Rattle.std.proofs.Common.{◌≡◌, ℕ, ◌+◌, ◌<◌, true, eqb, if◌then◌else◌, List, [], ◌∷◌, length, get_or, set, replicate, Option, arith}
use Rattle.std.proofs.lemmas.Bool.Decides.{nat_tests}
use Rattle.basics.proofs.Tables.{filled, put_set}
use Rattle.model.specs.declared.Holder.{Holder}
use Rattle.model.specs.declared.Waiter.{Waiter}
use Rattle.model.specs.declared.Message.TheVariants.{DiffApplied}
use Rattle.model.specs.Home.{HomeState, applies, patched}
use Rattle.model.specs.Replies.{done}
use Rattle.pages.specs.Memory.{memory, has_page}
use Rattle.model.specs.Locks.{LockTable}

one_value : {A : Type 0} {d : A} {xs : List A} (n : ℕ) → xs ≡ replicate n d → ◌≡◌ {A = ℕ → A} (λ j. get_or xs j d) (λ j. d)
one_value n e = rw e (filled _ n)

-- lock tables with the same parts
pub same_table : {r r' : ℕ → ℕ} {h h' : ℕ → Option Holder} {w w' : List Waiter} → r ≡ r' → h ≡ h' → w ≡ w' → ◌≡◌ {A = LockTable} (record { requested = r; holder = h; waiting = w }) (record { requested = r'; holder = h'; waiting = w' })
same_table e f g = rw (e, f, g)

-- a state of blank tables
pub blank :
    {w a : List ℕ} {l l' : LockTable} → w ≡ replicate 65536 0 → a ≡ replicate 16 0 → l ≡ l' →
    ◌≡◌ {A = HomeState} (record { words = λ j. get_or w j 0; applied = λ j. get_or a j 0; locks = l }) (record { words = λ j. 0; applied = λ j. 0; locks = l' })
blank e f g = rw (one_value 65536 e, one_value 16 f, g)

-- the next diff of its station, put in
pub put_in :
    (words ws applied : List ℕ) (l : LockTable) (s n p : ℕ) (changes : List (Option ℕ)) → n ≡ get_or applied s 0 + 1 → s < length applied → length words ≡ 65536 → p < 1024 →
    memory ws ≡ (if has_page p words then patched p changes (memory words) else memory words) →
    done (DiffApplied s n ∷ []) (record { words = λ w. get_or ws w 0; applied = λ i. get_or (set applied s n) i 0; locks = l }) ≡
    applies (record { words = λ w. get_or words w 0; applied = λ i. get_or applied i 0; locks = l }) s n p changes
put_in words ws applied l s n p changes e h long small m =
    let next : eqb n (get_or applied s 0 + 1) ≡ true = grind (arith, nat_tests) in
    let there : has_page p words ≡ true = grind (arith, nat_tests) in
    let patch = rw there at m in
    rw (next, patch, put_set 0 n applied s h)
