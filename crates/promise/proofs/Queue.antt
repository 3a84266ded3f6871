-- The queue of those who wait: each of the sixteen stations stands in it at most once, so at most sixteen wait,
-- and there is room for a station that does not wait yet. Assumes nothing.
use Rattle.std.proofs.Common.{◌≡◌, ℕ, zero, suc, ◌+◌, ◌<◌, ◌≤◌, false, cond, T, eqb, ltb, List, [], ◌∷◌, ◌++◌, length, is_some, None, refl, arith}
use Rattle.std.proofs.lemmas.Bool.Decides.{nat_tests}
use Rattle.model.specs.declared.Waiter.{Waiter}
use Rattle.model.specs.Locks.{waits_with, without_first}
use Rattle.promise.specs.Home.{apart}

-- how many of the first n stations wait
waiting_below : ℕ → List Waiter → ℕ
waiting_below zero ws = 0
waiting_below (suc n) ws = waiting_below n ws + cond (is_some (waits_with n ws)) 1 0

below_le : (n : ℕ) (ws : List Waiter) → waiting_below n ws ≤ n
unfolding waiting_below
below_le zero ws = omega arith
below_le (suc n) ws = let e = below_le n ws in grind (arith, nat_tests)

below_more :
    (n : ℕ) (w : Waiter) (ws : List Waiter) → waits_with w.station ws ≡ None →
    waiting_below n ws + cond (ltb w.station n) 1 0 ≤ waiting_below n (w ∷ ws)
unfolding waiting_below
below_more zero w ws none = grind (arith, nat_tests)
below_more (suc n) w ws none = let e = below_more n w ws none in grind (arith, nat_tests)

pub apart_cons : (w : Waiter) (ws : List Waiter) → T (apart ws) → w.station < 16 → waits_with w.station ws ≡ None → T (apart (w ∷ ws))
apart_cons w ws h small none = grind (arith, nat_tests)

apart_below : (ws : List Waiter) → T (apart ws) → length ws ≤ waiting_below 16 ws
apart_below [] h = omega arith
apart_below (w ∷ ws) h = let e = apart_below ws in let m = below_more 16 w ws in grind (arith, nat_tests)

-- at most sixteen wait
pub apart_few : (ws : List Waiter) → T (apart ws) → length ws ≤ 16
apart_few ws h = omega (arith, apart_below ws h, below_le 16 ws)

-- there is room for a station that does not wait
pub apart_room : (ws : List Waiter) (s : ℕ) → T (apart ws) → s < 16 → waits_with s ws ≡ None → length ws < 16
apart_room ws s h small none =
    let w : Waiter = record { station = s; lock = 0; number = 0 } in
    omega (arith, apart_few (w ∷ ws) (apart_cons w ws h small none))

-- one more that waits changes nothing for another station
waits_push : (ws : List Waiter) (w : Waiter) (s : ℕ) → eqb w.station s ≡ false → waits_with s (ws ++ (w ∷ [])) ≡ waits_with s ws
waits_push [] w s e = rw e
waits_push (v ∷ ws) w s e = let h = waits_push ws w s e in cc

-- it may wait behind the others
pub apart_push : (ws : List Waiter) (w : Waiter) → T (apart ws) → w.station < 16 → waits_with w.station ws ≡ None → T (apart (ws ++ (w ∷ [])))
apart_push [] w h small none = apart_cons w [] tt small refl
apart_push (v ∷ ws) w h small none =
    let others = waits_push ws w v.station in let rest = apart_push ws w in grind (arith, nat_tests)

-- who does not wait does not wait once another has left
waits_without : (ws : List Waiter) (l s : ℕ) → waits_with s ws ≡ None → waits_with s (without_first l ws) ≡ None
waits_without [] l s none = refl
waits_without (w ∷ ws) l s none = let f = waits_without ws l s in grind (arith, nat_tests)

-- the first for a lock may leave
pub apart_without : (ws : List Waiter) (l : ℕ) → T (apart ws) → T (apart (without_first l ws))
apart_without [] l h = tt
apart_without (w ∷ ws) l h =
    let others = waits_without ws l w.station in let rest = apart_without ws l in grind (arith, nat_tests)
