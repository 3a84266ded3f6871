-- The pages that a station has: one more that was absent keeps each of them once. Assumes nothing.
use Rattle.std.proofs.Common.{◌≡◌, ℕ, false, ◌||◌, T, eqb, List, [], ◌∷◌, ◌++◌, arith}
use Rattle.std.proofs.lemmas.Bool.Decides.{nat_tests}
use Rattle.model.specs.Cache.{is_in}
use Rattle.promise.specs.Station.{once}

-- a page behind them is one of them
pub in_push : (p q : ℕ) (ps : List ℕ) → is_in p (ps ++ q ∷ []) ≡ is_in p ps || eqb q p
in_push p q [] = grind (arith, nat_tests)
in_push p q (x ∷ ps) = let e = in_push p q ps in grind (arith, nat_tests)

pub once_push : (ps : List ℕ) (q : ℕ) → T (once ps) → is_in q ps ≡ false → T (once (ps ++ q ∷ []))
once_push [] q h absent = tt
once_push (p ∷ ps) q h absent =
    let e = in_push p q ps in
    let r : is_in q ps ≡ false = grind (arith, nat_tests) in
    let o : T (once ps) = grind (arith, nat_tests) in
    let k = once_push ps q o r in
    grind (arith, nat_tests)
