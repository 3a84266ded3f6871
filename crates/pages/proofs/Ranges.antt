-- What two functions say of two stretches of numbers.
use Rattle.std.proofs.Common.{◌≡◌, ℕ, ◌+◌, ◌<◌, map, refl, sym, ◌∙◌, arith}
use Rattle.std.specs.List.{range_with_len}
use Rattle.std.proofs.lemmas.List.{same_lists}
use Rattle.std.proofs.lemmas.List.FromFn.{length-map-range_with_len, get_or-map-range_with_len}

pub same_ranges : {X : Type 0} (f g : ℕ → X) (a b n : ℕ) → ((k : ℕ) → k < n → f (a + k) ≡ g (b + k)) → map f (range_with_len a n) ≡ map g (range_with_len b n)
same_ranges f g a b n h =
    same_lists _ _ (length-map-range_with_len f a n ∙ sym (length-map-range_with_len g b n))
    (λ k d i.
    let below : k < n = omega (arith, length-map-range_with_len f a n) in
    get_or-map-range_with_len f a n k (a + k) d below refl ∙ h k below ∙ sym (get_or-map-range_with_len g b n k (b + k) d below refl))
