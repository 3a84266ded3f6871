-- A list as a table, a function of the index: one entry written is one entry replaced, and a list of one value is a constant table.
use Rattle.std.proofs.Common.{◌≡◌, ℕ, ◌<◌, List, length, get_or, set, replicate, arith}
use mathlib.Core.Path.{fun_ext}
use Rattle.std.proofs.lemmas.List.{get_or-set_same, get_or-set_other, get_or-replicate, get_or_past, length-replicate}
use Rattle.std.proofs.lemmas.Bool.Decides.{nat_tests}
use Rattle.basics.specs.Sizes.{put}

put_at : {A : Type 0} (d x : A) (xs : List A) (i : ℕ) → i < length xs → (j : ℕ) → get_or (set xs i x) j d ≡ put i x (λ k. get_or xs k d) j
put_at d x xs i h j = grind (arith, nat_tests, get_or-set_same, get_or-set_other)

pub put_set : {A : Type 0} (d x : A) (xs : List A) (i : ℕ) → i < length xs → ◌≡◌ {A = ℕ → A} (λ j. get_or (set xs i x) j d) (put i x (λ j. get_or xs j d))
put_set d x xs i h = fun_ext (put_at d x xs i h)

pub fill_at : {A : Type 0} (d : A) (n j : ℕ) → get_or (replicate n d) j d ≡ d
fill_at d n j = grind (arith, get_or-replicate, get_or_past, length-replicate)

pub filled : {A : Type 0} (d : A) (n : ℕ) → ◌≡◌ {A = ℕ → A} (λ j. get_or (replicate n d) j d) (λ j. d)
filled d n = fun_ext (fill_at d n)
