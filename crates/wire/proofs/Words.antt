-- Words read one behind the other.
use Rattle.std.proofs.Common.{◌≡◌, ℕ, zero, suc, ◌+◌, ◌<◌, List, [], ◌∷◌, length, get_or, take, drop, set, refl, ap, ◌∙◌, arith}
use Rattle.std.proofs.lemmas.List.Edits.{fill_by_more}
use Rattle.std.proofs.lemmas.List.{get_or-drop, get_or-take, length-set}
use Rattle.std.specs.Simd.{first_chunks}
use Rattle.basics.specs.Numbers.{u32_at}
use Rattle.model.specs.Bytes.{words_from}

-- a word of the first bytes
pub u32_take : (n i : ℕ) (bs : List ℕ) → i + 3 < n → u32_at (take n bs) i ≡ u32_at bs i
u32_take n i bs h =
    rw (get_or-take n bs i 0 (omega arith), get_or-take n bs (i + 1) 0 (omega arith), get_or-take n bs (i + 2) 0 (omega arith), get_or-take n bs (i + 3) 0 h)

-- a word behind some bytes that are left out
pub u32_drop : (a i : ℕ) (bs : List ℕ) → u32_at (drop a bs) i ≡ u32_at bs (a + i)
u32_drop a i bs =
    let one : a + (i + 1) ≡ a + i + 1 = omega arith in
    let two : a + (i + 2) ≡ a + i + 2 = omega arith in
    let three : a + (i + 3) ≡ a + i + 3 = omega arith in
    simp get_or-drop (rw (one, two, three))

-- the words of the chunks of four bytes
pub words_are : (n : ℕ) (bs ws : List ℕ) → length ws ≡ n → ((k : ℕ) → k < n → get_or ws k 0 ≡ u32_at (get_or (first_chunks 4 n bs) k []) 0) → ws ≡ words_from n bs
unfolding words_from
words_are zero bs [] e h = refl
words_are zero bs (w ∷ ws) e h = absurd (omega arith)
words_are (suc n) bs [] e h = absurd (omega arith)
words_are (suc n) bs (w ∷ ws) e h =
    let rest = words_are n (drop 4 bs) ws (omega arith) (λ k i. h (suc k) (omega arith)) in
    let first : w ≡ u32_at bs 0 = h 0 (omega arith) ∙ u32_take 4 0 bs (omega arith) in
    ap (λ x. x ∷ ws) first ∙ ap (λ l. u32_at bs 0 ∷ l) rest

-- one word more
pub words_more :
    (chunks : List (List ℕ)) (place : ℕ) (ws : List ℕ) (w : ℕ) → place < 64 → w ≡ u32_at (get_or chunks place []) 0 →
    (length ws ≡ 64) × ((k : ℕ) → k < place → get_or ws k 0 ≡ u32_at (get_or chunks k []) 0) →
    (length (set ws place w) ≡ 64) × ((k : ℕ) → k < place + 1 → get_or (set ws place w) k 0 ≡ u32_at (get_or chunks k []) 0)
words_more chunks place ws w h e inv =
    (length-set ws place w ∙ inv.0, rw e (fill_by_more (λ k. u32_at (get_or chunks k []) 0) ws place 0 (omega (arith, inv.0)) inv.1))
