-- Tables filled with zeros are the empty tables. Assumes nothing.
use Rattle.std.proofs.Common.{◌≡◌, ℕ, zero, suc, List, [], get_or, replicate, None, refl, ap, ◌∙◌}
use mathlib.Core.Path.{fun_ext}
use Rattle.basics.proofs.Tables.{fill_at, filled}
use Rattle.vectors.specs.Check.{never, empty}
use Rattle.race_check.specs.declared.clocks.VectorClocks.{VectorClocks}
use Rattle.race_check.specs.declared.history.WordHistory.{WordHistory}
use Rattle.race_check.specs.Rows.{accesses_of, reads_of, writes_of, word_of, untouched}
use Rattle.race_check.specs.States.{clocks_of, tables_of, Led}

-- an entry of n rows of m entries each, all of them d
row_filled : {A : Type 0} (d : A) (m n i j : ℕ) → get_or (get_or (replicate n (replicate m d)) i []) j d ≡ d
row_filled d m zero i j = refl
row_filled d m (suc n) zero j = fill_at d m j
row_filled d m (suc n) (suc i) j = row_filled d m n i j

-- all of their entries
pub rows_filled : {A : Type 0} (d : A) (m n : ℕ) → ◌≡◌ {A = ℕ → ℕ → A} (λ i j. get_or (get_or (replicate n (replicate m d)) i []) j d) (λ i j. d)
rows_filled d m n = fun_ext (λ i. fun_ext (λ j. row_filled d m n i j))

pub clocks_start : clocks_of (record { stations = replicate 16 (replicate 16 0); locks = replicate 64 (replicate 16 0) }) ≡ empty.clocks
clocks_start = rw (rows_filled {A = ℕ} 0 16 16, rows_filled {A = ℕ} 0 16 64) refl

-- every word has the history h, which is that of a word that was not touched
pub started :
    (ws : List WordHistory) (h : WordHistory) (c : VectorClocks) → ws ≡ replicate 65536 h → h ≡ untouched → clocks_of c ≡ empty.clocks →
    Led (tables_of 0 (record { race = None; stale = None }) c ws) []
started ws h c all is e =
    let words : ◌≡◌ {A = ℕ → WordHistory} (word_of ws) (λ w. untouched) = ap word_of all ∙ ap (λ k w. get_or (replicate 65536 k) w untouched) is ∙ filled untouched 65536 in
    let writes : writes_of ws ≡ empty.write = ap (λ t w. (t w).write) words in
    let reads : reads_of ws ≡ empty.read = ap (λ t w. accesses_of (t w).reads) words ∙ ap (λ t w j. t j) (filled never 16) in
    record { known = tt; leads = rw (e, writes, reads) refl }
