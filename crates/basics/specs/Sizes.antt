-- How much there is of everything. Assumes nothing.
use Rattle.std.specs.Prelude.{ℕ, ◌/◌, ◌%◌, Bool, cond, ◌==◌, nat_lt}

-- 65,536 words in 1,024 pages of 64; stations 0 to 15, locks 0 to 63
abbrev pub is_word : ℕ → Bool
is_word w = nat_lt w 65536

abbrev pub is_page : ℕ → Bool
is_page p = nat_lt p 1024

abbrev pub is_station : ℕ → Bool
is_station s = nat_lt s 16

abbrev pub is_lock : ℕ → Bool
is_lock l = nat_lt l 64

-- the page that a word lies in, and its place there
abbrev pub page_of : ℕ → ℕ
page_of w = w / 64

abbrev pub place_of : ℕ → ℕ
place_of w = w % 64

-- a table with one entry replaced
abbrev pub put : {A : Type 0} → ℕ → A → (ℕ → A) → ℕ → A
put i x f j = cond (j == i) x (f j)
