-- The pages that a station has, with copy and twin of each. Assumes nothing.
use Rattle.std.specs.Prelude.{ℕ, ◌*◌, Bool, true, false, cond, ◌&&◌, ◌||◌, List, [], ◌∷◌, ◌++◌, map, Some, None, Option, ◌==◌, slice_index}
use Rattle.std.specs.List.{range_with_len}
use Rattle.basics.specs.Sizes.{page_of, place_of, put}
use Rattle.model.specs.Bytes.{change_count}

-- present: the pages, in the order in which they came; copy, twin: of each word, and 0 where its page is absent
pub record Cache : Type 0 where
  pub present : List ℕ
  pub copy : ℕ → ℕ
  pub twin : ℕ → ℕ

abbrev pub empty : Cache
empty = record { present = []; copy = λ w. 0; twin = λ w. 0 }

abbrev pub is_in : ℕ → List ℕ → Bool
is_in p [] = false
is_in p (q ∷ qs) = q == p || is_in p qs

-- a word written
abbrev pub wrote : ℕ → ℕ → Cache → Cache
wrote w v c = record { present = c.present; copy = put w v c.copy; twin = c.twin }

-- the words of one page from one memory, all others from another
abbrev pub on_page : ℕ → (ℕ → ℕ) → (ℕ → ℕ) → ℕ → ℕ
on_page p new old w = cond (page_of w == p) (new w) (old w)

-- the words of a page as a memory, each at its place
abbrev pub placed : List ℕ → ℕ → ℕ
placed ws w = slice_index ws (place_of w)

-- A page that came: copy and twin become it.
abbrev pub installed : ℕ → List ℕ → Cache → Cache
installed p ws c =
    record { present = c.present ++ (p ∷ []); copy = on_page p (placed ws) c.copy; twin = on_page p (placed ws) c.twin }

-- A page that was told to the home: its twin becomes its copy.
abbrev pub flushed_at : ℕ → Cache → Cache
flushed_at p c = record { present = c.present; copy = c.copy; twin = on_page p c.copy c.twin }

-- the new value of a word whose copy is not its twin
abbrev pub change : (ℕ → ℕ) → (ℕ → ℕ) → ℕ → Option ℕ
change copy twin w = cond (copy w == twin w) None (Some (copy w))

-- THE DIFF of a page: of each of its words.
unfoldable pub changes_at : ℕ → (ℕ → ℕ) → (ℕ → ℕ) → List (Option ℕ)
changes_at p copy twin = map (change copy twin) (range_with_len (64 * p) 64)

-- in how many words of a page copy and twin differ
abbrev pub differing : ℕ → (ℕ → ℕ) → (ℕ → ℕ) → ℕ
differing p copy twin = change_count (changes_at p copy twin)

-- in every one of these pages copy and twin are the same
abbrev pub are_clean : List ℕ → (ℕ → ℕ) → (ℕ → ℕ) → Bool
are_clean [] copy twin = true
are_clean (p ∷ ps) copy twin = differing p copy twin == 0 && are_clean ps copy twin

abbrev pub is_clean : Cache → Bool
is_clean c = are_clean c.present c.copy c.twin
