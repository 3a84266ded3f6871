-- Pages in slots of 64 words: the page that came first has slot 0, and so on. Assumes nothing.
use Rattle.std.specs.Prelude.{ℕ, suc, ◌+◌, ◌*◌, cond, List, [], ◌∷◌, Some, None, Option, ◌==◌}
use Rattle.basics.specs.Sizes.{page_of, place_of}
use Rattle.model.specs.Cache.{Cache, differing}
use Rattle.pages.specs.Memory.{memory}

-- where a page stands in the list of pages, whose first has the number k
abbrev pub slot_from : ℕ → ℕ → List ℕ → Option ℕ
slot_from k p [] = None
slot_from k p (q ∷ qs) = cond (q == p) (Some k) (slot_from (suc k) p qs)

abbrev pub slot_of : ℕ → List ℕ → Option ℕ
slot_of p pages = slot_from 0 p pages

-- a word of a slot; 0 where there is none
abbrev pub in_slot : Option ℕ → (ℕ → ℕ) → ℕ → ℕ
in_slot None words place = 0
in_slot (Some k) words place = words (64 * k + place)

-- what the slots hold, as a memory
abbrev pub seen : List ℕ → List ℕ → ℕ → ℕ
seen pages words w = in_slot (slot_of (page_of w) pages) (memory words) (place_of w)

-- a word counts for one if its copy is not its twin
abbrev pub differs : ℕ → ℕ → ℕ
differs v t = cond (v == t) 0 1

-- in how many words of all pages copy and twin differ
abbrev pub dirty_words : List ℕ → (ℕ → ℕ) → (ℕ → ℕ) → ℕ
dirty_words [] copy twin = 0
dirty_words (p ∷ ps) copy twin = differing p copy twin + dirty_words ps copy twin

-- the tables as the cache of the rules
abbrev pub cached : (pages copies twins : List ℕ) → Cache
cached pages copies twins = record { present = pages; copy = seen pages copies; twin = seen pages twins }
