-- What is written element by element: what is out so far, with the bytes of the rest, is the whole.
use Rattle.std.proofs.Common.{◌≡◌, ℕ, suc, ◌+◌, ◌<◌, ◌≤◌, List, [], ◌∷◌, ◌++◌, length, get_or, drop, is_some, filter, Some, None, Option, sym, refl, ap, ◌∙◌, append_assoc, add-one}
use Rattle.std.proofs.lemmas.List.{append-nil, drop_more, drop_all}
use Rattle.basics.specs.Numbers.{u32_bytes}
use Rattle.model.specs.Bytes.{word_bytes, change_count, change_bytes}

-- the next piece moves from the rest to what is out
pub moved : {A : Type 0} (out piece rest more all : List A) → more ≡ piece ++ rest → out ++ more ≡ all → (out ++ piece) ++ rest ≡ all
moved out piece rest more all e h = append_assoc out piece rest ∙ ap (λ l. out ++ l) (sym e) ∙ h

ended : (out rest all : List ℕ) → rest ≡ [] → out ++ rest ≡ all → out ≡ all
ended out rest all e h = sym (append-nil out) ∙ ap (λ l. out ++ l) (sym e) ∙ h

module _ (ws : List ℕ) (i : ℕ) (out all : List ℕ) (inv : out ++ word_bytes (drop i ws) ≡ all) where
  word_next : i < length ws → word_bytes (drop i ws) ≡ u32_bytes (get_or ws i 0) ++ word_bytes (drop (i + 1) ws)
  unfolding word_bytes
  word_next h = ap word_bytes (drop_more ws i 0 h)

  pub words_more : (out' piece : List ℕ) → i < length ws → piece ≡ u32_bytes (get_or ws i 0) → out' ≡ out ++ piece → out' ++ word_bytes (drop (i + 1) ws) ≡ all
  words_more out' piece h e f = rw (f, e) (moved _ _ _ _ _ (word_next h) inv)

  pub words_all : length ws ≤ i → out ≡ all
  unfolding word_bytes
  words_all h = ended _ _ _ (ap word_bytes (drop_all i ws h)) inv

-- what a place's change adds to the bytes
abbrev pub piece_of : ℕ → Option ℕ → List ℕ
piece_of place None = []
piece_of place (Some v) = place ∷ u32_bytes v

none_piece : (place : ℕ) (c : Option ℕ) → ((v : ℕ) → c ≡ Some v → ⊥) → piece_of place c ≡ []
none_piece place None n = refl
none_piece place (Some v) n = absurd (n v refl)

-- the changes that are there, counted
pub counted : (cs : List (Option ℕ)) → length (filter is_some cs) ≡ change_count cs
unfolding change_count
counted [] = refl
counted (None ∷ cs) = counted cs
counted (Some v ∷ cs) = ap suc (counted cs)

bytes_first : (place : ℕ) (c : Option ℕ) (cs : List (Option ℕ)) → change_bytes place (c ∷ cs) ≡ piece_of place c ++ change_bytes (place + 1) cs
unfolding change_bytes
bytes_first place None cs = rw (add-one place)
bytes_first place (Some v) cs = rw (add-one place)

module _ (cs : List (Option ℕ)) (i : ℕ) (out all : List ℕ) (inv : out ++ change_bytes i (drop i cs) ≡ all) where
  changes_more : (out' : List ℕ) → i < length cs → out' ≡ out ++ piece_of i (get_or cs i None) → out' ++ change_bytes (i + 1) (drop (i + 1) cs) ≡ all
  changes_more out' h e = rw e (moved _ _ _ _ _ (ap (change_bytes i) (drop_more cs i None h) ∙ bytes_first i _ _) inv)

  pub changes_all : length cs ≤ i → out ≡ all
  unfolding change_bytes
  changes_all h = ended _ _ _ (ap (change_bytes i) (drop_all i cs h)) inv

  -- the two ways through a turn
  pub some_more : (out' piece : List ℕ) (v : ℕ) → i < length cs → get_or cs i None ≡ Some v → piece ≡ i ∷ u32_bytes v → out' ≡ out ++ piece → out' ++ change_bytes (i + 1) (drop (i + 1) cs) ≡ all
  some_more out' piece v h e p q = changes_more out' h (q ∙ ap (λ l. out ++ l) (p ∙ ap (piece_of i) (sym e)))

  pub none_more : (out' : List ℕ) → i < length cs → ((v : ℕ) → get_or cs i None ≡ Some v → ⊥) → out' ≡ out → out' ++ change_bytes (i + 1) (drop (i + 1) cs) ≡ all
  none_more out' h n e = changes_more out' h (e ∙ sym (append-nil out) ∙ ap (λ l. out ++ l) (sym (none_piece i (get_or cs i None) n)))
