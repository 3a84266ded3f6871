-- The changes of a diff are read back from their bytes, and changes that were read with nothing left over are written as the bytes
-- they were read of. Assumes nothing.
use Rattle.std.proofs.Common.{◌≡◌, ℕ, zero, suc, ◌-◌, ◌*◌, ◌<◌, true, false, List, [], ◌∷◌, length, get_or, drop, Some, None, Option, sym, refl, inl, inr, arith}
use Rattle.std.proofs.lemmas.List.{length-drop}
use Rattle.std.proofs.lemmas.Bool.{eqb-true, eq-eqb, ne_eqb, cases_Bool, false≢true}
use Rattle.std.specs.List.{AllByRecursion as All}
use Rattle.model.specs.Bytes.{is_next, change_count, change_bytes, changes_from, left_from}
use Rattle.promise.specs.Codec.{Change}
use Rattle.basics.proofs.Numbers.{Bytes, bytes_drop, word_back, word_written, word_fits, byte_written}

pub length_change_bytes : (place : ℕ) (cs : List (Option ℕ)) → length (change_bytes place cs) ≡ 5 * change_count cs
unfolding change_bytes change_count
length_change_bytes place [] = refl
length_change_bytes place (None ∷ cs) = length_change_bytes (suc place) cs
length_change_bytes place (Some v ∷ cs) = omega (arith, length_change_bytes (suc place) cs)

-- the bytes of later places do not go on with this one
later : (place at : ℕ) (cs : List (Option ℕ)) → place < at → is_next place (change_bytes at cs) ≡ false
unfolding change_bytes
later place at [] h = refl
later place at (None ∷ cs) h = later place (suc at) cs (omega arith)
later place at (Some v ∷ cs) h = ne_eqb at place (omega arith)

pub changes_back : (place : ℕ) (cs : List (Option ℕ)) → All Change cs → changes_from (length cs) place (change_bytes place cs) ≡ cs
unfolding change_bytes changes_from
changes_back place [] h = refl
changes_back place (None ∷ cs) h = rw (later place (suc place) cs (omega arith), changes_back (suc place) cs h.1)
changes_back place (Some v ∷ cs) h = rw (eq-eqb place place refl, word_back v h.0, changes_back (suc place) cs h.1)

pub none_left : (place : ℕ) (cs : List (Option ℕ)) → left_from (length cs) place (change_bytes place cs) ≡ []
unfolding change_bytes left_from
none_left place [] = refl
none_left place (None ∷ cs) = rw (later place (suc place) cs (omega arith), none_left (suc place) cs)
none_left place (Some v ∷ cs) = rw (eq-eqb place place refl, none_left (suc place) cs)

-- the other way round
next_told : (place : ℕ) (bs : List ℕ) → is_next place bs ≡ true → (0 < length bs) × (get_or bs 0 0 ≡ place)
next_told place [] e = absurd (false≢true e)
next_told place (b ∷ bs) e = (omega arith, eqb-true b place e)

-- a change or none for each place, whatever the bytes
pub length_changes : (n place : ℕ) (bs : List ℕ) → length (changes_from n place bs) ≡ n
unfolding changes_from
length_changes zero place bs = refl
length_changes (suc n) place bs =
    elim (cases_Bool (is_next place bs)) [
      | inl y ↦ rw (y, length_changes n (suc place) (drop 5 bs))
      | inr y ↦ rw (y, length_changes n (suc place) bs)
    ]

-- What was read: a change or none for each place, in range; and if nothing is left, written as the bytes, five for each change.
pub record Changed (n place : ℕ) (bs : List ℕ) : Type 0 where
  pub many : length (changes_from n place bs) ≡ n
  pub fit : All Change (changes_from n place bs)
  pub written : (k : ℕ) → length bs ≡ 5 * k → left_from n place bs ≡ [] → change_bytes place (changes_from n place bs) ≡ bs

pub changes_read : (n place : ℕ) (bs : List ℕ) → Bytes bs → Changed n place bs
unfolding change_bytes changes_from left_from
changes_read zero place bs h = record { many = refl; fit = tt; written = λ k l none. sym none }
changes_read (suc n) place bs h =
    elim (cases_Bool (is_next place bs)) [
      | inl y ↦
          let first = next_told place bs y in
          let r = changes_read n (suc place) (drop 5 bs) (bytes_drop 5 bs h) in
          record {
            many = length_changes (suc n) place bs;
            fit = rw y (word_fits bs 1 h, r.fit);
            written = λ k l none.
                let rest = r.written (k - 1) (simp length-drop (omega arith)) (rw y at none) in
                rw (y, rest, word_written bs 1 h (omega arith), ← first.1) (byte_written bs 0 1 refl first.0);
          }
      | inr y ↦
          let r = changes_read n (suc place) bs h in
          record { many = length_changes (suc n) place bs; fit = rw y (tt, r.fit); written = λ k l none. rw (y, r.written k l (rw y at none)) }
    ]
