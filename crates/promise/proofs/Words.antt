-- Words written one behind the other are read back, and words that were read are written as the bytes they were read of. Assumes nothing.
use Rattle.std.proofs.Common.{◌≡◌, ℕ, zero, suc, ◌*◌, List, [], ◌∷◌, length, drop, sym, refl, ap, arith}
use Rattle.std.proofs.lemmas.List.{length-drop, nil_from_length}
use Rattle.std.specs.List.{AllByRecursion as All}
use Rattle.model.specs.Bytes.{word_bytes, words_from}
use Rattle.basics.specs.Numbers.{Word}
use Rattle.basics.proofs.Numbers.{Bytes, bytes_drop, word_back, word_written, word_fits}

pub length_word_bytes : (ws : List ℕ) → length (word_bytes ws) ≡ 4 * length ws
unfolding word_bytes
length_word_bytes [] = refl
length_word_bytes (w ∷ ws) = omega (arith, length_word_bytes ws)

pub words_back : (ws : List ℕ) → All Word ws → words_from (length ws) (word_bytes ws) ≡ ws
unfolding word_bytes words_from
words_back [] h = refl
words_back (w ∷ ws) h = rw (word_back w h.0, words_back ws h.1)

-- as many words as were asked for, whatever the bytes
pub length_words : (n : ℕ) (bs : List ℕ) → length (words_from n bs) ≡ n
unfolding words_from
length_words zero bs = refl
length_words (suc n) bs = ap suc (length_words n (drop 4 bs))

-- what was read: as many words as were asked for, each in range, written as the bytes
pub record Read (n : ℕ) (bs : List ℕ) : Type 0 where
  pub many : length (words_from n bs) ≡ n
  pub fit : All Word (words_from n bs)
  pub written : length bs ≡ 4 * n → word_bytes (words_from n bs) ≡ bs

pub words_read : (n : ℕ) (bs : List ℕ) → Bytes bs → Read n bs
unfolding word_bytes words_from
words_read zero bs h = record { many = refl; fit = tt; written = λ l. sym (nil_from_length bs (omega arith)) }
words_read (suc n) bs h =
    let r = words_read n (drop 4 bs) (bytes_drop 4 bs h) in
    record {
      many = length_words (suc n) bs;
      fit = (word_fits bs 0 h, r.fit);
      written = λ l. rw (r.written (simp length-drop (omega arith))) (word_written bs 0 h (omega arith));
    }
