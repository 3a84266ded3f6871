-- Every message in range comes back from its bytes. Assumes nothing.
use Rattle.std.proofs.Common.{◌≡◌, ℕ, ◌+◌, ◌*◌, true, eqb, [], ◌∷◌, length, Ok, arith}
use Rattle.std.proofs.lemmas.Bool.{lt-ltb, eq-eqb}
use Rattle.model.specs.declared.Message.{Message}
use Rattle.model.specs.declared.Message.TheVariants.{PageRequest, PageReply, Diff, DiffApplied, LockRequest, LockGranted, LockReleased, ReleaseTaken}
use Rattle.basics.specs.Numbers.{u32_bytes}
use Rattle.model.specs.Bytes.{bytes_of, read_lock, word_bytes, words_from, change_count, change_bytes, changes_from, left_from}
use Rattle.promise.specs.Codec.{LockFits, ComesBack}
use Rattle.basics.proofs.Numbers.{half_back, word_back}
use Rattle.promise.proofs.Words.{length_word_bytes, words_back}
use Rattle.promise.proofs.Changes.{length_change_bytes, changes_back, none_left}

-- the four messages on locks
lock_back :
    (make : ℕ → ℕ → ℕ → Message) (kind s l n : ℕ) → LockFits s l n → read_lock make (kind ∷ s ∷ l ∷ u32_bytes n) ≡ Ok (make s l n)
lock_back make kind s l n h = rw (lt-ltb s 16 h.0, lt-ltb l 64 h.1, word_back n h.2)

pub comes_back : ComesBack
comes_back (PageRequest s p n) h = rw (half_back p h.1, lt-ltb s 16 h.0, lt-ltb p 1024 h.1, word_back n h.2)
comes_back (PageReply s p n ws) h =
    let long : eqb (length (bytes_of (PageReply s p n ws))) 264 ≡ true = eq-eqb _ _ (omega (arith, length_word_bytes ws)) in
    let words : words_from 64 (word_bytes ws) ≡ ws = rw h.3 at (words_back ws h.4) in
    rw (long, half_back p h.1, lt-ltb s 16 h.0, lt-ltb p 1024 h.1, word_back n h.2, words)
comes_back (Diff s n p cs) h =
    let long : eqb (length (bytes_of (Diff s n p cs))) (9 + 5 * change_count cs) ≡ true = eq-eqb _ _ (omega (arith, length_change_bytes 0 cs)) in
    let none : left_from 64 0 (change_bytes 0 cs) ≡ [] = rw h.3 at (none_left 0 cs) in
    let changes : changes_from 64 0 (change_bytes 0 cs) ≡ cs = rw h.3 at (changes_back 0 cs h.4) in
    rw (long, half_back p h.2, lt-ltb s 16 h.0, lt-ltb p 1024 h.2, word_back n h.1, none, changes)
comes_back (DiffApplied s n) h = rw (lt-ltb s 16 h.0, word_back n h.1)
comes_back (LockRequest s l n) h = lock_back LockRequest 5 s l n h
comes_back (LockGranted s l n) h = lock_back LockGranted 6 s l n h
comes_back (LockReleased s l n) h = lock_back LockReleased 7 s l n h
comes_back (ReleaseTaken s l n) h = lock_back ReleaseTaken 8 s l n h
