-- What is read as a message is that message's bytes, and the message is in range: shown for each reader, then for all. Assumes nothing.
use Rattle.std.proofs.Common.{◌≡◌, ℕ, ◌+◌, ◌*◌, ◌<◌, Bool, true, ◌&&◌, eqb, ltb, List, [], ◌∷◌, length, get_or, drop, refl, ◌∙◌, ap, arith}
use Rattle.std.proofs.lemmas.List.{length-drop, nil_from_length}
use Rattle.std.proofs.lemmas.Bool.{and_parts, eqb-true, ltb-true}
use Rattle.model.specs.declared.Message.{Message}
use Rattle.model.specs.declared.Message.TheVariants.{LockRequest, LockGranted, LockReleased, ReleaseTaken}
use Rattle.basics.specs.Numbers.{u16_at, u32_bytes}
use Rattle.model.specs.Bytes.{bytes_of, parse, given, change_count, changes_from, left_from, read_page_request, read_page_reply, read_diff, read_diff_applied, read_lock}
use Rattle.promise.specs.Codec.{LockFits, InRange, OneText}
use Rattle.basics.proofs.Numbers.{Bytes, bytes_drop, byte_written, half_written, word_written, word_last, word_fits}
use Rattle.promise.proofs.IfRead.{IfRead, either_read}
use Rattle.promise.proofs.Words.{words_read}
use Rattle.promise.proofs.Changes.{length_change_bytes, changes_read}

-- the message has these bytes and is in range
abbrev Text : List ℕ → Message → Type 0
Text bs m = (bytes_of m ≡ bs) × InRange m

-- a reader's message is so if it is where the reader's test holds
given_text : {bs : List ℕ} (b : Bool) (m : Message) → (b ≡ true → Text bs m) → IfRead (Text bs) (given b m)
given_text b m t = either_read b (λ e. record { holds = t e }) (λ _. record { holds = tt })

-- a length, a station and what else is tested
tested : (bs : List ℕ) (n : ℕ) (b : Bool) → eqb (length bs) n && (ltb (get_or bs 1 0) 16 && b) ≡ true → (length bs ≡ n) × (get_or bs 1 0 < 16) × (b ≡ true)
tested bs n b e =
    let p = and_parts (eqb (length bs) n) (ltb (get_or bs 1 0) 16 && b) e in
    let q = and_parts (ltb (get_or bs 1 0) 16) b p.1 in
    (eqb-true (length bs) n p.0, ltb-true (get_or bs 1 0) 16 q.0, q.1)

-- the kind, the station and the rest
begins : (bs : List ℕ) (kind : ℕ) → eqb (get_or bs 0 0) kind ≡ true → 1 < length bs → kind ∷ get_or bs 1 0 ∷ drop 2 bs ≡ bs
begins bs kind k l = rw (byte_written bs 1 2 refl l, ← (eqb-true (get_or bs 0 0) kind k)) (byte_written bs 0 1 refl (omega arith))

module _ (bs : List ℕ) (h : Bytes bs) where
  request_text : eqb (get_or bs 0 0) 1 ≡ true → IfRead (Text bs) (read_page_request bs)
  request_text k =
      given_text _ _
      (λ t.
      let f = tested bs 8 (ltb (u16_at bs 2) 1024) t in (
        rw (word_last bs 4 h f.0, half_written bs 2 h (omega arith)) (begins bs 1 k (omega arith)),
        (f.1, ltb-true (u16_at bs 2) 1024 f.2, word_fits bs 4 h),
      ))

  reply_text : eqb (get_or bs 0 0) 2 ≡ true → IfRead (Text bs) (read_page_reply bs)
  reply_text k =
      given_text _ _
      (λ t.
      let f = tested bs 264 (ltb (u16_at bs 2) 1024) t in
      let r = words_read 64 (drop 8 bs) (bytes_drop 8 bs h) in
      let words = r.written (simp length-drop (omega arith)) in (
        rw (words, word_written bs 4 h (omega arith), half_written bs 2 h (omega arith)) (begins bs 2 k (omega arith)),
        (f.1, ltb-true (u16_at bs 2) 1024 f.2, word_fits bs 4 h, r.many, r.fit),
      ))

  diff_text : eqb (get_or bs 0 0) 3 ≡ true → IfRead (Text bs) (read_diff bs)
  diff_text k =
      given_text _ _
      (λ t.
      let f = tested bs (9 + 5 * get_or bs 8 0) (ltb (u16_at bs 6) 1024 && eqb (length (left_from 64 0 (drop 9 bs))) 0) t in
      let g = and_parts (ltb (u16_at bs 6) 1024) (eqb (length (left_from 64 0 (drop 9 bs))) 0) f.2 in
      let none : left_from 64 0 (drop 9 bs) ≡ [] = nil_from_length _ (eqb-true (length (left_from 64 0 (drop 9 bs))) 0 g.1) in
      let r = changes_read 64 0 (drop 9 bs) (bytes_drop 9 bs h) in
      let changes = r.written (get_or bs 8 0) (simp length-drop (omega arith)) none in
      let count : change_count (changes_from 64 0 (drop 9 bs)) ≡ get_or bs 8 0 =
      omega (arith, length-drop 9 bs, length_change_bytes 0 (changes_from 64 0 (drop 9 bs)), ap length changes) in (
        rw (changes, count, byte_written bs 8 9 refl (omega arith), half_written bs 6 h (omega arith), word_written bs 2 h (omega arith)) (begins bs 3 k (omega arith)),
        (f.1, word_fits bs 2 h, ltb-true (u16_at bs 6) 1024 g.0, r.many, r.fit),
      ))

  applied_text : eqb (get_or bs 0 0) 4 ≡ true → IfRead (Text bs) (read_diff_applied bs)
  applied_text k =
      given_text _ _
      (λ t.
      let f = and_parts (eqb (length bs) 6) (ltb (get_or bs 1 0) 16) t in
      let long = eqb-true (length bs) 6 f.0 in
      (rw (word_last bs 2 h long) (begins bs 4 k (omega arith)), (ltb-true (get_or bs 1 0) 16 f.1, word_fits bs 2 h)))

  lock_text :
      (make : ℕ → ℕ → ℕ → Message) (kind : ℕ) → ((s l n : ℕ) → bytes_of (make s l n) ≡ kind ∷ s ∷ l ∷ u32_bytes n) →
      ((s l n : ℕ) → LockFits s l n → InRange (make s l n)) → eqb (get_or bs 0 0) kind ≡ true → IfRead (Text bs) (read_lock make bs)
  lock_text make kind written fits k =
      given_text _ _
      (λ t.
      let f = tested bs 7 (ltb (get_or bs 2 0) 64) t in (
        written _ _ _ ∙ rw (word_last bs 3 h f.0, byte_written bs 2 3 refl (omega arith)) (begins bs kind k (omega arith)),
        fits _ _ _ (f.1, ltb-true (get_or bs 2 0) 64 f.2, word_fits bs 3 h),
      ))

  parse_text : IfRead (Text bs) (parse bs)
  parse_text =
      either_read _ request_text
      (λ _. either_read _ reply_text
      (λ _. either_read _ diff_text
      (λ _. either_read _ applied_text
      (λ _. either_read _ (lock_text LockRequest 5 (λ s l n. refl) (λ s l n x. x))
      (λ _. either_read _ (lock_text LockGranted 6 (λ s l n. refl) (λ s l n x. x))
      (λ _. either_read _ (lock_text LockReleased 7 (λ s l n. refl) (λ s l n x. x))
      (λ _. either_read _ (lock_text ReleaseTaken 8 (λ s l n. refl) (λ s l n x. x))
      (λ _. record { holds = tt }))))))))

pub one_text : OneText
one_text bs m h e = (rw e at (parse_text bs h)).holds
