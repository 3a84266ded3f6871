-- Messages as bytes, high byte first, and the reading of any bytes: a message, or refused as malformed. Assumes nothing.
use Rattle.std.specs.Prelude.{ℕ, zero, suc, ◌+◌, ◌*◌, Bool, false, cond, ◌&&◌, List, [], ◌∷◌, ◌++◌, length, drop, Some, None, Ok, Err, Option, Result, ◌==◌, slice_index}
use Rattle.model.specs.declared.Message.{Message}
use Rattle.model.specs.declared.Message.TheVariants.{PageRequest, PageReply, Diff, DiffApplied, LockRequest, LockGranted, LockReleased, ReleaseTaken}
use Rattle.basics.specs.declared.Refusal.{Refusal}
use Rattle.basics.specs.declared.Refusal.TheVariants.{Malformed}
use Rattle.basics.specs.Numbers.{u16_bytes, u32_bytes, u8_at, u16_at, u32_at}
use Rattle.basics.specs.Sizes.{is_station, is_page, is_lock}

unfoldable pub word_bytes : List ℕ → List ℕ
word_bytes [] = []
word_bytes (w ∷ ws) = u32_bytes w ++ word_bytes ws

-- A diff carries how many words it changes, and of each its place, rising, and its new value.
unfoldable pub change_count : List (Option ℕ) → ℕ
change_count [] = 0
change_count (None ∷ cs) = change_count cs
change_count (Some v ∷ cs) = suc (change_count cs)

-- place: that of the first of the changes
unfoldable pub change_bytes : ℕ → List (Option ℕ) → List ℕ
change_bytes place [] = []
change_bytes place (None ∷ cs) = change_bytes (suc place) cs
change_bytes place (Some v ∷ cs) = place ∷ (u32_bytes v ++ change_bytes (suc place) cs)

-- THE FORMATS.
abbrev pub bytes_of : Message → List ℕ
bytes_of (PageRequest s p n) = 1 ∷ s ∷ (u16_bytes p ++ u32_bytes n)
bytes_of (PageReply s p n ws) = 2 ∷ s ∷ (u16_bytes p ++ (u32_bytes n ++ word_bytes ws))
bytes_of (Diff s n p cs) = 3 ∷ s ∷ (u32_bytes n ++ (u16_bytes p ++ (change_count cs ∷ change_bytes 0 cs)))
bytes_of (DiffApplied s n) = 4 ∷ s ∷ u32_bytes n
bytes_of (LockRequest s l n) = 5 ∷ s ∷ l ∷ u32_bytes n
bytes_of (LockGranted s l n) = 6 ∷ s ∷ l ∷ u32_bytes n
bytes_of (LockReleased s l n) = 7 ∷ s ∷ l ∷ u32_bytes n
bytes_of (ReleaseTaken s l n) = 8 ∷ s ∷ l ∷ u32_bytes n

-- THE READING.
-- n words, one behind the other
unfoldable pub words_from : ℕ → List ℕ → List ℕ
words_from zero bs = []
words_from (suc n) bs = u32_at bs 0 ∷ words_from n (drop 4 bs)

-- the bytes go on with this place
abbrev pub is_next : ℕ → List ℕ → Bool
is_next place [] = false
is_next place (b ∷ bs) = b == place

-- The changes of n places from one place on: a place is changed where the bytes go on with it and its value.
unfoldable pub changes_from : (n place : ℕ) → List ℕ → List (Option ℕ)
changes_from zero place bs = []
changes_from (suc n) place bs =
    cond (is_next place bs) (Some (u32_at bs 1) ∷ changes_from n (suc place) (drop 5 bs)) (None ∷ changes_from n (suc place) bs)

-- and the bytes that are left over then: some, where a place is out of range or does not rise
unfoldable pub left_from : (n place : ℕ) → List ℕ → List ℕ
left_from zero place bs = bs
left_from (suc n) place bs = cond (is_next place bs) (left_from n (suc place) (drop 5 bs)) (left_from n (suc place) bs)

-- the message if the test holds, else malformed
abbrev pub given : Bool → Message → Result Message Refusal
given ok m = cond ok (Ok m) (Err Malformed)

abbrev pub read_page_request : List ℕ → Result Message Refusal
read_page_request bs =
    given (length bs == 8 && (is_station (u8_at bs 1) && is_page (u16_at bs 2))) (PageRequest (u8_at bs 1) (u16_at bs 2) (u32_at bs 4))

abbrev pub read_page_reply : List ℕ → Result Message Refusal
read_page_reply bs =
    given (length bs == 264 && (is_station (u8_at bs 1) && is_page (u16_at bs 2)))
    (PageReply (u8_at bs 1) (u16_at bs 2) (u32_at bs 4) (words_from 64 (drop 8 bs)))

abbrev pub read_diff : List ℕ → Result Message Refusal
read_diff bs =
    given (length bs == 9 + 5 * u8_at bs 8 && (is_station (u8_at bs 1) && (is_page (u16_at bs 6) && length (left_from 64 0 (drop 9 bs)) == 0)))
    (Diff (u8_at bs 1) (u32_at bs 2) (u16_at bs 6) (changes_from 64 0 (drop 9 bs)))

abbrev pub read_diff_applied : List ℕ → Result Message Refusal
read_diff_applied bs = given (length bs == 6 && is_station (u8_at bs 1)) (DiffApplied (u8_at bs 1) (u32_at bs 2))

-- the four messages on locks differ in their kind only
abbrev pub read_lock : (ℕ → ℕ → ℕ → Message) → List ℕ → Result Message Refusal
read_lock kind bs =
    given (length bs == 7 && (is_station (u8_at bs 1) && is_lock (u8_at bs 2))) (kind (u8_at bs 1) (u8_at bs 2) (u32_at bs 3))

abbrev pub read_kind : ℕ → List ℕ → Result Message Refusal
read_kind kind bs =
    cond (kind == 1) (read_page_request bs)
    (cond (kind == 2) (read_page_reply bs)
    (cond (kind == 3) (read_diff bs)
    (cond (kind == 4) (read_diff_applied bs)
    (cond (kind == 5) (read_lock LockRequest bs)
    (cond (kind == 6) (read_lock LockGranted bs)
    (cond (kind == 7) (read_lock LockReleased bs)
    (cond (kind == 8) (read_lock ReleaseTaken bs)
    (Err Malformed))))))))

-- no bytes at all are of no kind
abbrev pub parse : List ℕ → Result Message Refusal
parse bs = read_kind (slice_index bs 0) bs
