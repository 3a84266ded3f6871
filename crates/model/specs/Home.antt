-- The home: it has all words, puts diffs in, and keeps the locks. Assumes nothing.
use Rattle.std.specs.Prelude.{ℕ, ◌+◌, ◌*◌, cond, List, [], ◌∷◌, map, None, Ok, Err, Option, Result, ◌==◌, nat_le, slice_index_or}
use Rattle.std.specs.List.{range_with_len}
use Rattle.std.specs.Option.{unwrap_or}
use Rattle.model.specs.declared.Message.{Message}
use Rattle.model.specs.declared.Message.TheVariants.{PageRequest, PageReply, Diff, DiffApplied, LockRequest, LockGranted, LockReleased, ReleaseTaken}
use Rattle.basics.specs.declared.Refusal.{Refusal}
use Rattle.basics.specs.declared.Refusal.TheVariants.{Malformed, StaleNumber}
use Rattle.basics.specs.Sizes.{page_of, place_of, put}
use Rattle.model.specs.Bytes.{parse}
use Rattle.model.specs.Replies.{Reply, done, refused}
use Rattle.model.specs.Locks.{LockTable, unlocked, requests, releases}

-- words: each word's value; applied: of each station, the number of its last diff that was put in
pub record HomeState : Type 0 where
  pub words : ℕ → ℕ
  pub applied : ℕ → ℕ
  pub locks : LockTable

abbrev pub fresh : HomeState
fresh = record { words = λ w. 0; applied = λ s. 0; locks = unlocked }

-- the 64 words of a page
unfoldable pub page_at : ℕ → (ℕ → ℕ) → List ℕ
page_at p words = map words (range_with_len (64 * p) 64)

-- the words with a page's changes put in; every other word as it was
abbrev pub patched : ℕ → List (Option ℕ) → (ℕ → ℕ) → ℕ → ℕ
patched p changes words w = cond (page_of w == p) (unwrap_or (slice_index_or changes (place_of w) None) (words w)) (words w)

-- A diff is put in if its number is the next one of its station. An earlier one was put in before: it is answered again and not put in; a later one is passed over.
abbrev pub applies : HomeState → (s n p : ℕ) → List (Option ℕ) → Reply HomeState
applies h s n p changes =
    cond (n == h.applied s + 1)
    (done (DiffApplied s n ∷ []) (record { words = patched p changes h.words; applied = put s n h.applied; locks = h.locks }))
    (cond (nat_le n (h.applied s)) (refused StaleNumber (DiffApplied s n ∷ []) h)
    (refused StaleNumber [] h))

-- what the locks answer, as the home's answer
abbrev pub locked : HomeState → Reply LockTable → Reply HomeState
locked h r =
    record { refusal = r.refusal; sent = r.sent; after = record { words = h.words; applied = h.applied; locks = r.after } }

-- What the home does with each message. The messages that go to stations are malformed here.
abbrev pub hears : HomeState → Message → Reply HomeState
hears h (PageRequest s p n) = done (PageReply s p n (page_at p h.words) ∷ []) h
hears h (PageReply s p n ws) = refused Malformed [] h
hears h (Diff s n p changes) = applies h s n p changes
hears h (DiffApplied s n) = refused Malformed [] h
hears h (LockRequest s l n) = locked h (requests h.locks s l n)
hears h (LockGranted s l n) = refused Malformed [] h
hears h (LockReleased s l n) = locked h (releases h.locks s l n)
hears h (ReleaseTaken s l n) = refused Malformed [] h

abbrev pub hears_read : HomeState → Result Message Refusal → Reply HomeState
hears_read h (Ok m) = hears h m
hears_read h (Err why) = refused why [] h

-- Any bytes may come in.
abbrev pub receives : HomeState → List ℕ → Reply HomeState
receives h bytes = hears_read h (parse bytes)

-- the home after all that came in, the latest first
unfoldable pub home_after : List (List ℕ) → HomeState
home_after [] = fresh
home_after (bytes ∷ earlier) = (receives (home_after earlier) bytes).after
