-- A station: it works on copies of pages, sends back what it changed, and asks for locks. Assumes nothing.
use Rattle.std.specs.Prelude.{ℕ, ◌+◌, max, Bool, true, false, not, ◌&&◌, ◌||◌, List, [], ◌∷◌, length, is_some, is_none, Some, None, Ok, Err, Option, Result, ◌==◌, nat_le, nat_lt}
use Rattle.basics.specs.declared.Refusal.{Refusal}
use Rattle.basics.specs.declared.Refusal.TheVariants.{Malformed, Waits, PageState, PagesFull, NotFlushed, LockState, StaleNumber, CounterFull}
use Rattle.basics.specs.Sizes.{is_word, is_page, is_lock, page_of, put}
use Rattle.trace.specs.declared.Event.TheVariants.{Read, Write, Acquire, Release}
use Rattle.model.specs.declared.Message.{Message}
use Rattle.model.specs.declared.Message.TheVariants.{PageRequest, PageReply, Diff, DiffApplied, LockRequest, LockGranted, LockReleased, ReleaseTaken}
use Rattle.model.specs.declared.Call.{Call}
use Rattle.model.specs.declared.Call.TheVariants.{ReadWord, WriteWord, Ask, Tell, Take, Free}
use Rattle.model.specs.declared.Awaited.{Awaited}
use Rattle.model.specs.declared.Awaited.TheVariants.{Page, Lock}
use Rattle.model.specs.declared.Holding.{Holding}
use Rattle.model.specs.declared.Holding.TheVariants.{Held, Unanswered}
use Rattle.model.specs.declared.Head.{Head}
use Rattle.model.specs.declared.Counters.{Counters}
use Rattle.model.specs.Bytes.{parse}
use Rattle.model.specs.Cache.{Cache, empty, is_in, wrote, installed, flushed_at, changes_at, is_clean}
use Rattle.model.specs.Outcomes.{Outcome, Row, done, happened, gave, refused, unless}

-- head: its counters and what it waits for; cache: its pages; locks: what each lock is to it, if it was granted it
pub record StationState : Type 0 where
  pub head : Head
  pub cache : Cache
  pub locks : ℕ → Option Holding

-- with no pages and no locks, its counters as they stand
abbrev pub begun : ℕ → Counters → StationState
begun s n =
    record {
      head = record { station = s; counters = n; acknowledged = n.diffs; awaits = None };
      cache = empty;
      locks = λ l. None;
    }

abbrev pub idle : ℕ → StationState
idle s = begun s (record { fetches = 0; acquires = 0; diffs = 0; events = 0 })

-- WHAT IT WAITS FOR.
abbrev pub is_waiting : Option Awaited → Bool
is_waiting a = is_some a

abbrev pub awaits_page : Option Awaited → Bool
awaits_page (Some (Page p n)) = true
awaits_page a = false

abbrev pub awaits_lock : Option Awaited → Bool
awaits_lock (Some (Lock l n)) = true
awaits_lock a = false

-- this page or lock, by a request of this number
abbrev pub is_page_awaited : ℕ → ℕ → Option Awaited → Bool
is_page_awaited p n (Some (Page q m)) = q == p && m == n
is_page_awaited p n a = false

abbrev pub is_lock_awaited : ℕ → ℕ → Option Awaited → Bool
is_lock_awaited l n (Some (Lock k m)) = k == l && m == n
is_lock_awaited l n a = false

-- WHAT A LOCK IS TO IT.
abbrev pub is_free_to_take : Option Holding → Bool
is_free_to_take h = is_none h

abbrev pub is_held : Option Holding → Bool
is_held (Some (Held n)) = true
is_held h = false

-- released by the request of this number, and not answered
abbrev pub is_unanswered : ℕ → Option Holding → Bool
is_unanswered n (Some (Unanswered m)) = m == n
is_unanswered n h = false

-- its pages are clean, its diffs are all acknowledged, and it waits for no page
abbrev pub is_flushed : StationState → Bool
is_flushed s = is_clean s.cache && (s.head.acknowledged == s.head.counters.diffs && not (awaits_page s.head.awaits))

abbrev pub is_full : ℕ → Bool
is_full n = n == 4294967295

abbrev pub has_page : StationState → ℕ → Bool
has_page s p = is_in p s.cache.present

abbrev pub row : Refusal → Bool → Row
row why applies = record { applies = applies; why = why }

-- THE REFUSALS of each call, in rising order.
abbrev pub word_refusals : StationState → ℕ → List Row
word_refusals s w =
    row Malformed (not (is_word w)) ∷
    row Waits (is_waiting s.head.awaits) ∷
    row PageState (not (has_page s (page_of w))) ∷
    row CounterFull (is_full s.head.counters.events) ∷ []

abbrev pub call_refusals : StationState → Call → List Row
call_refusals s (ReadWord w) = word_refusals s w
call_refusals s (WriteWord w v) = word_refusals s w
call_refusals s (Ask p) =
    row Malformed (not (is_page p)) ∷
    row Waits (is_waiting s.head.awaits) ∷
    row PageState (has_page s p) ∷
    row PagesFull (nat_le 256 (length s.cache.present)) ∷
    row CounterFull (is_full s.head.counters.fetches) ∷ []
call_refusals s (Tell p) =
    row Malformed (not (is_page p)) ∷
    row Waits (awaits_lock s.head.awaits) ∷
    row PageState (not (has_page s p)) ∷
    row CounterFull (is_full s.head.counters.diffs) ∷ []
call_refusals s (Take l) =
    row Malformed (not (is_lock l)) ∷
    row Waits (is_waiting s.head.awaits) ∷
    row NotFlushed (not (is_flushed s)) ∷
    row LockState (not (is_free_to_take (s.locks l))) ∷
    row CounterFull (is_full s.head.counters.acquires || is_full s.head.counters.events) ∷ []
call_refusals s (Free l) =
    row Malformed (not (is_lock l)) ∷
    row Waits (is_waiting s.head.awaits) ∷
    row NotFlushed (not (is_flushed s)) ∷
    row LockState (is_free_to_take (s.locks l)) ∷
    row CounterFull (is_held (s.locks l) && is_full s.head.counters.events) ∷ []

-- THE HEAD, with one thing changed: a page asked for, a lock asked for, a diff sent, one more event, nothing awaited, a diff acknowledged.
abbrev pub fetching : ℕ → Head → Head
fetching p h = record h { counters = record h.counters { fetches = h.counters.fetches + 1 }; awaits = Some (Page p (h.counters.fetches + 1)) }

abbrev pub acquiring : ℕ → Head → Head
acquiring l h = record h { counters = record h.counters { acquires = h.counters.acquires + 1 }; awaits = Some (Lock l (h.counters.acquires + 1)) }

abbrev pub diffed : Head → Head
diffed h = record h { counters = record h.counters { diffs = h.counters.diffs + 1 } }

abbrev pub counted : Head → Head
counted h = record h { counters = record h.counters { events = h.counters.events + 1 } }

abbrev pub served : Head → Head
served h = record h { awaits = None }

abbrev pub acknowledging : ℕ → Head → Head
acknowledging n h = record h { acknowledged = max h.acknowledged n }

-- A lock is given back once; asked again before the answer came, only the message is sent again.
abbrev pub frees : StationState → ℕ → Option Holding → Outcome StationState
frees s l None = done [] s
frees s l (Some (Held n)) =
    happened (Release s.head.station l) (LockReleased s.head.station l n ∷ [])
    (record s { head = counted s.head; locks = put l (Some (Unanswered n)) s.locks })
frees s l (Some (Unanswered n)) = done (LockReleased s.head.station l n ∷ []) s

-- WHAT EACH CALL DOES, if it is not refused.
abbrev pub does : StationState → Call → Outcome StationState
does s (ReadWord w) = gave (s.cache.copy w) (Read s.head.station w (s.cache.copy w)) (record s { head = counted s.head })
does s (WriteWord w v) = happened (Write s.head.station w v) [] (record s { head = counted s.head; cache = wrote w v s.cache })
does s (Ask p) = done (PageRequest s.head.station p (s.head.counters.fetches + 1) ∷ []) (record s { head = fetching p s.head })
does s (Tell p) =
    done (Diff s.head.station (s.head.counters.diffs + 1) p (changes_at p s.cache.copy s.cache.twin) ∷ [])
    (record s { head = diffed s.head; cache = flushed_at p s.cache })
does s (Take l) = done (LockRequest s.head.station l (s.head.counters.acquires + 1) ∷ []) (record s { head = acquiring l s.head })
does s (Free l) = frees s l (s.locks l)

abbrev pub calls : StationState → Call → Outcome StationState
calls s c = unless (call_refusals s c) s (does s c)

-- THE REFUSALS of each message, in rising order. Those that go to the home are malformed here.
abbrev pub is_other : StationState → ℕ → Bool
is_other s t = not (t == s.head.station)

abbrev pub message_refusals : StationState → Message → List Row
message_refusals s (PageReply t p n ws) = row Malformed (is_other s t) ∷ row StaleNumber (not (is_page_awaited p n s.head.awaits)) ∷ []
message_refusals s (DiffApplied t n) = row Malformed (is_other s t) ∷ row StaleNumber (nat_lt s.head.counters.diffs n) ∷ []
message_refusals s (LockGranted t l n) = row Malformed (is_other s t) ∷ row StaleNumber (not (is_lock_awaited l n s.head.awaits)) ∷ []
message_refusals s (ReleaseTaken t l n) = row Malformed (is_other s t) ∷ row StaleNumber (not (is_unanswered n (s.locks l))) ∷ []
message_refusals s m = row Malformed true ∷ []

-- the pages that stay where a lock is acquired: none
abbrev pub kept_on_acquire : Cache → Cache
kept_on_acquire c = empty

-- WHAT EACH MESSAGE DOES, if it is not refused. Those that go to the home always are.
abbrev pub takes_in : StationState → Message → Outcome StationState
takes_in s (PageReply t p n ws) = done [] (record s { head = served s.head; cache = installed p ws s.cache })
takes_in s (DiffApplied t n) = done [] (record s { head = acknowledging n s.head })
takes_in s (LockGranted t l n) =
    happened (Acquire s.head.station l) []
    (record { head = counted (served s.head); cache = kept_on_acquire s.cache; locks = put l (Some (Held n)) s.locks })
takes_in s (ReleaseTaken t l n) = done [] (record s { locks = put l None s.locks })
takes_in s m = done [] s

abbrev pub station_hears : StationState → Message → Outcome StationState
station_hears s m = unless (message_refusals s m) s (takes_in s m)

abbrev pub station_reads : StationState → Result Message Refusal → Outcome StationState
station_reads s (Ok m) = station_hears s m
station_reads s (Err why) = refused why [] s

-- Any bytes may come in.
abbrev pub station_receives : StationState → List ℕ → Outcome StationState
station_receives s bytes = station_reads s (parse bytes)

-- What comes to a station: a call of its program, or bytes.
pub data Input : Type 0 where
  Calls : Call → Input
  Comes : List ℕ → Input

abbrev pub meets : StationState → Input → Outcome StationState
meets s (Calls c) = calls s c
meets s (Comes bytes) = station_receives s bytes

-- the station after all that came to it, the latest first
unfoldable pub station_after : StationState → List Input → StationState
station_after start [] = start
station_after start (i ∷ earlier) = (meets (station_after start earlier) i).after
