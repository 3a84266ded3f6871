-- An event as ten bytes: station, kind, word or lock, value; and the reading of any bytes: an event, or refused as malformed. Assumes nothing.
use Rattle.std.specs.Prelude.{ℕ, Bool, cond, ◌&&◌, List, [], ◌∷◌, ◌++◌, length, Some, None, Ok, Err, Option, Result, ◌==◌}
use Rattle.basics.specs.declared.Refusal.{Refusal}
use Rattle.basics.specs.declared.Refusal.TheVariants.{Malformed}
use Rattle.basics.specs.Numbers.{u32_bytes, u8_at, u32_at}
use Rattle.basics.specs.Sizes.{is_station, is_word, is_lock}
use Rattle.trace.specs.declared.Event.{Event}
use Rattle.trace.specs.declared.Event.TheVariants.{Read, Write, Acquire, Release}

-- THE FORMAT.
abbrev pub bytes_of : Event → List ℕ
bytes_of (Read s w v) = s ∷ 1 ∷ (u32_bytes w ++ u32_bytes v)
bytes_of (Write s w v) = s ∷ 2 ∷ (u32_bytes w ++ u32_bytes v)
bytes_of (Acquire s l) = s ∷ 3 ∷ (u32_bytes l ++ u32_bytes 0)
bytes_of (Release s l) = s ∷ 4 ∷ (u32_bytes l ++ u32_bytes 0)

-- THE READING. The event if the test holds, else malformed.
abbrev pub given : Bool → Event → Result Event Refusal
given ok e = cond ok (Ok e) (Err Malformed)

-- on: the word or lock; a lock has no value
abbrev pub event_of : (station kind on value : ℕ) → Result Event Refusal
event_of s kind x v =
    cond (kind == 1) (given (is_word x) (Read s x v))
    (cond (kind == 2) (given (is_word x) (Write s x v))
    (cond (kind == 3) (given (is_lock x && v == 0) (Acquire s x))
    (cond (kind == 4) (given (is_lock x && v == 0) (Release s x))
    (Err Malformed))))

abbrev pub read_event : List ℕ → Result Event Refusal
read_event bs = cond (length bs == 10 && is_station (u8_at bs 0)) (event_of (u8_at bs 0) (u8_at bs 1) (u32_at bs 2) (u32_at bs 6)) (Err Malformed)

-- A TRACE as bytes: each event behind those before it.
abbrev pub trace_bytes : List Event → List ℕ
trace_bytes [] = []
trace_bytes (e ∷ es) = trace_bytes es ++ bytes_of e

-- The reading of a trace, byte by byte: the events so far, the latest first, and the bytes of one that is not whole yet.
pub record Reading : Type 0 where
  pub trace : List Event
  pub part : List ℕ

abbrev pub none_read : Reading
none_read = record { trace = []; part = [] }

-- One byte more: the tenth makes an event, and the next begins with no bytes.
abbrev pub ripened : Result Event Refusal → Result (Option Event) Refusal
ripened (Ok e) = Ok (Some e)
ripened (Err why) = Err why

abbrev pub event_with : List ℕ → ℕ → Result (Option Event) Refusal
event_with part b = cond (length part == 9) (ripened (read_event (part ++ (b ∷ [])))) (Ok None)

abbrev pub part_with : List ℕ → ℕ → List ℕ
part_with part b = cond (length part == 9) [] (part ++ (b ∷ []))

abbrev pub onward : List Event → List ℕ → Result (Option Event) Refusal → Result Reading Refusal
onward es part (Ok None) = Ok (record { trace = es; part = part })
onward es part (Ok (Some e)) = Ok (record { trace = e ∷ es; part = part })
onward es part (Err why) = Err why

abbrev pub with_byte : Reading → ℕ → Result Reading Refusal
with_byte r b = onward r.trace (part_with r.part b) (event_with r.part b)

abbrev pub read_on : Result Reading Refusal → List ℕ → Result Reading Refusal
read_on r [] = r
read_on (Ok r) (b ∷ bs) = read_on (with_byte r b) bs
read_on (Err why) (b ∷ bs) = Err why

-- at the end no event may be cut short
abbrev pub whole : Result Reading Refusal → Result (List Event) Refusal
whole (Ok r) = cond (length r.part == 0) (Ok r.trace) (Err Malformed)
whole (Err why) = Err why

abbrev pub read_trace : List ℕ → Result (List Event) Refusal
read_trace bs = whole (read_on (Ok none_read) bs)
