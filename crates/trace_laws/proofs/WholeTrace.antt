-- A trace in range comes back from its bytes, and what is read as a trace is that trace's bytes. Assumes nothing.
use Rattle.std.proofs.Common.{arith, ◌≡◌, ℕ, ◌<◌, eqb, ◌⊎◌, List, [], ◌∷◌, ◌++◌, length, Ok, Err, Result, refl, ap, inl, inr, append_assoc, append-nil}
use Rattle.std.proofs.ByRecursion.{All-push}
use Rattle.std.proofs.lemmas.List.{nil_from_length}
use Rattle.std.proofs.lemmas.Bool.{cases_Bool, cond_both}
use Rattle.std.proofs.lemmas.Bool.Decides.{nat_tests}
use Rattle.std.specs.List.{AllByRecursion}
use Rattle.basics.specs.declared.Refusal.{Refusal}
use Rattle.basics.specs.declared.Refusal.TheVariants.{Malformed}
use Rattle.trace.specs.declared.Event.{Event}
use Rattle.trace.specs.declared.Event.TheVariants.{Read}
use Rattle.trace.specs.Bytes.{Reading, none_read, bytes_of, read_event, trace_bytes, ripened, onward, with_byte, read_on, whole}
use Rattle.trace_laws.specs.Codec.{InRange, Bytes, TraceComesBack, TraceOf, TraceOneText}
use Rattle.trace_laws.proofs.OneEvent.{Told, event_back, event_told}

-- bytes read in two goes; a refusal stays
read_append : (r : Result Reading Refusal) (xs ys : List ℕ) → read_on r (xs ++ ys) ≡ read_on (read_on r xs) ys
read_append r [] ys = refl
read_append (Ok r) (x ∷ xs) ys = read_append (with_byte r x) xs ys
read_append (Err why) (x ∷ xs) [] = refl
read_append (Err why) (x ∷ xs) ys = refl

-- the reading between two events
abbrev between : List Event → Result Reading Refusal
between es = Ok (record { trace = es; part = [] })

-- ten bytes more make an event, or not, as read of them alone
bytes_more : (es : List Event) (e : Event) → read_on (between es) (bytes_of e) ≡ onward es [] (ripened (read_event (bytes_of e)))
bytes_more es (Read s w v) = refl
bytes_more es e = refl

trace_read : (es : List Event) → AllByRecursion InRange es → read_on (Ok none_read) (trace_bytes es) ≡ between es
trace_read [] h = refl
trace_read (e ∷ es) h = rw (read_append (Ok none_read) (trace_bytes es) (bytes_of e), trace_read es h.1, bytes_more es e, event_back e h.0)

pub trace_back : TraceComesBack
trace_back es h = ap whole (trace_read es h)

-- the events read and the bytes left over are together the bytes seen so far
record Reads (seen : List ℕ) (r : Reading) : Type 0 where
  range : AllByRecursion InRange r.trace
  small : Bytes r.part
  text : seen ≡ trace_bytes r.trace ++ r.part

-- the same of any result of reading: what it refuses is malformed
abbrev Seen : List ℕ → Result Reading Refusal → Type 0
Seen seen (Ok r) = Reads seen r
Seen seen (Err why) = why ≡ Malformed

-- the tenth byte of an event: what was read of its bytes decides
tenth :
    (seen part : List ℕ) (es : List Event) (q : Result Event Refusal) → AllByRecursion InRange es → seen ≡ trace_bytes es ++ part → Told part q →
    Seen seen (onward es [] (ripened q))
tenth seen part es (Ok e) h s t =
    record { range = (t.range, h); small = tt; text = grind (arith, append-nil) }
tenth seen part es (Err why) h s t = t

-- one byte more, the tenth or not
byte_seen : (seen : List ℕ) (r : Reading) (b : ℕ) → b < 256 → Reads seen r → Seen (seen ++ (b ∷ [])) (with_byte r b)
byte_seen seen r b l k =
    let part : List ℕ = r.part ++ (b ∷ []) in
    let small : Bytes part = All-push (λ x. x < 256) r.part b k.small l in
    let text : seen ++ (b ∷ []) ≡ trace_bytes r.trace ++ part = grind (arith, append_assoc) in
    elim (cases_Bool (eqb (length r.part) 9)) [
      | inl y ↦ rw y (tenth (seen ++ (b ∷ [])) part r.trace (read_event part) k.range text (event_told part small))
      | inr y ↦ rw y (record { range = k.range; small = small; text = text })
    ]

-- any number of bytes more
bytes_seen : (seen : List ℕ) (r : Result Reading Refusal) (bs : List ℕ) → Bytes bs → Seen seen r → Seen (seen ++ bs) (read_on r bs)
bytes_seen seen r [] h k = rw (append-nil seen) k
bytes_seen seen (Ok r) (b ∷ bs) h k =
    rw append_assoc at (bytes_seen (seen ++ (b ∷ [])) (with_byte r b) bs h.1 (byte_seen seen r b h.0 k))
bytes_seen seen (Err why) (b ∷ bs) h k = k

-- at the end: no bytes left over, or malformed
abbrev Said : List ℕ → Result (List Event) Refusal → Type 0
Said bs q = ((es : List Event) × (q ≡ Ok es) × TraceOf bs es) ⊎ (q ≡ Err Malformed)

end_seen : (bs : List ℕ) (q : Result Reading Refusal) → Seen bs q → Said bs (whole q)
end_seen bs (Ok r) k =
    cond_both (eqb (length r.part) 0) _ _ (Said bs)
    (λ y. let none = nil_from_length r.part in inl (r.trace, refl, record { range = k.range; text = grind (arith, nat_tests, append-nil) })) (λ _. inr refl)
end_seen bs (Err why) k = inr (ap Err k)

pub trace_text : TraceOneText
trace_text bs h = end_seen bs (read_on (Ok none_read) bs) (bytes_seen [] (Ok none_read) bs h (record { range = tt; small = tt; text = refl }))
