-- Pieces join, and what is fed is what is read. Assumes nothing.
use Rattle.std.proofs.Common.{◌≡◌, ℕ, List, [], ◌∷◌, length, Ok, Err, Result, refl, ap, inl, inr}
use Rattle.std.proofs.lemmas.Bool.Decides.{leb_tells}
use Rattle.basics.specs.declared.Refusal.{Refusal}
use Rattle.basics.specs.declared.Refusal.TheVariants.{CounterFull}
use Rattle.trace.specs.Bytes.{Reading, with_byte, read_on}
use Rattle.trace_text.specs.declared.chars.Mode.{Mode}
use Rattle.trace_text.specs.Text.{TextReading, text_start, char_on, byte_on, text_on, in_mode}
use Rattle.judging.specs.Fed.{limited, fed_on}
use Rattle.judging.specs.Laws.{PiecesJoin, Agrees, TextIsRead, BytesAreRead}

err_fed : (feed : TextReading → ℕ → Result TextReading Refusal) (why : Refusal) (cs : List ℕ) → fed_on feed (Err why) cs ≡ Err why
err_fed feed why [] = refl
err_fed feed why (c ∷ cs) = refl

pub pieces_join : PiecesJoin
pieces_join feed t [] ys = refl
pieces_join feed (Ok t) (c ∷ xs) ys = pieces_join feed (feed t c) xs ys
pieces_join feed (Err why) (c ∷ xs) ys = err_fed feed why ys

-- a reading of which each step is the limited step of the fed one
module _ (step : TextReading → ℕ → Result TextReading Refusal) (read : Result TextReading Refusal → List ℕ → Result TextReading Refusal)
    (none : (t : Result TextReading Refusal) → read t [] ≡ t) (more : (t : TextReading) (c : ℕ) (cs : List ℕ) → read (Ok t) (c ∷ cs) ≡ read (step t c) cs)
    (failed : (why : Refusal) (cs : List ℕ) → read (Err why) cs ≡ Err why) where
  abbrev feed : TextReading → ℕ → Result TextReading Refusal
  feed t c = limited (step t c)

  -- one step, where what follows is known to agree
  stepped : (cs : List ℕ) → ((t : TextReading) → Agrees (fed_on feed (Ok t) cs) (read (Ok t) cs)) → (s : Result TextReading Refusal) → Agrees (fed_on feed (limited s) cs) (read s cs)
  stepped cs rest (Err why) = rw (err_fed feed why cs) (inr (failed why cs))
  stepped cs rest (Ok t) =
      elim (leb_tells 4294967296 (length t.reading.trace)) [
        | inl l ↦ rw (l.0, err_fed feed CounterFull cs) (inl refl)
        | inr l ↦ rw l.0 (rest t)
      ]

  agrees : (cs : List ℕ) (t : TextReading) → Agrees (fed_on feed (Ok t) cs) (read (Ok t) cs)
  agrees [] t = none (Ok t)
  agrees (c ∷ cs) t = rw (more t c cs) (stepped cs (agrees cs) (step t c))

text_err : (why : Refusal) (cs : List ℕ) → text_on (Err why) cs ≡ Err why
text_err why [] = refl
text_err why (c ∷ cs) = refl

pub text_is_read : TextIsRead
text_is_read text = agrees char_on text_on (λ t. refl) (λ t c cs. refl) text_err text text_start

-- raw bytes, the mode staying as it is
abbrev bytes_on : Result TextReading Refusal → List ℕ → Result TextReading Refusal
bytes_on (Ok t) bs = in_mode t.mode (read_on (Ok t.reading) bs)
bytes_on (Err why) bs = Err why

read_err : (why : Refusal) (bs : List ℕ) → read_on (Err why) bs ≡ Err why
read_err why [] = refl
read_err why (b ∷ bs) = refl

bytes_more : (mode : Mode) (r : Result Reading Refusal) (bs : List ℕ) → in_mode mode (read_on r bs) ≡ bytes_on (in_mode mode r) bs
bytes_more mode (Ok r) bs = refl
bytes_more mode (Err why) bs = ap (in_mode mode) (read_err why bs)

bytes_none : (t : Result TextReading Refusal) → bytes_on t [] ≡ t
bytes_none (Ok t) = refl
bytes_none (Err why) = refl

pub bytes_are_read : BytesAreRead
bytes_are_read bs = agrees byte_on bytes_on bytes_none (λ t b cs. bytes_more t.mode (with_byte t.reading b) cs) (λ why cs. refl) bs text_start
