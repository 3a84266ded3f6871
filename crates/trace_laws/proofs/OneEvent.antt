-- An event in range comes back from its ten bytes, and what is read as an event is that event's bytes. Assumes nothing.
use Rattle.std.proofs.Common.{cond, ◌≡◌, ℕ, Bool, true, ◌&&◌, eqb, List, ◌∷◌, ◌++◌, length, Ok, Err, Result, refl, subst, arith}
use Rattle.std.proofs.lemmas.Bool.{eqb-true, cond_both}
use Rattle.std.proofs.lemmas.Bool.Decides.{nat_tests}
use Rattle.basics.specs.declared.Refusal.{Refusal}
use Rattle.basics.specs.declared.Refusal.TheVariants.{Malformed}
use Rattle.basics.specs.Numbers.{u32_bytes, u8_at, u32_at}
use Rattle.basics.specs.Sizes.{is_station}
use Rattle.basics.proofs.Numbers.{word_back, byte_written, word_written, word_last, word_fits}
use Rattle.trace.specs.declared.Event.{Event}
use Rattle.trace.specs.declared.Event.TheVariants.{Read, Write, Acquire, Release}
use Rattle.trace.specs.Bytes.{given, event_of, read_event}
use Rattle.trace_laws.specs.Codec.{Bytes, EventComesBack, TextOf, EventOneText}

-- tests of numbers
ruleset tests = (arith, nat_tests)

pub event_back : EventComesBack
event_back (Read s w v) h = rw (word_back w (grind tests), word_back v h.fits) (grind tests)
event_back (Write s w v) h = rw (word_back w (grind tests), word_back v h.fits) (grind tests)
event_back (Acquire s l) h = rw (word_back l (grind tests)) (grind tests)
event_back (Release s l) h = rw (word_back l (grind tests)) (grind tests)

-- a right result for these bytes: the event that they are the text of, or malformed
abbrev pub Told : List ℕ → Result Event Refusal → Type 0
Told bs (Ok e) = TextOf bs e
Told bs (Err why) = why ≡ Malformed

-- ten bytes are a station, a kind and two numbers
ten :
    (bs : List ℕ) (kind v : ℕ) → Bytes bs → length bs ≡ 10 → u8_at bs 1 ≡ kind → u32_at bs 6 ≡ v →
    bs ≡ u8_at bs 0 ∷ kind ∷ (u32_bytes (u32_at bs 2) ++ u32_bytes v)
ten bs kind v h l k e = grind (arith, word_last bs 6 h, word_written bs 2 h, byte_written)

module _ (bs : List ℕ) (h : Bytes bs) (l : length bs ≡ 10) (s : is_station (u8_at bs 0) ≡ true) where
  -- of this kind, or another
  kind_told :
      (kind : ℕ) (ok : Bool) (e : Event) (y : Result Event Refusal) → (u8_at bs 1 ≡ kind → ok ≡ true → TextOf bs e) → Told bs y →
      Told bs (cond (eqb (u8_at bs 1) kind) (given ok e) y)
  kind_told kind ok e y here other =
      cond_both (eqb (u8_at bs 1) kind) (given ok e) y (Told bs)
      (λ k. cond_both ok (Ok e) _ (Told bs) (here (eqb-true _ kind k)) (λ _. refl)) (λ _. other)

  kinds_told : Told bs (event_of (u8_at bs 0) (u8_at bs 1) (u32_at bs 2) (u32_at bs 6))
  kinds_told =
      let fits = word_fits bs 6 h in
      kind_told 1 _ _ _ (λ k t. let text = ten bs 1 _ h l k refl in grind tests)
      (kind_told 2 _ _ _ (λ k t. let text = ten bs 2 _ h l k refl in grind tests)
      (kind_told 3 _ _ _ (λ k t. let text = ten bs 3 0 h l k (grind tests) in grind tests)
      (kind_told 4 _ _ _ (λ k t. let text = ten bs 4 0 h l k (grind tests) in grind tests) refl)))

pub event_told : (bs : List ℕ) → Bytes bs → Told bs (read_event bs)
event_told bs h =
    cond_both (eqb (length bs) 10 && is_station (u8_at bs 0)) _ _ (Told bs)
    (λ t. kinds_told bs h (grind tests) (grind tests)) (λ _. refl)

pub event_text : EventOneText
event_text bs h e r = subst (Told bs) r (event_told bs h)
