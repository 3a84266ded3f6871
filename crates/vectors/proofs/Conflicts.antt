-- Two events conflict in one of two ways: the first writes a word that the second reads or writes, or it reads one that the second writes. Assumes nothing.
use Rattle.std.proofs.Common.{◌≡◌, ℕ, true, T, Some, None, Option, arith}
use Rattle.std.proofs.lemmas.Bool.Decides.{nat_tests}
use Rattle.trace.specs.declared.Event.{Event}
use Rattle.trace.specs.declared.Event.TheVariants.{Read, Write}
use Rattle.trace.specs.Events.{reads, writes, is}
use Rattle.trace.specs.Order.{Conflict}
use Rattle.vectors.specs.Check.{either}

pub data Meets (f e : Event) : Type 0 where
  on_write : (w : ℕ) → writes f ≡ Some w → either (reads e) (writes e) ≡ Some w → Meets f e
  on_read : (w : ℕ) → reads f ≡ Some w → writes e ≡ Some w → Meets f e

-- a word that an option holds, and the tests that ask for it
is_some : (w : ℕ) (o : Option ℕ) → T (is w o) → o ≡ Some w
is_some w None h = absurd h
is_some w (Some x) h = grind (arith, nat_tests)

some_is : (w : ℕ) (o : Option ℕ) → o ≡ Some w → is w o ≡ true
some_is w o h = rw h (grind (arith, nat_tests))

ruleset asked = (arith, nat_tests, some_is)

pub meets : (f e : Event) → Conflict f e → Meets f e
meets (Read s x v) (Write t y u) c = on_read c.word (grind asked) (grind asked)
meets (Write s x v) e c = on_write c.word (grind asked) (grind asked)
meets f e c = absurd (grind asked)

pub met : (f e : Event) → Meets f e → Conflict f e
met f e (on_write w a b) = record { word = w; first = grind asked; second = grind asked; written = grind asked }
met f e (on_read w a b) = record { word = w; first = grind asked; second = grind asked; written = grind asked }

pub two_writes : (f g : Event) (w : ℕ) → writes f ≡ Some w → writes g ≡ Some w → Conflict f g
two_writes f g w a b = record { word = w; first = grind asked; second = grind asked; written = grind asked }
