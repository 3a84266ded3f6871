-- The memory check: it says none of traces with one memory alone, and else the first stale read. Assumes nothing.
use Rattle.std.proofs.Common.{eqb, ◌≡◌, ℕ, suc, cond, List, [], ◌∷◌, length, Some, None, Option, refl, arith}
use Rattle.std.proofs.lemmas.Bool.Decides.{nat_tests}
use Rattle.std.proofs.lemmas.Bool.{cond_both}
use Rattle.trace.specs.declared.Event.{Event}
use Rattle.trace.specs.Events.{by, reads, writes, value_of, is}
use Rattle.trace.specs.Memory.{left, Stale, OneMemory, FirstStale}
use Rattle.trace.proofs.Places.{earlier_more, at_last, at_cases, earlier_last}
use Rattle.trace.proofs.OneMore.{read_less, stale_less, first_stale_more}
use Rattle.vectors.specs.Check.{changed, either, stale_with, access_of, after}
use Rattle.vectors.specs.Laws.{StaleSaid}
use Rattle.vectors.proofs.Latest.{places_are}

-- the table of writes holds what the last write left
value_on :
    (es : List Event) (e : Event) (w : ℕ) (o : Option ℕ) → ((after es).write w).access.value ≡ left es w →
    (changed o (λ _. record { station = by e; access = access_of (after es) e }) (after es).write w).access.value ≡ cond (is w o) (value_of e) (left es w)
value_on es e w None h = h
value_on es e w (Some x) h = grind (arith, nat_tests)

value_left : (es : List Event) (w : ℕ) → ((after es).write w).access.value ≡ left es w
value_left [] w = refl
value_left (e ∷ es) w = value_on es e w (writes e) (value_left es w)

module _ (es : List Event) (e : Event) where
  -- a new event that reads nothing, or what was left, keeps one memory
  memory_more : OneMemory es → ((w : ℕ) → reads e ≡ Some w → value_of e ≡ left es w) → OneMemory (e ∷ es)
  memory_more one next n r =
      let k = at_cases es e n r.there in
      let last = earlier_last es e n in
      let old = earlier_more es e n in
      grind (arith, next r.word, one n, read_less e es n)

  none_stale : OneMemory es → (m : ℕ) → Stale es m → ⊥
  none_stale one m s = s.wrong (one m s.read)

  -- one that reads something else is the first stale read
  first_new : OneMemory es → (w : ℕ) → reads e ≡ Some w → (value_of e ≡ left es w → ⊥) → FirstStale (e ∷ es) (suc (length es))
  first_new one w h other =
      record {
        stale =
            record {
              read = record { event = e; word = w; there = at_last es e; is_read = h };
              wrong = rw (earlier_last es e (suc (length es)) refl) other;
            };
        none_before = λ m s. let k = at_cases es e m s.read.there in grind (arith, none_stale one m, stale_less e es m);
      }

  stale_next : OneMemory es → (o : Option ℕ) → reads e ≡ o → StaleSaid (e ∷ es) (stale_with (after es) e o)
  stale_next one None h = memory_more one (λ w k. absurd cc)
  stale_next one (Some w) h =
      let last = value_left es w in
      cond_both (eqb (value_of e) ((after es).write w).access.value) _ _ (StaleSaid (e ∷ es))
      (λ t. memory_more one (λ x k. grind (arith, nat_tests))) (λ t. rw (places_are es) (first_new one w h (λ k. grind (arith, nat_tests))))

  stale_on : (r : Option ℕ) → StaleSaid es r → StaleSaid (e ∷ es) (either r (stale_with (after es) e (reads e)))
  stale_on None one = stale_next one (reads e) refl
  stale_on (Some n) first = first_stale_more e es n first

pub stale_said : (es : List Event) → StaleSaid es (after es).stale
stale_said [] = λ n r. absurd cc
stale_said (e ∷ es) = stale_on es e (after es).stale (stale_said es)
