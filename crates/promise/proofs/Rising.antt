-- What one more message adds to the numbers that a station has sent and to its last page request. Assumes nothing.
use Rattle.std.proofs.Common.{◌≡◌, ℕ, ◌+◌, ◌-◌, List, [], ◌∷◌, ◌++◌, Some, None, Option, arith}
use Rattle.std.proofs.lemmas.List.FromFn.{map-range_with_len_more}
use Rattle.std.proofs.lemmas.List.{append-nil, map-id}
use Rattle.std.proofs.lemmas.List.Concat.{flat_map-append}
use Rattle.std.proofs.lemmas.List.Sums.{fold_push}
use Rattle.std.specs.List.{range_with_len}
use Rattle.model.specs.declared.Message.{Message}
use Rattle.model.specs.declared.Message.TheVariants.{PageRequest}
use Rattle.model.specs.declared.Awaited.{Awaited}
use Rattle.model.specs.declared.Awaited.TheVariants.{Page}
use Rattle.promise.specs.Station.{Rising, fetch_of, last_fetch}

-- one more number
pub counting_more : (a n j : ℕ) → a + n ≡ j → range_with_len a (n + 1) ≡ range_with_len a n ++ j ∷ []
counting_more a n j e = simp map-id at (map-range_with_len_more (λ x. x) a n j e)

-- before anything was sent
pub rising_none : (numbers : Message → List ℕ) (from : ℕ) → Rising numbers from from []
rising_none numbers from = let e : from - from ≡ 0 = omega arith in record { started = omega arith; each = rw e }

module _ {numbers : Message → List ℕ} {from up_to : ℕ} {sent : List Message} (k : Rising numbers from up_to sent) where
  -- a message without a number of this kind
  pub rising_same : (m : Message) → numbers m ≡ [] → Rising numbers from up_to (sent ++ m ∷ [])
  rising_same m none = record { started = k.started; each = grind (arith, append-nil, flat_map-append) }

  -- a message with the next number
  pub rising_next : (m : Message) → numbers m ≡ (up_to + 1) ∷ [] → Rising numbers from (up_to + 1) (sent ++ m ∷ [])
  rising_next m next =
      let one_more : (up_to + 1) - from ≡ (up_to - from) + 1 = omega arith in
      let counting = counting_more (from + 1) (up_to - from) (up_to + 1) in
      record { started = omega arith; each = grind (arith, append-nil, flat_map-append) }

-- If it waits for a page, its last page request asked for that page with that number.
abbrev pub Asked : ℕ → List Message → Option Awaited → Type 0
Asked s sent (Some (Page p n)) = last_fetch None sent ≡ Some (PageRequest s p n)
Asked s sent a = Unit

pub asked_same : (s : ℕ) (sent : List Message) (m : Message) (a : Option Awaited) → fetch_of m (last_fetch None sent) ≡ last_fetch None sent → Asked s sent a → Asked s (sent ++ m ∷ []) a
asked_same s sent m (Some (Page p n)) e k = rw (fold_push, e) k
asked_same s sent m a e k = tt

-- what one more message does to all this
pub ruleset telling = (rising_same, rising_next, asked_same, fold_push)
