-- One memory: each read gives what the last write before it left. Assumes nothing.
use Rattle.std.specs.Prelude.{◌≡◌, ℕ, suc, ◌≤◌, cond, List, [], ◌∷◌, length, Some, nat_lt}
use Rattle.trace.specs.declared.Event.{Event}
use Rattle.trace.specs.Events.{reads, writes, value_of, is}
use Rattle.trace.specs.Order.{event_at}

-- what the last write left in a word, 0 at first
abbrev pub left : List Event → ℕ → ℕ
left [] w = 0
left (e ∷ es) w = cond (is w (writes e)) (value_of e) (left es w)

-- what came before place n
abbrev pub earlier : ℕ → List Event → List Event
earlier n [] = []
earlier n (e ∷ es) = cond (nat_lt (suc (length es)) n) (e ∷ es) (earlier n es)

-- the event at a place reads a word
pub record ReadAt (es : List Event) (n : ℕ) : Type 0 where
  pub event : Event
  pub word : ℕ
  pub there : event_at es n ≡ Some event
  pub is_read : reads event ≡ Some word

-- and gave what the last write before it left
abbrev pub Right : (es : List Event) (n : ℕ) → ReadAt es n → Type 0
Right es n r = value_of r.event ≡ left (earlier n es) r.word

-- ONE MEMORY
abbrev pub OneMemory : List Event → Type 0
OneMemory es = (n : ℕ) (r : ReadAt es n) → Right es n r

-- a read that gave something else
pub record Stale (es : List Event) (n : ℕ) : Type 0 where
  pub read : ReadAt es n
  pub wrong : Right es n read → ⊥

-- THE FIRST STALE READ
pub record FirstStale (es : List Event) (n : ℕ) : Type 0 where
  pub stale : Stale es n
  pub none_before : (m : ℕ) → Stale es m → n ≤ m
