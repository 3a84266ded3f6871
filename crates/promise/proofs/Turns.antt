-- One lock's turns, on the lists of its requests, releases and grants alone: what each step does to them, and that the grants
-- go in turn. Assumes nothing.
use Rattle.std.proofs.Common.{◌≡◌, ◌+◌, min, List, [], ◌∷◌, ◌++◌, length, take, Some, None, Option, sym, refl, ap, arith}
use Rattle.std.proofs.lemmas.List.{append-nil, append_assoc, length-append, take_at}
use Rattle.std.specs.Option.{option_to_list}
use Rattle.model.specs.declared.Holder.{Holder}

-- lists joined
ruleset joined = (arith, append-nil, append_assoc)

-- asked, back, grants: the requests, the releases and the grants; queue: those who wait
pub record Turn (asked back grants : List Holder) (holder : Option Holder) (queue : List Holder) : Type 0 where
  -- all that were granted have given it back, but for the holder
  pub one : grants ≡ back ++ option_to_list holder
  -- all that asked were granted, but for the queue
  pub line : asked ≡ grants ++ queue
  -- nobody waits for a lock that nobody holds
  pub idle : holder ≡ None → queue ≡ []

module _ {asked back grants queue : List Holder} where
  -- a free lock is granted at once
  pub turn_granted : (x : Holder) → Turn asked back grants None queue → Turn (asked ++ (x ∷ [])) (back ++ []) (grants ++ (x ∷ [])) (Some x) queue
  turn_granted x t = grind joined

  -- who asks for a lock that is held waits behind the others
  pub turn_queued : (y x : Holder) → Turn asked back grants (Some y) queue → Turn (asked ++ (x ∷ [])) (back ++ []) (grants ++ []) (Some y) (queue ++ (x ∷ []))
  turn_queued y x t = grind joined

  -- the lock goes to the first that waits
  pub turn_passed : (y x : Holder) → Turn asked back grants (Some y) (x ∷ queue) → Turn (asked ++ []) (back ++ (y ∷ [])) (grants ++ (x ∷ [])) (Some x) queue
  turn_passed y x t = grind joined

  -- and nothing else changes it
  pub turn_same : {o : Option Holder} → Turn asked back grants o queue → Turn (asked ++ []) (back ++ []) (grants ++ []) o queue
  turn_same t = simp append-nil t

-- a lock that nobody waits for is free when it is given back
pub turn_freed : {asked back grants : List Holder} (y : Holder) → Turn asked back grants (Some y) [] → Turn (asked ++ []) (back ++ (y ∷ [])) (grants ++ []) None []
turn_freed y t = grind joined

-- The grants are the beginning of the requests, as many as there are requests and one more than there are releases.
pub turn_taken :
    {asked back grants queue : List Holder} {o : Option Holder} → Turn asked back grants o queue → grants ≡ take (min (length asked) (length back + 1)) asked
turn_taken {back = back} {grants} {queue} {o} t = rw t.line (sym (take_at grants queue _ (many o t.one t.idle)))
  where
    many : (v : Option Holder) → grants ≡ back ++ option_to_list v → (v ≡ None → queue ≡ []) → length grants ≡ min (length (grants ++ queue)) (length back + 1)
    many None one idle = omega (arith, length-append grants queue, simp length-append at (ap length one), ap length (idle refl))
    many (Some y) one idle = omega (arith, length-append grants queue, simp length-append at (ap length one))
