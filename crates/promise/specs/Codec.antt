-- What is promised of messages as bytes. Assumes nothing.
use Rattle.std.specs.Prelude.{◌≡◌, ℕ, ◌<◌, List, ◌∷◌, ◌++◌, length, take, Some, None, Ok, Err, Option}
use Rattle.std.specs.List.{AllByRecursion}
use Rattle.model.specs.declared.Message.{Message}
use Rattle.model.specs.declared.Message.TheVariants.{PageRequest, PageReply, Diff, DiffApplied, LockRequest, LockGranted, LockReleased, ReleaseTaken}
use Rattle.basics.specs.declared.Refusal.TheVariants.{Malformed}
use Rattle.basics.specs.Numbers.{Word}
use Rattle.model.specs.Bytes.{bytes_of, parse}

abbrev pub Change : Option ℕ → Type 0
Change None = Unit {0}
Change (Some v) = Word v

abbrev pub LockFits : (s l n : ℕ) → Type 0
LockFits s l n = (s < 16) × (l < 64) × Word n

-- a message in range
abbrev pub InRange : Message → Type 0
InRange (PageRequest s p n) = (s < 16) × (p < 1024) × Word n
InRange (PageReply s p n ws) = (s < 16) × (p < 1024) × Word n × (length ws ≡ 64) × AllByRecursion Word ws
InRange (Diff s n p cs) = (s < 16) × Word n × (p < 1024) × (length cs ≡ 64) × AllByRecursion Change cs
InRange (DiffApplied s n) = (s < 16) × Word n
InRange (LockRequest s l n) = LockFits s l n
InRange (LockGranted s l n) = LockFits s l n
InRange (LockReleased s l n) = LockFits s l n
InRange (ReleaseTaken s l n) = LockFits s l n

-- Every message in range comes back from its bytes.
abbrev pub ComesBack : Type 0
ComesBack = (m : Message) → InRange m → parse (bytes_of m) ≡ Ok m

-- One text for each message: what is read as a message is that message's bytes, and the message is in range.
abbrev pub OneText : Type 0
OneText = (bytes : List ℕ) (m : Message) → AllByRecursion (λ b. b < 256) bytes → parse bytes ≡ Ok m → (bytes_of m ≡ bytes) × InRange m

-- A message that was cut is refused, wherever it was cut.
abbrev pub CutRefused : Type 0
CutRefused = (m : Message) (k : ℕ) → InRange m → k < length (bytes_of m) → parse (take k (bytes_of m)) ≡ Err Malformed

-- A message with something behind it is refused.
abbrev pub LongerRefused : Type 0
LongerRefused = (m : Message) (b : ℕ) (more : List ℕ) → InRange m → parse (bytes_of m ++ (b ∷ more)) ≡ Err Malformed
