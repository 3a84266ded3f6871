-- The kinds of messages and their numbers. Assumes nothing.
use Rattle.std.specs.Prelude.{◌≡◌, ℕ, ◌<◌, ◌⊎◌, Result, MatchResult}
use Rattle.basics.specs.declared.Refusal.{Refusal}
use Rattle.basics.specs.declared.Refusal.TheVariants.{Malformed}
use Rattle.model.specs.declared.Message.{Message}
use Rattle.model.specs.declared.Message.TheVariants as messages
use Rattle.wire.specs.declared.kind.Kind.{Kind}
use Rattle.wire.specs.declared.kind.Kind.TheVariants.{PageRequest, PageReply, Diff, DiffApplied, LockRequest, LockGranted, LockReleased, ReleaseTaken}

-- the first byte of a message of this kind
abbrev pub number_of : Kind → ℕ
number_of PageRequest = 1
number_of PageReply = 2
number_of Diff = 3
number_of DiffApplied = 4
number_of LockRequest = 5
number_of LockGranted = 6
number_of LockReleased = 7
number_of ReleaseTaken = 8

abbrev pub kind_of : Message → Kind
kind_of (messages.PageRequest s p n) = PageRequest
kind_of (messages.PageReply s p n ws) = PageReply
kind_of (messages.Diff s n p cs) = Diff
kind_of (messages.DiffApplied s n) = DiffApplied
kind_of (messages.LockRequest s l n) = LockRequest
kind_of (messages.LockGranted s l n) = LockGranted
kind_of (messages.LockReleased s l n) = LockReleased
kind_of (messages.ReleaseTaken s l n) = ReleaseTaken

-- the kind with this number, or malformed where there is none
abbrev pub KindOf : ℕ → Result Kind Refusal → Type 0
KindOf byte r = MatchResult r (λ kind. number_of kind ≡ byte) (λ why. (why ≡ Malformed) × ((byte ≡ 0) ⊎ (8 < byte)))

-- The message of a kind that speaks of a lock. No other kind is read so.
abbrev pub on_lock : Kind → (s l n : ℕ) → Message
on_lock LockRequest = messages.LockRequest
on_lock LockGranted = messages.LockGranted
on_lock LockReleased = messages.LockReleased
on_lock kind = messages.ReleaseTaken
