-- What a message names is there: its station, its page, its lock. Assumes nothing.
use Rattle.std.specs.Prelude.{◌<◌}
use Rattle.model.specs.declared.Message.{Message}
use Rattle.model.specs.declared.Message.TheVariants.{PageRequest, PageReply, Diff, DiffApplied, LockRequest, LockGranted, LockReleased, ReleaseTaken}

abbrev pub Known : Message → Type 0
Known (PageRequest s p n) = (s < 16) × (p < 1024)
Known (PageReply s p n ws) = (s < 16) × (p < 1024)
Known (Diff s n p cs) = (s < 16) × (p < 1024)
Known (DiffApplied s n) = s < 16
Known (LockRequest s l n) = (s < 16) × (l < 64)
Known (LockGranted s l n) = (s < 16) × (l < 64)
Known (LockReleased s l n) = (s < 16) × (l < 64)
Known (ReleaseTaken s l n) = (s < 16) × (l < 64)
