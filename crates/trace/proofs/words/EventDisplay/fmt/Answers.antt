use Rattle.std.proofs.Common.{rules}
use Rattle.trace.proofs.words.EventDisplay.fmt.Goals as goal

-- the longest words: search alone does not go through them
pub returns-in-Release-clause-writes : goal.returns-in-Release-clause-writes
returns-in-Release-clause-writes g c = rw c.in-Release.is search rules
