use Rattle.std.proofs.Common.{rules}
use Rattle.trace_text.specs.Text.{byte_on}
use Rattle.judging.proofs.judge.Judge.bytes.Goals as goal

pub returns : goal.returns
returns c = c.each.ensures byte_on (search rules)
