use Rattle.std.proofs.Common.{rules}
use Rattle.trace_text.specs.Text.{char_on}
use Rattle.judging.proofs.judge.Judge.text.Goals as goal

pub returns : goal.returns
returns c = c.each.ensures char_on (search rules)
