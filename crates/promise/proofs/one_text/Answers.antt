use Rattle.promise.proofs.one_text.Goals as goal
use Rattle.promise.proofs.Texts.{one_text}

pub returns : goal.returns
returns c = one_text
