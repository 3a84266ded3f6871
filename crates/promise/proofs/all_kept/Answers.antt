use Rattle.promise.proofs.all_kept.Goals as goal
use Rattle.promise.proofs.All.{all_kept}

pub returns : goal.returns
returns c = all_kept
