use Rattle.home_node.proofs.Once.{still_once}
use Rattle.home_node.proofs.locks.Locks.pass_on.Goals as goal

pub invariant_of-self-in-Some-clause-once : goal.invariant_of-self-in-Some-clause-once
invariant_of-self-in-Some-clause-once c = still_once c.args.claim.lock _ _ c.take_first.ensures.others c.args.self.now.once
