use Rattle.std.proofs.Common.{ap}
use Rattle.model.specs.Home.{locked}
use Rattle.home_node.specs.Tables.{state_of}
use Rattle.home_node.proofs.node.state.State.hear.Goals as goal

pub returns-in-LockReleased : goal.returns-in-LockReleased
returns-in-LockReleased c = rw c.in-LockReleased.is (ap (locked (state_of c.args.self.now)) c.release.ensures)
