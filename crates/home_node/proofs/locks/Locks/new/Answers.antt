use Rattle.std.proofs.Common.{None}
use Rattle.basics.proofs.Tables.{filled}
use Rattle.home_node.proofs.Tables.{same_table}
use Rattle.home_node.proofs.locks.Locks.new.Goals as goal

pub returns : goal.returns
returns c = same_table (filled 0 16) (filled None 64) c.in_ok-with_capacity.ensures.items
