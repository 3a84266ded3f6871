use Rattle.std.proofs.Common.{refl}
use Rattle.home_node.proofs.Tables.{blank}
use Rattle.home_node.proofs.node.state.State.new.Goals as goal

pub returns : goal.returns
returns c = blank (c.in_ok-vec.ensures.items_if_clones_equal (λ y e. e)) refl c.in_ok-new.ensures
