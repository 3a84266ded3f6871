use Rattle.std.proofs.Common.{[], sym, ◌∙◌}
use Rattle.home_node.proofs.Onward.{at_first}
use Rattle.home_node.proofs.node.Home.new.Goals as goal

pub invariant_of-result : goal.invariant_of-result
invariant_of-result c = record { reached = ∣ ([], c.in_ok-new.ensures ∙ sym at_first) ∣₁ }
