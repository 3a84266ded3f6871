use Rattle.std.proofs.Common.{[]}
use Rattle.race_check.proofs.Starting.{started}
use Rattle.race_check.proofs.state.Check.new.Goals as goal

pub invariant_of-result-clause-reached : goal.invariant_of-result-clause-reached
invariant_of-result-clause-reached c = ∣ ([], started _ c.new-2.result c.new.result (c.in_ok-vec.ensures.items_if_clones_equal (λ y e. e)) c.new-2.ensures c.new.ensures) ∣₁

pub returns : goal.returns
returns c = started _ c.new-2.result c.new.result (c.in_ok-vec.ensures.items_if_clones_equal (λ y e. e)) c.new-2.ensures c.new.ensures
