use Rattle.std.proofs.Common.{rules, eqb}
use borrow.Author.Tests.{tests}
use Rattle.std.proofs.lemmas.Iterator.{YieldsList-from_slice}
use Rattle.std.proofs.lemmas.Iterator.Search.{position_from_yields_List}
use Rattle.model.specs.declared.Waiter.{Waiter}
use Rattle.home_node.proofs.Lines.{placed}
use Rattle.home_node.proofs.locks.line.place_of.Goals as goal

pub returns : goal.returns
returns c =
    let e = position_from_yields_List (λ (w : Waiter). eqb w.lock c.args.lock) _ _ c.position.result c.position.ensures.ran (YieldsList-from_slice c.args.waiting.now cc) (λ x b q k. search (rules, tests)) in
    rw e (placed c.args.lock c.args.waiting.now)
