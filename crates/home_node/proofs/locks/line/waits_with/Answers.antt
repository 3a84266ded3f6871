use Rattle.std.proofs.Common.{rules, ◌≡◌, eqb, ◌∙◌}
use borrow.Author.Tests.{tests}
use Rattle.std.specs.Option.{option_map}
use Rattle.std.proofs.lemmas.Iterator.{YieldsList-from_slice}
use Rattle.std.proofs.lemmas.Iterator.Search.{find_from_yields_List}
use Rattle.model.specs.declared.Waiter.{Waiter}
use Rattle.home_node.proofs.Lines.{number_found}
use Rattle.home_node.proofs.locks.line.waits_with.Goals as goal

pub returns : goal.returns
returns c =
    let f = find_from_yields_List (λ (w : Waiter). eqb w.station c.args.station) _ _ c.find.result c.find.ensures.ran (YieldsList-from_slice c.args.waiting.now cc) (λ x b q k. search (rules, tests)) in
    let e : c.map.result ≡ option_map (λ w. w.now.number) c.find.result = search (rules, tests) in
    e ∙ number_found (λ w. w.now) c.find.result c.args.station c.args.waiting.now f
