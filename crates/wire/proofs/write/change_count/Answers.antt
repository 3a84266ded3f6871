use Rattle.std.proofs.Common.{rules, is_some, ◌∙◌}
use borrow.Author.Tests.{tests}
use Rattle.std.proofs.lemmas.Iterator.{YieldsList-from_slice}
use Rattle.std.proofs.lemmas.Iterator.Consumers.{count_from_yields_List, YieldsList-from_filter}
use Rattle.wire.proofs.Written.{counted}
use Rattle.wire.proofs.write.change_count.Goals as goal

pub returns : goal.returns
returns c =
    count_from_yields_List c.filter.result c.count.result c.count.ensures.ran (YieldsList-from_filter _ is_some (YieldsList-from_slice c.args.changes.now cc) (cc) (λ x b q k. search (rules, tests))) ∙
    counted c.args.changes.now
