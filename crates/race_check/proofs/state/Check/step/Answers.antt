use Rattle.std.proofs.Common.{◌≡◌, true, rules}
use Rattle.trace.specs.Events.{is_known}
use Rattle.race_check.proofs.Feeding.{led_on}
use Rattle.race_check.proofs.state.Check.step.Goals as goal

pub returns-clause-fed : goal.returns-clause-fed
returns-clause-fed c = let known : is_known c.args.event ≡ true = search rules in led_on _ _ c.args.event known c.feed.ensures
