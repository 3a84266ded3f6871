use Rattle.std.proofs.Common.{sym, ◌∙◌}
use Rattle.promise.proofs.Ranges.{known_read}
use Rattle.home_node.proofs.Onward.{as_it_was, reached_again, promised, not_read}
use Rattle.home_node.proofs.node.Home.receive.Goals as goal

pub hear-requires : goal.hear-requires
hear-requires c = record { known = known_read c.args.bytes.now _ (sym c.in_ok-message.was ∙ c.decode.ensures) }

pub invariant_of-self : goal.invariant_of-self
invariant_of-self c =
    record { reached = reached_again c.hear.result _ _ c.args.bytes.now _ (sym c.in_ok-message.was ∙ c.decode.ensures) c.hear.ensures c.args.self.now.reached }

pub returns-clause-unchanged : goal.returns-clause-unchanged
returns-clause-unchanged c = as_it_was c.hear.result _ _ c.args.bytes.now _ (sym c.in_ok-message.was ∙ c.decode.ensures) c.hear.ensures

pub returns-clause-promises : goal.returns-clause-promises
returns-clause-promises c =
    promised c.hear.result _ _ c.args.bytes.now _ (sym c.in_ok-message.was ∙ c.decode.ensures) c.hear.ensures c.args.self.now.reached

pub returns-in_err-message-clause-promises : goal.returns-in_err-message-clause-promises
returns-in_err-message-clause-promises c = not_read _ c.args.bytes.now _ (sym c.in_err-message.was ∙ c.decode.ensures) c.args.self.now.reached
