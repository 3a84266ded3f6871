-- A home of the code as the home of the rules, and what stands on each call. Assumes nothing.
use Rattle.std.specs.Prelude.{◌≡◌, ℕ, List, ◌∷◌}
use Rattle.model.specs.Home.{HomeState, home_after}
use Rattle.promise.specs.Home.{Kept}
use Rattle.home_node.specs.declared.node.Home.{Home}
use Rattle.home_node.specs.Tables.{state_of}

abbrev pub home_of : Home → HomeState
home_of h = state_of h.state

-- All that came in before led to the one state and, with these bytes, to the other; and all promises are kept then.
pub record Onward (before after : HomeState) (bytes : List ℕ) (seen : List (List ℕ)) : Type 0 where
  pub led : before ≡ home_after seen
  pub leads : after ≡ home_after (bytes ∷ seen)
  pub kept : Kept (bytes ∷ seen)
