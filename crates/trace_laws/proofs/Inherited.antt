-- What is said of a trace is said of each of its beginnings, by as many events more as came then. Assumes nothing.
use Rattle.std.proofs.Common.{rules, ◌≤◌, List, [], ◌∷◌, ◌++◌, length, arith, length-append}
use Rattle.trace.specs.declared.Event.{Event}
use Rattle.trace.proofs.OneMore.{free_less, race_less, race_more, memory_less, first_stale_less, first_stale_more}
use Rattle.trace_laws.specs.Beginnings.{Beginnings}

pub inherited : Beginnings
inherited [] es = search rules
inherited (g ∷ later) es =
    let i = inherited later es in
    let mid : List Event = later ++ es in
    let long : length es ≤ length mid = simp length-append (omega arith) in
    record {
      race_free = λ f. i.race_free (free_less g mid f);
      race_there = λ a b h f. i.race_there a b h (race_less g mid a b (omega arith) f);
      race_stays = λ a b f. race_more g mid a b (i.race_stays a b f);
      one_memory = λ o. i.one_memory (memory_less g mid o);
      stale_there = λ n h f. i.stale_there n h (first_stale_less g mid n (omega arith) f);
      stale_stays = λ n f. first_stale_more g mid n (i.stale_stays n f);
    }
