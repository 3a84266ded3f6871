use Rattle.std.proofs.Common.{◌≡◌, ◌+◌, ◌<◌, ◌∷◌, drop, rules, arith}
use Rattle.race_check.proofs.ReadSteps.{none_at_first, left_is, one_more}
use Rattle.race_check.proofs.history.WordHistory.unordered_read.Goals as goal

pub loop-station-init : goal.loop-station-init
loop-station-init c =
    let zero : c.into_iter-station-iterator.result.a.start ≡ 0 = search rules in
    record { end = search rules; within = search rules; rest = search rules; latest = rw zero (none_at_first _ _ _) }

pub loop-station-preserved : goal.loop-station-preserved
loop-station-preserved c =
    let reads = c.args.self.now.reads in
    let j = c.loop-station.station-iterator.a.start in
    let read = c.in-Some.read.now in
    let left = c.next.new.self.b.rest.now in
    let next : c.next.new.self.a.start ≡ j + 1 = search rules in
    let station : c.in-Some.station ≡ j = search rules in
    let below : j < 16 = search rules in
    let is : read ∷ left ≡ drop j reads = search rules in
    record {
      end = search rules;
      within = search rules;
      rest = rw next (left_is reads j read left (omega arith) is);
      latest = rw next (one_more reads j read left (omega arith) is _ _ _ _ _ c.loop-station.invariant.latest (rw (← station) c.unordered.ensures) c.later-latest.ensures);
    }
