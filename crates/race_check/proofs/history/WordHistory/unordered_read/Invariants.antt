use Rattle.std.proofs.Common.{◌≡◌, ◌≤◌, drop}
use Rattle.vectors.specs.Check.{unordered_read}
use Rattle.race_check.specs.Rows.{vector_of, accesses_of}
use Rattle.race_check.proofs.history.WordHistory.unordered_read.Given as goal

abbrev pub invariant-loop-station : goal.invariant-loop-station
invariant-loop-station l =
    let at = l.station-iterator.a.start in
    record {
      end : l.station-iterator.a.end ≡ 16;
      within : at ≤ 16;
      rest : l.station-iterator.b.rest.now ≡ drop at l.self.reads;
      latest : l.latest ≡ unordered_read at (vector_of l.before) l.word (accesses_of l.self.reads);
    }
