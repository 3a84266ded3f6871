use Rattle.std.proofs.Common.{ap, ◌∙◌, arith}
use Rattle.trace.specs.Events.{releases}
use Rattle.race_check.specs.States.{clocks_of}
use Rattle.race_check.proofs.Ticks.{no_release, lock_there, station_counted, lock_counted}
use Rattle.race_check.proofs.clocks.VectorClocks.step.Goals.{in-Release, in_default}
use Rattle.race_check.proofs.clocks.VectorClocks.step.Goals as goal

pub returns-clause-clocks : goal.returns-clause-clocks
returns-clause-clocks c =
    elim c.match-event.branch [
      | in-Release w ↦
          let k = w.in-Release in
          ap clocks_of w.self-is ∙
          lock_counted c.args.self.now c.args.event _ c.before-after.result c.station_of-station.ensures c.requires.known (omega arith) c.before-after.ensures (omega arith)
          k.lock w.greatest.result (ap releases k.is) (omega (arith, lock_there _ _ _ k.is c.requires.known)) w.greatest.ensures
      | in_default w ↦
          ap clocks_of w.self-is ∙
          station_counted c.args.self.now c.args.event _ c.before-after.result c.station_of-station.ensures c.requires.known (omega arith) c.before-after.ensures (omega arith)
          (no_release c.args.event w.in_default.not-Release)
    ]
