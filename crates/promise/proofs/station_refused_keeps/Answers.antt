use Rattle.promise.proofs.station_refused_keeps.Goals as goal
use Rattle.promise.proofs.StationSteps.{station_refused_keeps}

pub returns : goal.returns
returns c = station_refused_keeps
