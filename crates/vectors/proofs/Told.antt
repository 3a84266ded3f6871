-- The check tells of each trace its first race and its first stale read, or that there is none. Assumes nothing.
use Rattle.vectors.specs.Laws.{CheckTells}
use Rattle.vectors.proofs.Races.{race_said}
use Rattle.vectors.proofs.Stale.{stale_said}

pub check_tells : CheckTells
check_tells es known = record { race = race_said es known; stale = stale_said es }
