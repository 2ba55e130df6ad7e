use Rattle.law_committed.proofs.Files.{at_one, home_shows, sound_committed}
use Rattle.law_committed.proofs.Numbers.{standing_falls}
use Rattle.law_committed.proofs.Same.{committed_one}
use Rattle.law_committed.proofs.laws.committed_laws.Goals as goal

pub returns-clause-falls : goal.returns-clause-falls
returns-clause-falls c = standing_falls

pub returns-clause-homes : goal.returns-clause-homes
returns-clause-homes c = home_shows

pub returns-clause-sound : goal.returns-clause-sound
returns-clause-sound c = sound_committed

pub returns-clause-cells : goal.returns-clause-cells
returns-clause-cells c = at_one

pub returns-clause-rows_one : goal.returns-clause-rows_one
returns-clause-rows_one c = committed_one
