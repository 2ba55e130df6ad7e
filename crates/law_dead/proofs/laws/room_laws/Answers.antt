use Rattle.law_dead.proofs.Room.{cleared_keeps, cleared_living, holder_stays, key_tests_stay}
use Rattle.law_dead.proofs.laws.room_laws.Goals as goal

pub returns-clause-tests : goal.returns-clause-tests
returns-clause-tests c = key_tests_stay

pub returns-clause-living : goal.returns-clause-living
returns-clause-living c = cleared_living

pub returns-clause-full : goal.returns-clause-full
returns-clause-full c = cleared_keeps

pub returns-clause-held : goal.returns-clause-held
returns-clause-held c = holder_stays
