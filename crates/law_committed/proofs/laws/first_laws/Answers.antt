use Rattle.law_committed.proofs.Cells.{cells_show, ends_committed, is_one}
use Rattle.law_committed.proofs.laws.first_laws.Goals as goal
use Rattle.law_home.specs.Walk.{Walk}

pub returns-clause-ends : goal.returns-clause-ends
returns-clause-ends c env w base rows list lives b falls stands = ends_committed env (Walk env base rows list) stands.m lives b falls stands.tree

pub returns-clause-one : goal.returns-clause-one
returns-clause-one c env w base rows list lives b falls stands = is_one env (Walk env base rows list) stands.m lives b falls stands.distinct stands.tree

pub returns-clause-rows : goal.returns-clause-rows
returns-clause-rows c env w base rows list lives b falls stands = cells_show env base rows list stands.m lives b falls stands.distinct stands.tree
