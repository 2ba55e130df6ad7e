use Rattle.law_dead.proofs.Entries.{dead_has, is_dead_one}
use Rattle.law_dead.proofs.laws.entry_laws.Goals as goal

pub returns-clause-has : goal.returns-clause-has
returns-clause-has c = λ h xids blocks table key t d stand first last dead works. dead_has h xids blocks table key stand first last t d dead works

pub returns-clause-is_dead : goal.returns-clause-is_dead
returns-clause-is_dead c = λ h xids blocks table key i stand first last runs living_not. is_dead_one h xids blocks table key stand first last i runs living_not
