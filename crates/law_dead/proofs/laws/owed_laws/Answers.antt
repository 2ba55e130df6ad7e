use Rattle.law_dead.proofs.Leaving.{owes_same}
use Rattle.law_dead.proofs.Owing.{count_calm, home_calm, owes_none, segment_calm, sweep_calm}
use Rattle.law_dead.proofs.laws.owed_laws.Goals as goal

pub returns-clause-none : goal.returns-clause-none
returns-clause-none c = λ h t none within. owes_none h none t within

pub returns-clause-home : goal.returns-clause-home
returns-clause-home c = home_calm

pub returns-clause-segment : goal.returns-clause-segment
returns-clause-segment c = segment_calm

pub returns-clause-sweep : goal.returns-clause-sweep
returns-clause-sweep c = λ h k none. (sweep_calm h k none, count_calm h k none)

pub returns-clause-same : goal.returns-clause-same
returns-clause-same c = λ h h2 shape slots own. owes_same h h2 shape (record { slots = slots; own = own })
