use Rattle.std.proofs.Common.{refl}
use Rattle.rb_segment.proofs.Commits.{commit_leaves_records}
use Rattle.rb_segment.proofs.Records.{added_found, added_others, turned_drops, turned_leaves, turned_ring, added_ring}
use Rattle.rb_segment.proofs.laws.records_told.Goals as goal

pub returns-clause-added : goal.returns-clause-added
returns-clause-added c = λ s i address touched r place. added_found i address touched r s place.ring place.few place.undo

pub returns-clause-added_others : goal.returns-clause-added_others
returns-clause-added_others c = λ s i address touched r place k le. added_others i address touched r s place.ring place.few place.undo k le

pub returns-clause-turned : goal.returns-clause-turned
returns-clause-turned c = λ s e ring may k le was. turned_drops e s ring may k le was

pub returns-clause-turned_others : goal.returns-clause-turned_others
returns-clause-turned_others c = λ s e ring may k le ne. turned_leaves e s ring may k le ne

pub returns-clause-others : goal.returns-clause-others
returns-clause-others c = λ i n previous. (λ s k. refl, λ s k. refl, λ s k. commit_leaves_records s i n k, λ s k. refl)

pub returns-clause-turned_ring : goal.returns-clause-turned_ring
returns-clause-turned_ring c = λ h e ring may. turned_ring e h ring may

pub returns-clause-added_ring : goal.returns-clause-added_ring
returns-clause-added_ring c = λ h i address touched ring few. added_ring i address touched h ring few
