use Rattle.rb_store.proofs.OneOpening.{one_opening}
use Rattle.rb_store.proofs.laws.one_opening.Goals as goal

pub returns-clause-layout : goal.returns-clause-layout
returns-clause-layout c = λ l m file first second n k one two. (one_opening l m file first second n k one two).layout

pub returns-clause-blocks : goal.returns-clause-blocks
returns-clause-blocks c = λ l m file first second n k one two. (one_opening l m file first second n k one two).blocks

pub returns-clause-lsn : goal.returns-clause-lsn
returns-clause-lsn c = λ l m file first second n k one two. (one_opening l m file first second n k one two).lsn
