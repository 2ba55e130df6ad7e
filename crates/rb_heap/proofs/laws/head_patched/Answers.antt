use Rattle.rb_base.proofs.Blocks.{patched_long}
use Rattle.rb_txntable.proofs.Patched.{number_patched}
use Rattle.rb_heap.proofs.Patching.{kind_patched, own_patched}
use Rattle.rb_heap.proofs.laws.head_patched.Goals as goal

pub returns-clause-size : goal.returns-clause-size
returns-clause-size c block number p long sound = patched_long number p block long sound.within_block

pub returns-clause-number : goal.returns-clause-number
returns-clause-number c = number_patched

pub returns-clause-kind : goal.returns-clause-kind
returns-clause-kind c = kind_patched

pub returns-clause-own : goal.returns-clause-own
returns-clause-own c = own_patched
