use Rattle.rb_waits.proofs.Counts.{few, room}
use Rattle.rb_waits.proofs.Turns as turns
use Rattle.rb_waits.proofs.laws.queue_laws.Goals as goal

pub returns-clause-room : goal.returns-clause-room
returns-clause-room c queue once = (few queue once, room queue once)

pub returns-clause-wait : goal.returns-clause-wait
returns-clause-wait c = turns.wait_keeps

pub returns-clause-leave : goal.returns-clause-leave
returns-clause-leave c = turns.leave_keeps

pub returns-clause-free : goal.returns-clause-free
returns-clause-free c = turns.free_keeps

pub returns-clause-adds : goal.returns-clause-adds
returns-clause-adds c = turns.wait_adds

pub returns-clause-out : goal.returns-clause-out
returns-clause-out c = turns.left_is_out

pub returns-clause-others : goal.returns-clause-others
returns-clause-others c = turns.others_stay

pub returns-clause-freed : goal.returns-clause-freed
returns-clause-freed c = turns.freed_stay

pub returns-clause-there : goal.returns-clause-there
returns-clause-there c = turns.ready_is_there

pub returns-clause-few : goal.returns-clause-few
returns-clause-few c = turns.few_ready

pub returns-clause-fewer : goal.returns-clause-fewer
returns-clause-fewer c = turns.ready_leaves

pub returns-clause-nobody : goal.returns-clause-nobody
returns-clause-nobody c = turns.none_ready

pub returns-clause-unready : goal.returns-clause-unready
returns-clause-unready c = turns.wait_not_ready
