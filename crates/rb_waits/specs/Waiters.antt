-- A session in the queue, as a contract sees it.
use Rattle.rb_model.specs.Queue.{Waiter}
use Rattle.rb_waits.specs.declared.waits.Waiter as code

abbrev pub waiter_view : code.Waiter → Waiter
waiter_view w = record { session = w.session; on = w.on }
