use Rattle.std.proofs.Common.{◌≡◌, ◌<◌, List, length, sym, ap, subst}
use Rattle.rb_base.specs.declared.sizes.TheConstants.{SLOTS}
use Rattle.rb_engine.specs.Does.{Kept}
use Rattle.rb_model.specs.Queue.{Waiter}
use Rattle.rb_waits.proofs.Counts.{room}
use Rattle.rb_engine.proofs.queue.wait_for.Goals as goal

pub wait-requires : goal.wait-requires
wait-requires c =
    let waits : c.memory.inside.waits ≡ c.args.memory.now.waits = ap (λ (k : Kept). k.waits) c.memory.view_is in
    subst (λ (l : List Waiter). length l < SLOTS) (sym waits) (room c.args.memory.now.waits c.requires.queue.once c.args.s c.requires.session.0 c.requires.session.1 c.requires.free)
