use Rattle.std.proofs.Common.{◌∙◌, ap, length, map}
use Rattle.arrayvec.proofs.ArrayVecLemmas.{items-with_items}
use Rattle.rb_model.specs.Queue.{freed_by}
use Rattle.rb_waits.specs.Waiters.{waiter_view}
use Rattle.rb_waits.proofs.waits.Waits.free.Goals as goal

pub returns : goal.returns
returns c =
    ap (map waiter_view) (items-with_items c.self.inside.queue c.free_all.new.waiters (c.free_all.auto.waiters ∙ ap length c.as_mut_slice.ensures.value))
    ∙ c.free_all.ensures
    ∙ ap (λ waiters. freed_by c.args.u (map waiter_view waiters)) c.as_mut_slice.ensures.value
    ∙ ap (freed_by c.args.u) c.self.view_is
