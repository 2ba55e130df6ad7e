use Rattle.std.proofs.Common.{not, ◌==◌, ap, ◌∙◌, map, rules}
use Rattle.arrayvec.proofs.ArrayVecLemmas.{filter-from_retain}
use Rattle.rb_model.specs.Queue.{left_by}
use Rattle.rb_waits.specs.Waiters.{waiter_view}
use Rattle.rb_waits.proofs.Waiting.{left}
use Rattle.rb_waits.proofs.waits.Waits.leave.Goals as goal

pub returns : goal.returns
returns c =
    ap (map waiter_view) (filter-from_retain _ (λ w. not (w.session == c.args.s)) _ (λ x b f' y k. (search rules, search rules, search rules)) _ _ c.retain.ensures.filtered)
    ∙ left c.args.s c.self.inside.queue.items
    ∙ ap (left_by c.args.s) c.self.view_is
