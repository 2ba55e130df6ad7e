use Rattle.std.proofs.Common.{◌∙◌, ◌==◌, ap, rules}
use Rattle.std.proofs.lemmas.Iterator.{YieldsList-from_slice}
use Rattle.std.proofs.lemmas.Iterator.Search.{any_from_yields_List}
use Rattle.rb_model.specs.Queue.{is_queued}
use Rattle.rb_waits.specs.declared.waits.Waiter.{Waiter}
use Rattle.rb_waits.proofs.Waiting.{queued}
use Rattle.rb_waits.proofs.waits.Waits.waits.Goals as goal

pub returns : goal.returns
returns c =
    any_from_yields_List (λ (w : Waiter). w.session == c.args.s) _ _ c.any.result c.any.ensures.ran (YieldsList-from_slice c.self.inside.queue.items cc) (λ x b q k. search rules)
    ∙ queued c.args.s c.self.inside.queue.items
    ∙ ap (is_queued c.args.s) c.self.view_is
