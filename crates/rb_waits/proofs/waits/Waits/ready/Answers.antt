use Rattle.std.proofs.Common.{◌∙◌, ap, rules}
use Rattle.std.specs.Option.{is_none}
use Rattle.std.proofs.lemmas.Iterator.{YieldsList-from_slice}
use Rattle.std.proofs.lemmas.Iterator.Search.{find_from_yields_List}
use Rattle.rb_model.specs.Queue.{first_ready}
use Rattle.rb_waits.specs.declared.waits.Waiter.{Waiter}
use Rattle.rb_waits.proofs.Waiting.{ready_found}
use Rattle.rb_waits.proofs.waits.Waits.ready.Goals as goal

pub returns-in_err-waiter : goal.returns-in_err-waiter
returns-in_err-waiter c =
    c.from_residual.ensures
    ∙ ready_found c.self.inside.queue.items c.find.result _
    (find_from_yields_List (λ (w : Waiter). is_none w.on) _ _ c.find.result c.find.ensures.ran (YieldsList-from_slice c.self.inside.queue.items cc) (λ x b q k. search rules))
    c.in_err-waiter.was
    ∙ ap first_ready c.self.view_is

pub returns : goal.returns
returns c =
    ready_found c.self.inside.queue.items c.find.result _
    (find_from_yields_List (λ (w : Waiter). is_none w.on) _ _ c.find.result c.find.ensures.ran (YieldsList-from_slice c.self.inside.queue.items cc) (λ x b q k. search rules))
    c.in_ok-waiter.was
    ∙ ap first_ready c.self.view_is
