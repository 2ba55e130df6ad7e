use Rattle.std.proofs.Common.{◌∙◌, ◌==◌, rules}
use Rattle.std.proofs.lemmas.Iterator.{YieldsList-from_slice}
use Rattle.std.proofs.lemmas.Iterator.Search.{find_from_yields_List}
use Rattle.rb_waits.specs.declared.waits.Waiter.{Waiter}
use Rattle.rb_waits.proofs.Waiting.{waits_found}
use Rattle.rb_waits.proofs.waits.waits_for.Goals as goal

pub returns-in_err-waiter : goal.returns-in_err-waiter
returns-in_err-waiter c =
    c.from_residual.ensures
    ∙ waits_found c.args.s c.args.waiters.now c.find.result _
    (find_from_yields_List (λ (w : Waiter). w.session == c.args.s) _ _ c.find.result c.find.ensures.ran (YieldsList-from_slice c.args.waiters.now cc) (λ x b q k. search rules))
    c.in_err-waiter.was

pub returns : goal.returns
returns c =
    waits_found c.args.s c.args.waiters.now c.find.result _
    (find_from_yields_List (λ (w : Waiter). w.session == c.args.s) _ _ c.find.result c.find.ensures.ran (YieldsList-from_slice c.args.waiters.now cc) (λ x b q k. search rules))
    c.in_ok-waiter.was
