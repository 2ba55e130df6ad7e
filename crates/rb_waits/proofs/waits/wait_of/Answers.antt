use Rattle.std.proofs.Common.{◌≡◌, ◌∙◌, ◌==◌, ℕ, Option, None, Some, ap, rules, sym}
use Rattle.std.specs.Option.{option_map}
use Rattle.std.proofs.lemmas.Iterator.{YieldsList-from_slice}
use Rattle.std.proofs.lemmas.Iterator.Search.{find_from_yields_List}
use Rattle.rb_model.specs.Calls.{wait_by}
use Rattle.rb_waits.specs.declared.waits.Waiter.{Waiter}
use Rattle.rb_waits.proofs.Waiting.{place_found}
use Rattle.rb_waits.proofs.waits.wait_of.Goals as goal

pub returns-in_default : goal.returns-in_default
returns-in_default c =
    ap wait_by (place_found c.args.s c.args.waiters.now c.find.result None
    (find_from_yields_List (λ (w : Waiter). w.session == c.args.s) _ _ c.find.result c.find.ensures.ran (YieldsList-from_slice c.args.waiters.now cc) (λ x b q k. search rules))
    c.in_default.is)

pub returns-in-Some-on : goal.returns-in-Some-on
returns-in-Some-on c =
    ap (λ (on : Option ℕ). wait_by (Some on)) (sym c.in-Some-on.is)
    ∙ ap wait_by (place_found c.args.s c.args.waiters.now c.find.result (Some c.in-Some.waiter)
    (find_from_yields_List (λ (w : Waiter). w.session == c.args.s) _ _ c.find.result c.find.ensures.ran (YieldsList-from_slice c.args.waiters.now cc) (λ x b q k. search rules))
    c.in-Some.is)

pub returns-in-None : goal.returns-in-None
returns-in-None c =
    ap (λ (on : Option ℕ). wait_by (Some on)) (sym c.in-None.is)
    ∙ ap wait_by (place_found c.args.s c.args.waiters.now c.find.result (Some c.in-Some.waiter)
    (find_from_yields_List (λ (w : Waiter). w.session == c.args.s) _ _ c.find.result c.find.ensures.ran (YieldsList-from_slice c.args.waiters.now cc) (λ x b q k. search rules))
    c.in-Some.is)
