use Rattle.std.proofs.Common.{◌<◌, not, subst}
use Rattle.std.specs.Result.{is_err}
use Rattle.rb_base.specs.declared.shape.Shape.{Shape}
use Rattle.rb_restart.proofs.Stepped.{Says, says}
use Rattle.rb_steps.proofs.OneBack.{one_back}
use Rattle.rb_steps.proofs.rollback.back_step.Given.{Over}
use Rattle.rb_steps.proofs.rollback.back_step.Goals as goal

said : (g : Over) (c : goal.After-back g) → Says g.S.Store (g.S.Store.shape_of c.args.store.now) c.args.xid c.args.store.now c.back.new.store (not (is_err c.back.result))
said g c = says g.S.Store (g.S.Store.shape_of c.args.store.now) c.args.xid c.args.store.now c.back.new.store c.back.result c.back.ensures.logs c.back.ensures.put_back

pub returns-clause-gives : goal.returns-clause-gives
returns-clause-gives g c = λ told h xids who front change stand same owned runs own_is logged.
    let s = g.S.Store in
    let old = c.args.store.now in
    let x = c.args.xid in
    let is = subst (λ (z : Shape). Says s z x old c.back.new.store (not (is_err c.back.result))) same (said g c) in
    let there = subst (λ (z : Shape). x.seg < z.segments) same c.requires.there in
    one_back s x old c.back.new.store told h xids who front change stand there c.requires.slot owned runs own_is logged (not (is_err c.back.result)) is
