use Rattle.std.proofs.Common.{true, false, Ok, Err, sym, subst, arith}
use Rattle.std.proofs.lemmas.Bool.{ltb-true, lt-ltb}
use Rattle.rb_base.specs.declared.faults.Failed.{Failed}
use Rattle.rb_base.specs.declared.shape.Shape.{Shape}
use Rattle.rb_restart.proofs.Stepped.{Says, less, done, rolls, says}
use Rattle.rb_restart.proofs.transaction.put_back.Given.{Over}
use Rattle.rb_restart.proofs.transaction.put_back.Goals as goal

-- a call that failed
pub returns-in_err-back-clause-rolls : goal.returns-in_err-back-clause-rolls
returns-in_err-back-clause-rolls g c =
    let call = c.in_err-back.ensures in
    let said = subst (λ (z : Shape). Says g.S.Store z c.args.xid c.args.store.now c.back.new.store false) (sym c.requires.shape)
    (says {T = Unit {0}} g.S.Store (g.S.Store.shape_of c.args.store.now) c.args.xid c.args.store.now c.back.new.store (Err c.in_err-back.field-0.0) call.logs call.put_back) in
    rw c.from_residual.ensures.0 (rolls g.S.Store c.args.shape c.args.xid c.args.store.now c.back.new.store c.requires.there c.requires.slot false said c.requires.in_range)

-- or went well
said : (g : Over) (c : goal.After-logged g) → Says g.S.Store c.args.shape c.args.xid c.args.store.now c.back.new.store true
said g c =
    let call = c.in_ok-back.ensures in
    subst (λ (z : Shape). Says g.S.Store z c.args.xid c.args.store.now c.back.new.store true) (sym c.requires.shape)
    (says {E = Failed} g.S.Store (g.S.Store.shape_of c.args.store.now) c.args.xid c.args.store.now c.back.new.store (Ok c.in_ok-back.field-0) call.logs call.put_back)

pub returns-clause-rolls : goal.returns-clause-rolls
returns-clause-rolls g c = rolls g.S.Store c.args.shape c.args.xid c.args.store.now c.back.new.store c.requires.there c.requires.slot true (said g c) c.requires.in_range

pub returns-clause-less : goal.returns-clause-less
returns-clause-less g c = λ told up.
    let rose = ltb-true c.logged-logged.result c.logged.result up in
    less g.S.Store c.args.shape c.args.xid c.args.store.now c.back.new.store c.requires.there c.requires.slot (said g c) told (omega (arith, rose, c.logged-logged.ensures, c.logged.ensures))

pub returns-clause-done : goal.returns-clause-done
returns-clause-done g c = λ told n number rows live may.
    let up = done g.S.Store c.args.shape c.args.xid c.args.store.now c.back.new.store c.requires.there c.requires.slot (said g c) n number rows told live may in
    lt-ltb c.logged-logged.result c.logged.result (omega (arith, up, c.logged-logged.ensures, c.logged.ensures))
