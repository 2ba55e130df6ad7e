use Rattle.std.proofs.Common.{◌+◌, ◌-◌, ◌*◌, min, length, refl, arith}
use Rattle.rb_base.specs.declared.sizes.TheConstants.{SLOTS}
use Rattle.rb_model.specs.State.{session_own}
use Rattle.rb_dead.proofs.Taken.{dead_there, takes_err, takes_part, takes_whole}
use Rattle.rb_dead.proofs.taking.take.Goals as goal

pub returns-in_err-put_back-clause-took : goal.returns-in_err-put_back-clause-took
returns-in_err-put_back-clause-took g c = λ told h xids sessions owed left has found given.
    let s = g.T.Store in
    let old = c.args.store.now in
    let who = found.0 in
    let there = dead_there h xids (s.blocks old) has.holds.blocks (SLOTS * c.args.found.xid.seg + c.args.found.xid.slot) who found.1 in
    let many = found.3 in
    takes_err s h xids sessions owed left old c.put_back.new.store has c.args.most (SLOTS * c.args.found.xid.seg + c.args.found.xid.slot) c.from_residual.result c.from_residual.ensures.0
    (c.in_err-put_back.ensures.puts_back told h xids who (length (session_own h who) - min c.args.most (length (session_own h who))) has.shape has.holds there.0 there.1 found.2 has.going (let few = c.if-most-found.true in omega (arith, many, few)))

pub returns-then-most-found-clause-took : goal.returns-then-most-found-clause-took
returns-then-most-found-clause-took g c = λ told h xids sessions owed left has found given.
    let s = g.T.Store in
    let old = c.args.store.now in
    let who = found.0 in
    let there = dead_there h xids (s.blocks old) has.holds.blocks (SLOTS * c.args.found.xid.seg + c.args.found.xid.slot) who found.1 in
    let many = found.3 in
    let few = c.if-most-found.true in
    takes_part s h xids sessions owed left old c.put_back.new.store has c.args.found.xid who found.1 c.in_ok-put_back.ensures.same.shape (given refl) c.args.most (omega (arith, many, few))
    (c.in_ok-put_back.ensures.puts_back told h xids who (length (session_own h who) - min c.args.most (length (session_own h who))) has.shape has.holds there.0 there.1 found.2 has.going (omega (arith, many, few)))

pub returns-clause-took : goal.returns-clause-took
returns-clause-took g c = λ told h xids sessions owed left has found given.
    let s = g.T.Store in
    let old = c.args.store.now in
    let who = found.0 in
    let there = dead_there h xids (s.blocks old) has.holds.blocks (SLOTS * c.args.found.xid.seg + c.args.found.xid.slot) who found.1 in
    let many = found.3 in
    let few = c.if-most-found.false in
    takes_whole s h xids sessions owed left old c.put_all_back.new.store has c.args.found.xid who found.1 c.in_ok-put_all_back.ensures.same.shape (given refl) c.args.most c.args.found.live many (omega (arith, few)) c.requires.slot
    (c.in_ok-put_all_back.ensures.puts_back told h xids who has.shape has.holds there.0 there.1 found.2 has.going many)
