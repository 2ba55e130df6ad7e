use Rattle.std.proofs.Common.{◌≡◌, ◌+◌, ◌-◌, true, false, sym, ◌∙◌, subst, arith}
use Rattle.rb_base.specs.Logs.{no_logs}
use Rattle.rb_restart.specs.Steps.{HasLive}
use Rattle.rb_restart.proofs.Joined.{none_rolls, rolls_joined, rolls_so}
use Rattle.rb_restart.proofs.transaction.roll_back.Goals as goal

pub loop-change-init : goal.loop-change-init
loop-change-init g c = record {
  rolls = none_rolls g.S.Store c.args.shape c.args.store.now c.args.store.now 0 true (λ now. Unit {0}) (no_logs g.S.Store c.args.store.now c.requires.going) (λ told goes number rows may same. tt);
  left = λ told has. subst (HasLive c.args.shape (g.S.Store.blocks c.args.store.now) c.args.xid) (omega arith) has;
}

-- a call failed
pub returns-in_err-put_back : goal.returns-in_err-put_back
returns-in_err-put_back g c =
    let blocks = g.S.Store.blocks in
    let old = c.args.store.now in
    let shape = c.args.shape in
    let x = c.args.xid in
    rw c.from_residual.ensures.0
    (rolls_joined g.S.Store shape old c.loop-change.store c.put_back.new.store c.loop-change._change 1 c.args.live false (λ now. Unit {0}) (λ now. Unit {0}) (λ now. HasLive shape (blocks old) x c.args.live → HasLive shape now x 0) (omega (arith, c.loop-change-test.true)) c.loop-change.invariant.rolls c.in_err-put_back.ensures.rolls
    (λ told goes number rows may idle first second. let clash : false ≡ true = goes in absurd cc))

-- the newest change was not put back: so it has none, or the blocks may not be rolled back
pub returns-then-not-branch : goal.returns-then-not-branch
returns-then-not-branch g c =
    let blocks = g.S.Store.blocks in
    let old = c.args.store.now in
    let mid = c.loop-change.store in
    let new = c.put_back.new.store in
    let shape = c.args.shape in
    let x = c.args.xid in
    let k = c.loop-change._change in
    rolls_joined g.S.Store shape old mid new k 1 c.args.live true (λ now. Unit {0}) (λ now. Unit {0}) (λ now. HasLive shape (blocks old) x c.args.live → HasLive shape now x 0) (omega (arith, c.loop-change-test.true)) c.loop-change.invariant.rolls c.in_ok-put_back.ensures.rolls
    (λ told goes number rows may idle first second has.
    let left = subst (HasLive shape (blocks mid) x) (omega (arith, c.loop-change-test.true)) (c.loop-change.invariant.left told has) in
    let clash : false ≡ true = sym c.if-not-branch.true ∙ c.in_ok-put_back.ensures.done told (c.args.live - (k + 1)) number rows left may in
    absurd cc)

pub loop-change-preserved : goal.loop-change-preserved
loop-change-preserved g c =
    let mid = c.loop-change.store in
    let new = c.put_back.new.store in
    let k = c.loop-change._change in
    record {
      rolls = rolls_joined g.S.Store c.args.shape c.args.store.now mid new k 1 (k + 1) true (λ now. Unit {0}) (λ now. Unit {0}) (λ now. Unit {0}) (omega arith) c.loop-change.invariant.rolls c.in_ok-put_back.ensures.rolls (λ told goes number rows may idle first second. tt);
      left = λ told has. c.in_ok-put_back.ensures.less told c.if-not-branch.false (c.args.live - (k + 1)) (subst (HasLive c.args.shape (g.S.Store.blocks mid) c.args.xid) (omega (arith, c.loop-change-test.true)) (c.loop-change.invariant.left told has));
    }

pub returns : goal.returns
returns g c =
    let blocks = g.S.Store.blocks in
    rolls_so g.S.Store c.args.shape c.args.store.now c.loop-change.store c.loop-change._change c.args.live (λ now. Unit {0}) (λ now. HasLive c.args.shape (blocks c.args.store.now) c.args.xid c.args.live → HasLive c.args.shape now c.args.xid 0) (omega (arith, c.loop-change.auto._change-end)) c.loop-change.invariant.rolls
    (λ told done has. subst (HasLive c.args.shape (blocks c.loop-change.store) c.args.xid) (omega (arith, c.loop-change-test.false)) (c.loop-change.invariant.left told has))
