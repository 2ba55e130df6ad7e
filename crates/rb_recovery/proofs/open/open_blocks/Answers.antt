use Rattle.std.proofs.Common.{◌≡◌, [], true, false, arith, Result, Ok, Err}
use Rattle.rb_base.specs.Logs.{more_logs}
use Rattle.rb_base.specs.declared.faults.OpenFault.{OpenFault}
use Rattle.rb_base.specs.declared.faults.OpenFault.TheVariants.{NotAStore}
use Rattle.rb_recovery.proofs.Rolled.{failed, failed_first, moved, none_sound, opened_by}
use Rattle.rb_recovery.proofs.open.open_blocks.Goals as goal

pub returns-in_err-blocks_sound-clause-rolled_back : goal.returns-in_err-blocks_sound-clause-rolled_back
returns-in_err-blocks_sound-clause-rolled_back g c =
    let s = g.S.Store in
    let old = c.args.store.now in
    failed s old c.blocks_sound.new.store c.from_residual.result [] c.from_residual.ensures.1 c.in_err-blocks_sound.ensures.logs (omega arith) (λ number rows told logged sound. none_sound (s.shape_of old) number rows (s.lsn old) (s.blocks old) sound)

pub returns-in_err-roll_back_all-clause-rolled_back : goal.returns-in_err-roll_back_all-clause-rolled_back
returns-in_err-roll_back_all-clause-rolled_back g c =
    let s = g.S.Store in
    let old = c.args.store.now in
    let mid = c.blocks_sound.new.store in
    let new = c.roll_back_all.new.store in
    let loads = c.in_ok-blocks_sound.ensures.logs in
    let rolled = c.in_err-roll_back_all.ensures.rolled_back in
    failed s old new c.from_residual-in_err-roll_back_all.result rolled.0 c.from_residual-in_err-roll_back_all.ensures.1 (more_logs s old mid new [] rolled.0 false loads rolled.1) rolled.2
    (λ number rows told logged sound.
    (moved s old mid rolled.0 (Err c.in_err-roll_back_all.field-0.0) (s.blocks new) loads told (λ number rows. rolled.3 number rows told) number rows logged sound).0)

pub returns-clause-rolled_back : goal.returns-clause-rolled_back
returns-clause-rolled_back g c =
    let s = g.S.Store in
    let old = c.args.store.now in
    let mid = c.blocks_sound.new.store in
    let new = c.roll_back_all.new.store in
    let loads = c.in_ok-blocks_sound.ensures.logs in
    let rolled = c.in_ok-roll_back_all.ensures.rolled_back in (
      rolled.0,
      more_logs s old mid new [] rolled.0 true loads rolled.1,
      λ wrong. let clash : (let r : Result (Unit {0}) OpenFault = Ok tt in r) ≡ Err NotAStore = wrong in cc,
      rolled.2,
      λ number rows told logged sound.
          moved s old mid rolled.0 (Ok tt) (s.blocks new) loads told (λ number rows. rolled.3 number rows told) number rows logged sound,
    )

pub returns-clause-stands : goal.returns-clause-stands
returns-clause-stands g c told number rows in_range logged sound =
    let s = g.S.Store in
    let old = c.args.store.now in
    let mid = c.blocks_sound.new.store in
    let new = c.roll_back_all.new.store in
    let loads = c.in_ok-blocks_sound.ensures.logs in
    let rolled = c.in_ok-roll_back_all.ensures.rolled_back in
    let back = moved s old mid rolled.0 (Ok tt) (s.blocks new) loads told (λ number rows. rolled.3 number rows told) number rows logged sound in
    opened_by s old new rolled.0 (more_logs s old mid new [] rolled.0 true loads rolled.1) told number rows in_range logged back.0 back.1

pub returns-in_err-blocks_sound-clause-untouched : goal.returns-in_err-blocks_sound-clause-untouched
returns-in_err-blocks_sound-clause-untouched g c = λ told cannot.
    failed_first g.S.Store c.args.store.now c.blocks_sound.new.store c.from_residual.result c.from_residual.ensures.1 c.in_err-blocks_sound.ensures.logs

pub returns-then-not-branch-clause-untouched : goal.returns-then-not-branch-clause-untouched
returns-then-not-branch-clause-untouched g c = λ told cannot. c.in_ok-blocks_sound.ensures.logs

pub returns-in_err-roll_back_all-clause-untouched : goal.returns-in_err-roll_back_all-clause-untouched
returns-in_err-roll_back_all-clause-untouched g c = λ told cannot. absurd (cannot ((c.in_ok-blocks_sound.ensures.told told).0 c.if-not-branch.false))

pub returns-clause-untouched : goal.returns-clause-untouched
returns-clause-untouched g c = λ told cannot. absurd (cannot ((c.in_ok-blocks_sound.ensures.told told).0 c.if-not-branch.false))
