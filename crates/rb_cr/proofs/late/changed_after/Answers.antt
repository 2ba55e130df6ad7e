use Rattle.std.proofs.Common.{◌≡◌, ◌∙◌, [], ℕ, not, sym, ap, subst}
use Rattle.rb_base.specs.Blocks.{home_block}
use Rattle.rb_base.specs.Logs.{more_logs}
use Rattle.rb_base.specs.declared.shape.Shape.{Shape}
use Rattle.rb_cr.specs.Builds.{IsHomeRead}
use Rattle.rb_cr.specs.Faults.{is_failed}
use Rattle.law_read.proofs.Watching.{quiet_late}
use Rattle.law_blocks.specs.Standing.{env_of, homes_of}
use Rattle.rb_cr.proofs.late.changed_after.Goals as goal

-- the block that is read is the key's
home : (shape read : Shape) (table key block : ℕ) → block ≡ home_block read table key → read ≡ shape → home_block shape table key ≡ block
home shape read table key block is same = sym (is ∙ ap (λ (z : Shape). home_block z table key) same)

pub returns-then-branch-clause-late : goal.returns-then-branch-clause-late
returns-then-branch-clause-late g c = λ told h reading.
    let s = g.S.Store in
    let shape = s.shape_of c.args.store.now in
    let blocks = s.blocks c.args.store.now in
    let snap = c.args.snapshot.now in
    let at : home_block shape c.args.table c.args.key ≡ c.home_block-block.result = home shape c.shape.result c.args.table c.args.key c.home_block-block.result c.home_block-block.ensures.number c.shape.ensures.shape in
    sym (quiet_late (env_of shape blocks) h snap.own snap.upto snap.scn c.args.key (homes_of shape blocks c.home_block-block.result) (subst (λ (z : ℕ). IsHomeRead shape blocks z h snap) at reading) (c.in_ok-changes_visible.ensures.told told c.if-branch.true))

pub returns-clause-logs : goal.returns-clause-logs
returns-clause-logs g c = more_logs g.S.Store c.args.store.now c.changes_visible.new.store c.first_rebuilt.new.store [] [] (not (is_failed c.first_rebuilt.result)) c.in_ok-changes_visible.ensures.logs c.first_rebuilt.ensures.logs
