use Rattle.std.proofs.Common.{◌≡◌, ◌+◌, ℕ, List, [], ◌∷◌, true, false, not, Result, Ok, Err, refl, ap, sym, subst, ◌∙◌, arith}
use Rattle.std.proofs.lemmas.Result.{err_from_is_err_and}
use Rattle.rb_write.proofs.Causes.{logs_on}
use Rattle.rb_write.specs.Making.{IsMade}
use Rattle.rb_write.specs.Refusals.{has_failed}
use Rattle.rb_write.specs.declared.ask.AttemptFault.{AttemptFault}
use Rattle.rb_base.specs.declared.ids.Xid.{Xid}
use Rattle.rb_base.specs.Blocks.{after_group}
use Rattle.rb_base.specs.Groups.{Patch}
use Rattle.rb_base.specs.Logs.{Logs, apply_logs, group_of, more_logs}
use Rattle.rb_cleanout.proofs.Grouped.{one_group}
use Rattle.law_blocks.specs.Standing.{logged_of}
use Rattle.rb_write.proofs.change.attempt.Goals as goal

pub returns-clause-logs : goal.returns-clause-logs
returns-clause-logs g c =
    let s = g.S.Store in
    let old = c.args.store.now in
    let mid = c.prepare.new.store in
    let new = c.apply.new.self in
    let group = c.prepare.new.workspace.group in
    let call = c.in_ok-apply.ensures in
    let applied = apply_logs s mid new group (Ok c.in_ok-apply.field-0) call.shape call.slots call.failed call.counted call.lsn call.blocks call.settles call.any_moment call.holds_back in (
      group,
      subst (λ (l : List (List Patch)). Logs s old new l true) (one_group group c.in_ok-xid.ensures.some)
          (more_logs s old mid new [] (group ∷ []) true c.in_ok-xid.ensures.logs applied),
    )

pub returns-in_err-apply-clause-logs : goal.returns-in_err-apply-clause-logs
returns-in_err-apply-clause-logs g c =
    let s = g.S.Store in
    let old = c.args.store.now in
    let mid = c.prepare.new.store in
    let new = c.apply.new.self in
    let group = c.prepare.new.workspace.group in
    let call = c.in_err-apply.ensures in
    let failed = err_from_is_err_and c.from_residual-in_err-apply.result c.from_residual-in_err-apply.ensures.1 in
    let applied = apply_logs s mid new group (Err c.in_err-apply.field-0.0) call.shape call.slots call.failed call.counted call.lsn call.blocks call.settles call.any_moment call.holds_back in (
      group,
      subst (λ (r : Result Xid AttemptFault). Logs s old new (group_of group) (not (has_failed r))) (sym (failed.1 ∙ ap (λ (f : AttemptFault). Err f) failed.2))
          (subst (λ (l : List (List Patch)). Logs s old new l false) (one_group group c.in_ok-xid.ensures.some)
          (more_logs s old mid new [] (group ∷ []) false c.in_ok-xid.ensures.logs applied)),
    )

pub returns-clause-written : goal.returns-clause-written
returns-clause-written g c told number young =
    let s = g.S.Store in
    let old = c.args.store.now in
    let shape = s.shape_of old in
    let blocks = s.blocks old in
    let logs = c.in_ok-xid.ensures.logs in
    let group = c.prepare.new.workspace.group in
    let last : s.lsn c.prepare.new.store + 1 ≡ logged_of shape blocks + 1 = omega (arith, logs.number refl, number) in
    let now = c.in_ok-apply.ensures.blocks told
    ∙ ap (λ (n : ℕ). after_group n group (s.blocks c.prepare.new.store)) last
    ∙ ap (after_group (logged_of shape blocks + 1) group) (logs.blocks told refl) in
    subst (λ (l : List (List ℕ)). IsMade shape blocks l c.args.ask.now c.in_ok-xid.xid) (sym now) (c.in_ok-xid.ensures.made told young)

-- nothing was prepared, and no group is given
pub returns-in_err-xid-clause-group : goal.returns-in_err-xid-clause-group
returns-in_err-xid-clause-group g c told number young =
    let s = g.S.Store in
    let fault = c.in_err-xid.field-0.0 in
    let p = err_from_is_err_and c.from_residual.result c.from_residual.ensures.1 in (
      [],
      logs_on s c.args.store.now c.prepare.new.store Xid Xid c.from_residual.result fault (p.1 ∙ ap (λ (f : AttemptFault). Err f) p.2) c.in_err-xid.ensures.logs,
      λ some. absurd (omega (arith, some)),
    )

pub returns-clause-group : goal.returns-clause-group
unfolding returns-clause-logs
returns-clause-group g c told number young =
    let s = g.S.Store in
    let old = c.args.store.now in
    let shape = s.shape_of old in
    let blocks = s.blocks old in
    let logs = returns-clause-logs g c in
    let made = c.in_ok-xid.ensures in (
      logs.0,
      logs.1,
      λ some. (
        record { takes = made.takes told young; numbers = made.numbers },
        (c.in_ok-xid.xid, subst (λ (n : ℕ). IsMade shape blocks (after_group (n + 1) c.prepare.new.workspace.group blocks) c.args.ask.now c.in_ok-xid.xid) (sym number) (made.made told young)),
      ),
    )

pub returns-in_err-apply-clause-group : goal.returns-in_err-apply-clause-group
unfolding returns-in_err-apply-clause-logs
returns-in_err-apply-clause-group g c told number young =
    let s = g.S.Store in
    let old = c.args.store.now in
    let shape = s.shape_of old in
    let blocks = s.blocks old in
    let logs = returns-in_err-apply-clause-logs g c in
    let made = c.in_ok-xid.ensures in (
      logs.0,
      logs.1,
      λ some. (
        record { takes = made.takes told young; numbers = made.numbers },
        (c.in_ok-xid.xid, subst (λ (n : ℕ). IsMade shape blocks (after_group (n + 1) c.prepare.new.workspace.group blocks) c.args.ask.now c.in_ok-xid.xid) (sym number) (made.made told young)),
      ),
    )

pub returns-in_err-xid-clause-cause : goal.returns-in_err-xid-clause-cause
returns-in_err-xid-clause-cause g c =
    let fault = c.in_err-xid.field-0.0 in
    let p = err_from_is_err_and c.from_residual.result c.from_residual.ensures.1 in
    let is : c.from_residual.result ≡ Err fault = p.1 ∙ ap (λ (f : AttemptFault). Err f) p.2 in
    rw is c.in_err-xid.ensures.cause
