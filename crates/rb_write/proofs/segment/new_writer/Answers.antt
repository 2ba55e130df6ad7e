use Rattle.std.proofs.Common.{◌≡◌, ℕ, List, [], true, not, Err, refl, ap, sym, ◌∙◌}
use Rattle.std.proofs.lemmas.Result.{err_from_is_err_and}
use Rattle.rb_base.specs.Logs.{more_logs}
use Rattle.rb_base.specs.declared.ids.Xid.{Xid}
use Rattle.rb_base.specs.declared.shape.Shape.{Shape}
use Rattle.rb_txntable.specs.Slots.{active_count}
use Rattle.rb_write.proofs.Causes.{logs_on}
use Rattle.rb_write.proofs.Writers.{run_in}
use Rattle.rb_write.specs.Refusals.{has_failed}
use Rattle.rb_write.specs.declared.ask.AttemptFault.{AttemptFault}
use Rattle.rb_write.proofs.segment.new_writer.Goals as goal

pub returns-then-not-is_idle-clause-refused : goal.returns-then-not-is_idle-clause-refused
returns-then-not-is_idle-clause-refused g c told going =
    let s = g.S.Store in
    let old = c.args.store.now in
    let mid = c.fewest.new.store in
    let seg = c.in-Ok.seg in
    let logs = c.in-Ok.ensures.logs in
    let same : active_count c.load_header.new.header ≡ run_in (s.shape_of old) (s.blocks old) seg = ap active_count (c.in_ok-load_header.ensures.copy told)
    ∙ ap (λ (k : Shape). run_in k (s.blocks mid) seg) logs.same_shape
    ∙ ap (λ (l : List (List ℕ)). run_in (s.shape_of old) l seg) (logs.blocks told refl) in
    (seg, refl, record { fewest = c.in-Ok.ensures.fewest told; all_run = sym same ∙ c.is_idle.ensures.full c.if-not-is_idle.true })

pub returns-in_err-load_header-clause-logs : goal.returns-in_err-load_header-clause-logs
returns-in_err-load_header-clause-logs g c =
    let s = g.S.Store in
    let fault = c.in_err-load_header.field-0.0 in
    let p = err_from_is_err_and c.from_residual.result c.from_residual.ensures.1 in
    logs_on s c.args.store.now c.load_header.new.store Xid (Unit {0}) c.from_residual.result fault (p.1 ∙ ap (λ (f : AttemptFault). Err f) p.2)
    (more_logs s c.args.store.now c.fewest.new.store c.load_header.new.store [] [] (not (has_failed {T = Unit {0}} (Err fault))) c.in-Ok.ensures.logs c.in_err-load_header.ensures.logs)

pub returns-then-not-is_idle-clause-logs : goal.returns-then-not-is_idle-clause-logs
returns-then-not-is_idle-clause-logs g c = more_logs g.S.Store c.args.store.now c.fewest.new.store c.load_header.new.store [] [] true c.in-Ok.ensures.logs c.in_ok-load_header.ensures.logs

pub returns-clause-logs : goal.returns-clause-logs
returns-clause-logs g c = more_logs g.S.Store c.args.store.now c.fewest.new.store c.load_header.new.store [] [] true c.in-Ok.ensures.logs c.in_ok-load_header.ensures.logs
