use Rattle.std.proofs.Common.{◌≡◌, ◌≤◌, ℕ, Bool, not, List, [], Option, None, Some, Result, Ok, Err, IfErr, IfOk, OnOk, sym, ◌∙◌, ap, subst}
use Rattle.rb_base.specs.Blocks.{home_block}
use Rattle.rb_base.specs.Logs.{Logs}
use Rattle.rb_base.specs.declared.shape.Shape.{Shape}
use Rattle.rb_cr.specs.Builds.{IsHomeOld, IsHomeRead}
use Rattle.rb_cr.specs.Faults.{is_failed}
use Rattle.rb_cr.specs.declared.faults.CrFault.{CrFault}
use Rattle.rb_cr.specs.declared.faults.CrFault.TheVariants.{Failed, TooOld}
use Rattle.rb_cr.specs.declared.scratch.Snapshot.{Snapshot}
use Rattle.rb_engine.specs.Checks.{err_faults}
use Rattle.rb_engine.specs.Does.{Kept}
use Rattle.rb_engine.specs.Lateness.{LateAs}
use Rattle.rb_engine.proofs.LateLemmas.{reads, timely}
use Rattle.rb_model.specs.Calls.{is_disk_fault}
use Rattle.rb_model.specs.declared.mode.Isolation.TheVariants as isolation
use Rattle.rb_model.specs.declared.refusal.Refusal.{Refusal}
use Rattle.law_read.specs.Late.{late_above}
use Rattle.law_read.specs.Reading.{History}
use Rattle.rb_sessions.specs.Kept.{KeptSession, kept_at}
use Rattle.law_sessions.specs.Views.{history}
use Rattle.rb_engine.proofs.late.check_late.Goals as goal

pub returns-clause-timely : goal.returns-clause-timely
returns-clause-timely g c = λ tells h xids stand shape knows.
    let s = g.T.Store in
    let blocks = s.blocks c.args.store.now in
    let sessions = c.args.memory.now.sessions in
    let table = c.args.table in
    let key = c.args.key in
    let n = c.in-Serializable.snapshot in
    let inside = ap (λ (k : Kept). k.sessions) c.memory.view_is in
    let serial : (kept_at sessions c.args.s).isolation ≡ isolation.Serializable n = ap (λ (l : List KeptSession). (kept_at l c.args.s).isolation) (sym inside) ∙ (sym c.session.ensures.isolation ∙ c.in-Serializable.is) in
    let tables : (1 ≤ table) × (table ≤ h.shape.tables) = subst (λ (z : Shape). (1 ≤ table) × (table ≤ z.tables)) shape c.requires.table in
    let past : History = history h xids blocks (home_block h.shape table key) None in
    let snap : Snapshot = record { scn = n; own = None; upto = 0 } in
    let read = reads h xids blocks sessions stand knows c.args.s table key c.requires.session tables n serial in
    let late : IsHomeRead h.shape blocks (home_block h.shape table key) past snap → IfOk c.changed_after.result (λ by. by ≡ late_above n key past.list) =
    subst (λ (z : Shape). IsHomeRead z blocks (home_block z table key) past snap → IfOk c.changed_after.result (λ by. by ≡ late_above n key past.list)) shape (c.changed_after.ensures.late tells past) in
    let old : IsHomeRead h.shape blocks (home_block h.shape table key) past snap → IfErr c.changed_after.result (IsHomeOld h.shape blocks (home_block h.shape table key) past snap) =
    subst (λ (z : Shape). IsHomeRead z blocks (home_block z table key) past snap → IfErr c.changed_after.result (IsHomeOld z blocks (home_block z table key) past snap)) shape (c.changed_after.ensures.old tells past) in
    timely h xids blocks sessions stand knows c.args.s table key c.requires.session tables n serial c.changed_after.result (late read) (old read) c.refusal.result c.refusal.ensures.none c.refusal.ensures.why

-- the search failed where its refusal tells of a fault of the disk
same_fault : (scn : ℕ) (found : Result (Option ℕ) CrFault) (result : Result (Unit {0}) Refusal) → OnOk result (found ≡ Ok None) → IfErr result (LateAs scn found) → is_failed found ≡ err_faults result
same_fault scn found (Ok done) none why = ap (λ (r : Result (Option ℕ) CrFault). is_failed r) none
same_fault scn (Ok None) (Err w) none why = absurd why
same_fault scn (Ok (Some by)) (Err w) none why = sym (ap (λ (r : Refusal). is_disk_fault r) why)
same_fault scn (Err (TooOld n lost)) (Err w) none why = sym (ap (λ (r : Refusal). is_disk_fault r) why)
same_fault scn (Err Failed) (Err w) none why = sym (ap (λ (r : Refusal). is_disk_fault r) why)

pub returns-clause-logs : goal.returns-clause-logs
returns-clause-logs g c =
    subst (λ (b : Bool). Logs g.T.Store c.args.store.now c.changed_after.new.store [] (not b))
    (same_fault c.in-Serializable.snapshot c.changed_after.result c.refusal.result c.refusal.ensures.none c.refusal.ensures.why) c.changed_after.ensures.logs
