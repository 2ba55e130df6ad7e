use Rattle.std.proofs.Common.{refl, ℕ, Some, sym, subst}
use Rattle.rb_model.specs.Answers.{answer_of}
use Rattle.rb_model.specs.Lines.{call_of}
use Rattle.rb_script.specs.Commands.{asked_by}
use Rattle.rb_script.specs.declared.command.Request.{Request}
use Rattle.rb_calls.specs.Made.{Made}
use Rattle.rb_calls.proofs.CallLemmas.{made_by, made_write, old_fetch, old_get}
use Rattle.rb_calls.proofs.calls.answer_to_request.Goals as goal

pub returns-in-Write : goal.returns-in-Write
returns-in-Write g c = record {
  made = subst (λ (request : Request). (k : ℕ) → Made g.T.Store (call_of (asked_by c.args.s request) k) (answer_of c.answer_to_write.result c.args.row.now) c.args.engine.now c.write.new.self) (sym c.in-Write.is)
      (λ k. made_write g.T.Store _ c.args.engine.now c.write.new.self _ _ _ (c.answer_to_write.ensures.answer c.args.row.now) (c.answer_to_write.ensures.fault c.args.row.now) c.write.ensures.did c.write.ensures.same c.write.ensures.disk);
  fits = c.answer_to_write.ensures.fits c.args.s;
}

pub returns-in-Lock : goal.returns-in-Lock
returns-in-Lock g c = record {
  made = subst (λ (request : Request). (k : ℕ) → Made g.T.Store (call_of (asked_by c.args.s request) k) (answer_of c.answer_to_write-in-Lock.result c.args.row.now) c.args.engine.now c.lock.new.self) (sym c.in-Lock.is)
      (λ k. made_write g.T.Store _ c.args.engine.now c.lock.new.self _ _ _ (c.answer_to_write-in-Lock.ensures.answer c.args.row.now) (c.answer_to_write-in-Lock.ensures.fault c.args.row.now) c.lock.ensures.did c.lock.ensures.same c.lock.ensures.disk);
  fits = c.answer_to_write-in-Lock.ensures.fits c.args.s;
}

pub returns-in-Commit : goal.returns-in-Commit
returns-in-Commit g c = record {
  made = subst (λ (request : Request). (k : ℕ) → Made g.T.Store (call_of (asked_by c.args.s request) k) (answer_of c.answer_to_commit.result c.args.row.now) c.args.engine.now c.commit.new.self) (sym c.in-Commit.is)
      (λ k. made_by g.T.Store _ c.args.engine.now c.commit.new.self _ _ _ (λ h. refl) (c.answer_to_commit.ensures.answer c.args.row.now) (c.answer_to_commit.ensures.fault c.args.row.now) c.commit.ensures.did c.commit.ensures.makes (λ h st scn lost is. tt) c.commit.ensures.same c.commit.ensures.disk);
  fits = c.answer_to_commit.ensures.fits c.args.s;
}

pub returns-in-CommitLater : goal.returns-in-CommitLater
returns-in-CommitLater g c = record {
  made = subst (λ (request : Request). (k : ℕ) → Made g.T.Store (call_of (asked_by c.args.s request) k) (answer_of c.answer_to_commit_later.result c.args.row.now) c.args.engine.now c.commit_later.new.self) (sym c.in-CommitLater.is)
      (λ k. made_by g.T.Store _ c.args.engine.now c.commit_later.new.self _ _ _ (λ h. refl) (c.answer_to_commit_later.ensures.answer c.args.row.now) (c.answer_to_commit_later.ensures.fault c.args.row.now) c.commit_later.ensures.did c.commit_later.ensures.makes (λ h st scn lost is. tt) c.commit_later.ensures.same c.commit_later.ensures.disk);
  fits = c.answer_to_commit_later.ensures.fits c.args.s;
}

pub returns-in-Rollback : goal.returns-in-Rollback
returns-in-Rollback g c = record {
  made = subst (λ (request : Request). (k : ℕ) → Made g.T.Store (call_of (asked_by c.args.s request) k) (answer_of c.answer_to_call.result c.args.row.now) c.args.engine.now c.rollback.new.self) (sym c.in-Rollback.is)
      (λ k. made_by g.T.Store _ c.args.engine.now c.rollback.new.self _ _ _ (λ h. refl) (c.answer_to_call.ensures.answer c.args.row.now) (c.answer_to_call.ensures.fault c.args.row.now) c.rollback.ensures.did c.rollback.ensures.makes (λ h st scn lost is. tt) c.rollback.ensures.same c.rollback.ensures.disk);
  fits = c.answer_to_call.ensures.fits (Some c.args.s);
}

pub returns-in-Set : goal.returns-in-Set
returns-in-Set g c = record {
  made = subst (λ (request : Request). (k : ℕ) → Made g.T.Store (call_of (asked_by c.args.s request) k) (answer_of c.answer_to_call-in-Set.result c.args.row.now) c.args.engine.now c.set.new.self) (sym c.in-Set.is)
      (λ k. made_by g.T.Store _ c.args.engine.now c.set.new.self _ _ _ (λ h. refl) (c.answer_to_call-in-Set.ensures.answer c.args.row.now) (c.answer_to_call-in-Set.ensures.fault c.args.row.now) c.set.ensures.did c.set.ensures.makes (λ h st scn lost is. tt) c.set.ensures.same c.set.ensures.disk);
  fits = c.answer_to_call-in-Set.ensures.fits (Some c.args.s);
}

pub returns-in-Savepoint : goal.returns-in-Savepoint
returns-in-Savepoint g c = record {
  made = subst (λ (request : Request). (k : ℕ) → Made g.T.Store (call_of (asked_by c.args.s request) k) (answer_of c.answer_to_call-in-Savepoint.result c.args.row.now) c.args.engine.now c.savepoint.new.self) (sym c.in-Savepoint.is)
      (λ k. made_by g.T.Store _ c.args.engine.now c.savepoint.new.self _ _ _ (λ h. refl) (c.answer_to_call-in-Savepoint.ensures.answer c.args.row.now) (c.answer_to_call-in-Savepoint.ensures.fault c.args.row.now) c.savepoint.ensures.did c.savepoint.ensures.makes (λ h st scn lost is. tt) c.savepoint.ensures.same c.savepoint.ensures.disk);
  fits = c.answer_to_call-in-Savepoint.ensures.fits (Some c.args.s);
}

pub returns-in-RollbackTo : goal.returns-in-RollbackTo
returns-in-RollbackTo g c = record {
  made = subst (λ (request : Request). (k : ℕ) → Made g.T.Store (call_of (asked_by c.args.s request) k) (answer_of c.answer_to_call-in-RollbackTo.result c.args.row.now) c.args.engine.now c.rollback_to.new.self) (sym c.in-RollbackTo.is)
      (λ k. made_by g.T.Store _ c.args.engine.now c.rollback_to.new.self _ _ _ (λ h. refl) (c.answer_to_call-in-RollbackTo.ensures.answer c.args.row.now) (c.answer_to_call-in-RollbackTo.ensures.fault c.args.row.now) c.rollback_to.ensures.did c.rollback_to.ensures.makes (λ h st scn lost is. tt) c.rollback_to.ensures.same c.rollback_to.ensures.disk);
  fits = c.answer_to_call-in-RollbackTo.ensures.fits (Some c.args.s);
}

pub returns-in-OpenCursor : goal.returns-in-OpenCursor
returns-in-OpenCursor g c = record {
  made = subst (λ (request : Request). (k : ℕ) → Made g.T.Store (call_of (asked_by c.args.s request) k) (answer_of c.answer_to_call-in-OpenCursor.result c.args.row.now) c.args.engine.now c.open_cursor.new.self) (sym c.in-OpenCursor.is)
      (λ k. made_by g.T.Store _ c.args.engine.now c.open_cursor.new.self _ _ _ (λ h. refl) (c.answer_to_call-in-OpenCursor.ensures.answer c.args.row.now) (c.answer_to_call-in-OpenCursor.ensures.fault c.args.row.now) c.open_cursor.ensures.did c.open_cursor.ensures.makes (λ h st scn lost is. tt) c.open_cursor.ensures.same c.open_cursor.ensures.disk);
  fits = c.answer_to_call-in-OpenCursor.ensures.fits (Some c.args.s);
}

pub returns-in-Fetch : goal.returns-in-Fetch
returns-in-Fetch g c = record {
  made = subst (λ (request : Request). (k : ℕ) → Made g.T.Store (call_of (asked_by c.args.s request) k) (answer_of c.answer_to_fetch.result c.fetch.new.row) c.args.engine.now c.fetch.new.self) (sym c.in-Fetch.is)
      (λ k. made_by g.T.Store _ c.args.engine.now c.fetch.new.self _ _ _ (λ h. refl) (c.answer_to_fetch.ensures.answer c.fetch.new.row) (c.answer_to_fetch.ensures.fault c.fetch.new.row) c.fetch.ensures.did c.fetch.ensures.makes (λ h st scn lost is. c.fetch.ensures.lost h st scn lost (old_fetch c.fetch.result c.fetch.new.row scn lost is)) c.fetch.ensures.same c.fetch.ensures.disk);
  fits = c.answer_to_fetch.ensures.fits c.args.s;
}

pub returns-in-CloseCursor : goal.returns-in-CloseCursor
returns-in-CloseCursor g c = record {
  made = subst (λ (request : Request). (k : ℕ) → Made g.T.Store (call_of (asked_by c.args.s request) k) (answer_of c.answer_to_call-in-CloseCursor.result c.args.row.now) c.args.engine.now c.close_cursor.new.self) (sym c.in-CloseCursor.is)
      (λ k. made_by g.T.Store _ c.args.engine.now c.close_cursor.new.self _ _ _ (λ h. refl) (c.answer_to_call-in-CloseCursor.ensures.answer c.args.row.now) (c.answer_to_call-in-CloseCursor.ensures.fault c.args.row.now) c.close_cursor.ensures.did c.close_cursor.ensures.makes (λ h st scn lost is. tt) c.close_cursor.ensures.same c.close_cursor.ensures.disk);
  fits = c.answer_to_call-in-CloseCursor.ensures.fits (Some c.args.s);
}

pub returns-in-Cancel : goal.returns-in-Cancel
returns-in-Cancel g c = record {
  made = subst (λ (request : Request). (k : ℕ) → Made g.T.Store (call_of (asked_by c.args.s request) k) (answer_of c.answer_to_call-in-Cancel.result c.args.row.now) c.args.engine.now c.cancel.new.self) (sym c.in-Cancel.is)
      (λ k. made_by g.T.Store _ c.args.engine.now c.cancel.new.self _ _ _ (λ h. refl) (c.answer_to_call-in-Cancel.ensures.answer c.args.row.now) (c.answer_to_call-in-Cancel.ensures.fault c.args.row.now) c.cancel.ensures.did c.cancel.ensures.makes (λ h st scn lost is. tt) c.cancel.ensures.same c.cancel.ensures.disk);
  fits = c.answer_to_call-in-Cancel.ensures.fits (Some c.args.s);
}

pub returns-in-Get : goal.returns-in-Get
returns-in-Get g c = record {
  made = subst (λ (request : Request). (k : ℕ) → Made g.T.Store (call_of (asked_by c.args.s request) k) (answer_of c.answer_to_get.result c.get.new.row) c.args.engine.now c.get.new.self) (sym c.in-Get.is)
      (λ k. made_by g.T.Store _ c.args.engine.now c.get.new.self _ _ _ (λ h. refl) (c.answer_to_get.ensures.answer c.get.new.row) (c.answer_to_get.ensures.fault c.get.new.row) c.get.ensures.did c.get.ensures.makes (λ h st scn lost is. c.get.ensures.lost h st scn lost (old_get c.get.result c.get.new.row scn lost is)) c.get.ensures.same c.get.ensures.disk);
  fits = c.answer_to_get.ensures.fits c.args.s;
}
