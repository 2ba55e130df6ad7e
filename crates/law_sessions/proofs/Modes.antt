-- The table remembers a mode that is set.
use Rattle.std.proofs.Common.{◌≤◌, ℕ, List, refl, arith}
use Rattle.rb_base.specs.declared.ids.Xid.{Xid}
use Rattle.rb_model.specs.Isolation.{isolation_at}
use Rattle.rb_model.specs.NextState.{cursors_of, with_isolation}
use Rattle.rb_model.specs.Rows.{last_scn}
use Rattle.rb_model.specs.State.{Session, State, session_of}
use Rattle.rb_model.specs.declared.mode.Isolation.{Isolation}
use Rattle.rb_model.specs.declared.mode.Mode.{Mode}
use Rattle.rb_sessions.specs.Kept as kept
use Rattle.rb_sessions.specs.Kept.{KeptSession, kept_at, with_kept}
use Rattle.rb_sessions.specs.declared.sessions.TheConstants.{SESSIONS}
use Rattle.law_sessions.specs.Views.{IsSession, Remembers}
use Rattle.law_sessions.proofs.Snapshots.{snapshot_begins}
use Rattle.law_sessions.proofs.Staying.{cursor_now, session_remembered}
use Rattle.law_sessions.proofs.Tables.{cursors_last}
use Rattle.law_home.specs.Walk.{Env}

pub isolated_remembered : (h : State) (xids : List Xid) (env : Env) (table : List KeptSession) (s : ℕ) (mode : Mode) → Remembers h xids env table → 1 ≤ s → s ≤ SESSIONS
    → Remembers (with_isolation h s (isolation_at (last_scn h.commits) mode)) xids env (with_kept table s (kept.isolated (isolation_at (last_scn h.commits) mode) (kept_at table s)))
isolated_remembered h xids env table s mode is low high =
    let k : KeptSession = kept_at table s in
    let of_session : IsSession h xids env s k = is.each s low high in
    let isolation : Isolation = isolation_at (last_scn h.commits) mode in
    let session : Session = record (session_of h s) { isolation = isolation } in
    session_remembered h xids env env s session low (λ u t o. refl) table (kept.isolated isolation k) high is refl (snapshot_begins h.commits mode) refl of_session.count of_session.savepoints
    (cursors_last h (with_isolation h s isolation) xids xids env env s
    (λ m c. cursor_now h xids env env s session low (λ u t o. refl) (let n = is.as_many in omega (arith, n, high)) m c (λ present. refl)) k.cursors (cursors_of h s) of_session.cursors)
