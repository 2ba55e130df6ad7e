-- The snapshot of a transaction's queries is of the commits since the file was opened, in each mode and for good.
use Rattle.std.proofs.Common.{List, arith}
use Rattle.rb_base.specs.declared.ids.Xid.{Xid}
use Rattle.rb_model.specs.Isolation.{isolation_at}
use Rattle.rb_model.specs.Rows.{Commits, last_scn}
use Rattle.rb_model.specs.State.{State}
use Rattle.rb_model.specs.declared.mode.Isolation.{Isolation}
use Rattle.rb_model.specs.declared.mode.Isolation.TheVariants.{ReadCommitted, ReadOnly, Serializable}
use Rattle.rb_model.specs.declared.mode.Mode.{Mode}
use Rattle.rb_model.specs.declared.mode.Mode.TheVariants as mode
use Rattle.law_sessions.specs.Views.{IsSnapshot}
use Rattle.law_sessions.proofs.Lasting.{Keeps, more_commits}

-- of a mode that is set now
pub snapshot_begins : (commits : Commits) (m : Mode) → IsSnapshot commits (isolation_at (last_scn commits) m)
snapshot_begins commits mode.ReadCommitted = (omega arith, omega arith)
snapshot_begins commits mode.ReadOnly = (omega arith, omega arith)
snapshot_begins commits mode.Serializable = (omega arith, omega arith)

-- over commits
pub snapshot_lasts : (h h2 : State) (xids xids2 : List Xid) (keeps : Keeps h h2 xids xids2) (isolation : Isolation) → IsSnapshot h.commits isolation → IsSnapshot h2.commits isolation
snapshot_lasts h h2 xids xids2 keeps ReadCommitted is = (omega arith, omega arith)
snapshot_lasts h h2 xids xids2 keeps (ReadOnly n) is = let b = keeps.base in let l = more_commits h h2 xids xids2 keeps in (omega (arith, b, is.0), omega (arith, b, l, is.1))
snapshot_lasts h h2 xids xids2 keeps (Serializable n) is = let b = keeps.base in let l = more_commits h h2 xids xids2 keeps in (omega (arith, b, is.0), omega (arith, b, l, is.1))
