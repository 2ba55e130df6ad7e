-- What a commit and a rollback leave of a store that has a state, or of which a call failed on the way.
use Rattle.std.specs.Prelude.{◌≡◌, ◌+◌, ◌-◌, ◌*◌, ◌∷◌, ◌++◌, ℕ, Bool, true, false}
use Rattle.std.specs.Prelude.{[], Option, None, Some, List, Result, Ok, Err}
use Rattle.rb_base.specs.declared.ids.Xid.{Xid}
use Rattle.rb_base.specs.declared.store.Store.{Ghosts}
use Rattle.law_crash.specs.Crash.{Survives}
use Rattle.law_crash.specs.Holds.{Holds}
use Rattle.rb_engine.specs.declared.finish.Lasting.{Lasting}
use Rattle.rb_engine.specs.declared.finish.Lasting.TheVariants.{AtOnce, Later}
use Rattle.rb_model.specs.Calls.{Answer, Call, Commit, CommitLater, Committed, Numbered}
use Rattle.rb_model.specs.NextState.{committed, ended}
use Rattle.rb_model.specs.Rows.{last_scn}
use Rattle.rb_model.specs.State.{State}
use Rattle.rb_model.specs.declared.refusal.Refusal.{Refusal}
use Rattle.rb_model.specs.declared.refusal.Refusal.TheVariants.{DiskFault}
use Rattle.law_blocks.specs.Groups.{IsCommitted}
use Rattle.rb_rollback.specs.Backs.{Fails, SameIds}

-- the call that makes a commit, by when it lasts, and its answer with that number
abbrev pub commit_call : Lasting → ℕ → Call
commit_call AtOnce s = Commit s
commit_call Later s = CommitLater s

abbrev pub number_told : Lasting → ℕ → Answer
number_told AtOnce n = Committed n
number_told Later n = Numbered n

-- up to which number commits are acknowledged then, of the last one's and that of before
abbrev pub safe_by : Lasting → (last safe : ℕ) → ℕ
safe_by AtOnce last safe = last
safe_by Later last safe = safe

abbrev pub lasting : Lasting → State → State
lasting l h = record h { safe = safe_by l (last_scn h.commits) h.safe }

-- a commit of that session, whose transaction has that id
abbrev pub Commits : {S : Type 0} → Ghosts S → Lasting → State → List Xid → ℕ → Xid → S → S → Bool
    → Type 0
Commits s l h xids who x old new true = Holds s (lasting l (committed h who x.seg x.slot)) (xids ++ x ∷ []) new
    × SameIds s h old new × (s.lsn new ≡ s.lsn old + 1)
    × ((before : Option Call) → s.keeps
    → Survives s (s.slots old) before h (lasting l (committed h who x.seg x.slot)) old new)
    × IsCommitted h.shape (16 * x.seg + x.slot) (last_scn h.commits + 1) (s.blocks old) (s.blocks new)
Commits s l h xids who x old new false = Fails s (Some (commit_call l who)) h old new

-- a commit answered no number, nor a fault of the disk: it ended a transaction without changes, or was refused
abbrev pub HasNoNumber : Result (Option ℕ) Refusal → Type 0
HasNoNumber (Ok None) = Unit {0}
HasNoNumber (Ok (Some number)) = ⊥
HasNoNumber (Err DiskFault) = ⊥
HasNoNumber (Err _) = Unit {0}
