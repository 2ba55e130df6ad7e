-- What a call makes of the blocks, from what it does with the store.
use Rattle.std.proofs.Common.{◌≡◌, inl, inr, ◌<◌, ◌≤◌, ◌+◌, ◌*◌, ℕ, true, false, List, [], length, Some, None, Result, Ok, Err, IfOk, refl, sym, ◌∙◌, subst, arith}
use Rattle.rb_base.specs.declared.sizes.TheConstants.{SLOTS}
use Rattle.rb_sessions.specs.declared.sessions.TheConstants.{SESSIONS}
use Rattle.rb_base.specs.Logs.{Laws, Logs}
use Rattle.rb_base.specs.declared.ids.Xid.{Xid}
use Rattle.rb_base.specs.declared.store.Store.{Ghosts}
use Rattle.rb_engine.specs.Does.{EngineView, Goes, Stands}
use Rattle.rb_engine.specs.Finishing.{Commits, commit_call, number_told}
use Rattle.rb_engine.specs.declared.finish.Lasting.{Lasting}
use Rattle.rb_engine.specs.declared.finish.Lasting.TheVariants.{AtOnce, Later}
use Rattle.rb_engine.specs.Makes.{EndOver, MadeBy, MadeReading, MadeRefused, Makes}
use Rattle.rb_engine.proofs.FinishLemmas.{goes, none_own, own_by, some_own}
use Rattle.law_crash.proofs.Owners.{OwnedBy, none_owned}
use Rattle.law_crash.specs.Made.{BackOver, GivesOne, WriteMade}
use Rattle.rb_model.specs.Answers.{flush_answer, marks_answer, plain_answer, write_answer}
use Rattle.rb_model.specs.Calls.{Action, Answer, Call, Done, Flush, HasNoSlot, Marks, Rollback, RollbackTo, Write, is_empty}
use Rattle.rb_model.specs.State.{Savepoint, State, savepoint_of, session_own}
use Rattle.rb_model.specs.declared.marks.Marks as code
use Rattle.rb_model.specs.declared.refusal.Refusal.{Refusal}
use Rattle.rb_model.specs.declared.refusal.Refusal.TheVariants.{TooOld}
use Rattle.rb_model.specs.declared.wrote.Wrote.{Wrote}
use Rattle.rb_model.specs.declared.wrote.Wrote.TheVariants as wrote
use Rattle.rb_sessions.specs.Kept.{kept_at}
use Rattle.law_blocks.specs.Standing.{env_of}
use Rattle.law_write.specs.Verdict.{IsOwnId}
use Rattle.rb_rollback.specs.Backs.{PutsAllBack, PutsBack}

-- A call that changed no block.
module _ (h : State) (call : Call) (lsn : ℕ) (before now : List (List ℕ)) (same : now ≡ before) where
  -- it was refused, and if as too old, with what its kind of call has read
  pub makes_refused : (why : Refusal) → ((scn lost : ℕ) → why ≡ TooOld scn lost → MadeReading h call ⊥ lsn before now) → MadeRefused h call why lsn before now
  makes_refused (TooOld scn lost) old = old scn lost refl
  makes_refused _ old = same

  -- one that answers nothing else than that it is done
  pub makes_plain : (r : Result (Unit {0}) Refusal) → MadeBy h call before now → MadeReading h call ⊥ lsn before now → Makes h call (plain_answer r) lsn before now
  makes_plain (Ok done) made old = made
  makes_plain (Err why) made old = makes_refused why (λ scn lost is. old)

  -- a write that waits, or is refused
  pub makes_waited : {P : Wrote → Type 0} (on : ℕ) (r : Result Wrote Refusal) → ((w : Wrote) → P w → w ≡ wrote.Waits on) → IfOk r P → MadeReading h call ⊥ lsn before now → Makes h call (write_answer r) lsn before now
  makes_waited on (Ok w) is waits old = subst (λ (x : Wrote). Makes h call (write_answer (Ok x)) lsn before now) (sym (is w waits)) same
  makes_waited on (Err why) is waits old = makes_refused why (λ scn lost is. old)

-- the marks of a segment
pub makes_marked : (h : State) (seg : ℕ) (lsn : ℕ) (before now : List (List ℕ)) (r : Result code.Marks Refusal) → now ≡ before → Makes h (Marks seg) (marks_answer seg r) lsn before now
makes_marked h seg lsn before now (Ok marks) same = same
makes_marked h seg lsn before now (Err why) same = makes_refused h (Marks seg) lsn before now same why (λ scn lost is. same)

-- a flush
pub makes_flushed : (h : State) (lsn : ℕ) (before now : List (List ℕ)) (r : Result ℕ Refusal) → now ≡ before → Makes h Flush (flush_answer r) lsn before now
makes_flushed h lsn before now (Ok number) same = same
makes_flushed h lsn before now (Err why) same = makes_refused h Flush lsn before now same why (λ scn lost is. same)

module _ {S : Type 0} (s : Ghosts S) (told : s.tells) where
  -- a write that is done
  pub makes_written : (h : State) (xids : List Xid) (who table key : ℕ) (action : Action) (x : Xid) (lsn : ℕ) (old new : S) → GivesOne s old new true (λ now. WriteMade h xids who table key action x (s.blocks old) now)
      → Makes h (Write who table key action) Done lsn (s.blocks old) (s.blocks new)
  makes_written h xids who table key action x lsn old new one =
      let single = one.one refl in
      let made : WriteMade h xids who table key action x (s.blocks old) (s.blocks new) = subst (λ b. WriteMade h xids who table key action x (s.blocks old) b) (sym (one.logs.blocks told refl)) (one.made (omega (arith, single))) in
      (x.seg, x.slot, made.in_slot, record { address = made.address; undo = made.undo; of_table = made.of_table; of_key = made.of_key; of_home = made.of_home; group = made.group })

  -- a call that was made after blocks were loaded
  pub makes_loaded : (h : State) (call : Call) (answer : Answer) (lsn : ℕ) (old mid : S) (now : List (List ℕ)) → Logs s old mid [] true → Makes h call answer lsn (s.blocks mid) now → Makes h call answer lsn (s.blocks old) now
  makes_loaded h call answer lsn old mid now logs made =
      subst (λ (b : List (List ℕ)). Makes h call answer lsn b now) (logs.blocks told refl) made

-- by the end of a transaction without changes
makes_end : (l : Lasting) (h : State) (who lsn : ℕ) (before now : List (List ℕ)) → is_empty (session_own h who) ≡ true → EndOver h who 0 before now → Makes h (commit_call l who) Done lsn before now
makes_end AtOnce h who lsn before now none ends = inr (none, ends)
makes_end Later h who lsn before now none ends = inr (none, ends)

-- The end of a transaction that has a slot.
module _ {S : Type 0} (s : Ghosts S) (told : s.tells) (laws : Laws s) (h : State) (old : EngineView S) (who : ℕ) (x : Xid) (st : Stands s h old) (going : h.stopped ≡ false)
    (there : (1 ≤ who) × (who ≤ SESSIONS)) (own : (kept_at old.memory.sessions who).own ≡ Some x) (lsn : ℕ) (new : S) where
  abbrev xids : List Xid
  xids = (goes s told laws h old who x st going there own).xids

  by : OwnedBy h (s.blocks old.store) who x
  by = own_by s told laws h old who x st going there own

  pub makes_committed : (l : Lasting) (n : ℕ) → 0 < length (session_own h who) → Commits s l h xids who x old.store new true → Makes h (commit_call l who) (number_told l n) lsn (s.blocks old.store) (s.blocks new)
  makes_committed AtOnce n some done = inl (some_own (session_own h who) some, (x.seg, x.slot, by.owned, done.4))
  makes_committed Later n some done = inl (some_own (session_own h who) some, (x.seg, x.slot, by.owned, done.4))

  -- no change is left of it
  pub makes_left : (l : Lasting) → length (session_own h who) ≡ 0 → PutsAllBack s h xids who x old.store new true → Makes h (commit_call l who) Done lsn (s.blocks old.store) (s.blocks new)
  makes_left l none puts =
      let last = (puts []).4 in
      makes_end l h who lsn (s.blocks old.store) (s.blocks new) (none_own (session_own h who) none) (inl (x.seg, x.slot, by.owned, last.0, subst (λ (n : ℕ). BackOver h.shape (SLOTS * x.seg + x.slot) n (s.blocks old.store) last.0) none last.1, last.2))

  pub makes_back : PutsAllBack s h xids who x old.store new true → Makes h (Rollback who) Done lsn (s.blocks old.store) (s.blocks new)
  makes_back puts = let last = (puts []).4 in inl (x.seg, x.slot, by.owned, last.0, last.1, last.2)

  -- it goes on behind a rollback to a savepoint
  pub makes_cut : (name : List ℕ) (p : Savepoint) → savepoint_of h who name ≡ Some p → PutsBack s h xids who p.kept x old.store new true → Makes h (RollbackTo who name) Done lsn (s.blocks old.store) (s.blocks new)
  makes_cut name p at puts = (p, at, inl (x.seg, x.slot, by.owned, puts.4))

-- The end of one that has none.
module _ {S : Type 0} (s : Ghosts S) (h : State) (old : EngineView S) (goes : Goes s h old) (who : ℕ) (there : (1 ≤ who) × (who ≤ SESSIONS)) (own : (kept_at old.memory.sessions who).own ≡ None) where
  pub no_slot : HasNoSlot h who
  no_slot = let env = env_of h.shape (s.blocks old.store) in none_owned h env who (subst (IsOwnId h env who) own (goes.remembers.each who there.0 there.1).id)

  pub makes_nothing : (l : Lasting) (lsn : ℕ) (blocks : List (List ℕ)) → (kept_at old.memory.sessions who).count ≡ 0 → Makes h (commit_call l who) Done lsn blocks blocks
  makes_nothing l lsn blocks none = makes_end l h who lsn blocks blocks (none_own (session_own h who) (sym (goes.remembers.each who there.0 there.1).count ∙ none)) (inr (no_slot, refl))
