-- What is left where a script's end makes last what waits.
use Rattle.std.proofs.Common.{◌≡◌, ◌≢◌, ◌∙◌, ℕ, false, List, [], Option, sym, ap, subst, arith}
use Rattle.rb_base.specs.Logs.{Laws}
use Rattle.rb_base.specs.declared.shape.Shape.{Shape}
use Rattle.rb_base.specs.declared.store.Store.{Ghosts}
use Rattle.rb_engine.specs.Does.{Does, EngineView, LeavesState}
use Rattle.law_crash.proofs.Steps.{left_with, opens_last, restarts_some}
use Rattle.law_crash.specs.Crash.{Restarts}
use Rattle.law_crash.specs.Images.{HasSome}
use Rattle.rb_model.specs.Calls.{Checkpoint, Done}
use Rattle.rb_model.specs.Out.{Logged}
use Rattle.rb_model.specs.State.{State, all_safe}
use Rattle.rb_shell.specs.Runs.{MadeLast}
use Rattle.rb_calls.specs.Since.{StandsAs}
use Rattle.rb_shell.specs.declared.status.Status.{Status}
use Rattle.rb_shell.specs.declared.status.Status.TheVariants as ends
use Rattle.rb_rollback.specs.Backs.{SameStore}

module _ {S : Type 0} (s : Ghosts S) (laws : Laws s) (m : Logged) (old new : EngineView S) (is : StandsAs s old m) (going : m.state.stopped ≡ false) where
  -- an image has all to the last group, in the machine's blocks
  last_of : Does s m.state Checkpoint Done old new → SameStore s old.store new.store → s.blocks new.store ≡ s.blocks old.store → s.keeps → s.pending new.store ≡ [] → (i : s.image) → s.left new.store i
      → s.opens m.state.shape (s.slots old.store) i m.blocks m.lsn
  last_of does same read kept none i here =
      let state : does.now ≡ all_safe m.state = does.after in
      let on : does.now.stopped ≡ false = ap (λ (h : State). h.stopped) state ∙ going in
      let holds = (does.stands.goes on).holds in
      let groups : does.groups ≡ 0 = does.grows on in
      let number : s.lsn new.store ≡ m.lsn = does.lsn on ∙ omega (arith, groups, is.lsn) in
      let shape : s.shape_of new.store ≡ m.state.shape = does.stands.shape ∙ ap (λ (h : State). h.shape) state in
      let opens = opens_last s laws kept (HasSome does.now does.now.books) new.store (holds.images kept) none i here in
      subst (λ (n : ℕ). s.opens m.state.shape (s.slots old.store) i m.blocks n) number
      (subst (λ (b : List (List ℕ)). s.opens m.state.shape (s.slots old.store) i b (s.lsn new.store)) (read ∙ sym is.blocks)
      (subst (λ (x : Shape). s.opens x (s.slots old.store) i (s.blocks new.store) (s.lsn new.store)) shape
      (subst (λ (k : Option ℕ). s.opens (s.shape_of new.store) k i (s.blocks new.store) (s.lsn new.store)) same.slots opens)))

  -- and all commits
  commits_of : Does s m.state Checkpoint Done old new → SameStore s old.store new.store → s.keeps → (i : s.image) → s.left new.store i → Restarts s.opens (s.slots old.store) (all_safe m.state) i
  commits_of does same kept i here =
      let state : does.now ≡ all_safe m.state = does.after in
      let on : does.now.stopped ≡ false = ap (λ (h : State). h.stopped) state ∙ going in
      let holds = (does.stands.goes on).holds in
      subst (λ (h : State). Restarts s.opens (s.slots old.store) h i) state
      (subst (λ (k : Option ℕ). Restarts s.opens k does.now i) same.slots
      (restarts_some s laws kept does.now does.now.books new.store i does.stands.shape (left_with s laws kept (HasSome does.now does.now.books) new.store (holds.images kept) i here)))

  pub made_last : Does s m.state Checkpoint Done old new → SameStore s old.store new.store → s.blocks new.store ≡ s.blocks old.store → LeavesState s m.state old.store new.store → (s.keeps → s.pending new.store ≡ [])
      → (status : Status) → MadeLast s old.store new.store m status
  made_last does same read leaves none status = record {
    crash = leaves;
    last = λ kept done i here. record { opening = last_of does same read kept (none kept) i here; commits = commits_of does same kept i here };
  }

  pub not_made : LeavesState s m.state old.store new.store → (status : Status) → status ≢ ends.Done → MadeLast s old.store new.store m status
  not_made leaves status other = record { crash = leaves; last = λ kept done. absurd (other done) }
