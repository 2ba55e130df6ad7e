-- What a commit leaves of a store that has a state: one commit more, in each image once its number is answered.
use Rattle.std.proofs.Common.{◌≡◌, ◌⊎◌, inl, inr, ◌≤◌, ◌+◌, ℕ, true, false, List, [], ◌∷◌, ◌++◌, length, Option, Some, refl, sym, ◌∙◌, ap, subst, arith, length-append}
use Rattle.rb_base.specs.Blocks.{after_groups}
use Rattle.rb_base.specs.Groups.{Patch}
use Rattle.rb_base.specs.Keeps.{Keeps}
use Rattle.rb_base.specs.Logs.{Flushes, Laws, LogsBy}
use Rattle.rb_base.specs.declared.ids.Xid.{Xid}
use Rattle.rb_base.specs.declared.store.Store.{Ghosts}
use Rattle.law_crash.specs.Between.{Extends, IsCommit, with_commit}
use Rattle.law_crash.specs.Crash.{Survives}
use Rattle.law_crash.specs.Holds.{Holds}
use Rattle.law_crash.specs.Images.{HasSome, HasState}
use Rattle.law_crash.specs.Made.{CommitMade, GivesOne}
use Rattle.law_crash.proofs.Beside.{blocks_stand}
use Rattle.law_crash.proofs.Crashes.{has_later, has_state}
use Rattle.law_crash.proofs.Marks.{grows_finished, shrinks_finished}
use Rattle.law_crash.proofs.Steps.{commit_failed, read_has, survives_flush}
use Rattle.law_crash.proofs.StepsHeld.{few_each, step_holds}
use Rattle.rb_model.specs.Calls.{Call, is_empty}
use Rattle.rb_model.specs.NextState.{committed}
use Rattle.rb_model.specs.Rows.{last_scn}
use Rattle.rb_model.specs.State.{State, all_safe, session_own}
use Rattle.law_blocks.specs.Standing.{logged_of}
use Rattle.law_blocks.specs.States.{BlocksStand}

module _ {S : Type 0} (s : Ghosts S) (told : s.tells) (laws : Laws s) (h : State) (xids : List Xid) (who : ℕ) (x : Xid) (old : S) (shape : s.shape_of old ≡ h.shape) (holds : Holds s h xids old) where
  abbrev pub next : State
  next = committed h who x.seg x.slot

  abbrev Is : List (List ℕ) → Type 0
  Is now = CommitMade h xids who x (s.blocks old) now

  pub next_number : last_scn next.commits ≡ last_scn h.commits + 1
  next_number = let long = length-append h.commits.list (session_own h who ∷ []) in omega (arith, long)

  pub extends : Extends h next
  extends = record { shape = refl; base = refl; rows = refl; more = session_own h who ∷ []; list = refl; marks = grows_finished h.shape h.books (last_scn h.commits + 1) x.seg x.slot holds.blocks.tell.books_counted; safe = omega arith }

  -- the blocks that the group makes have the next state
  made_has : (now : List (List ℕ)) → CommitMade h xids who x (s.blocks old) now → HasState next next.books (last_scn next.commits) now (s.lsn old + 1)
  made_has now m = has_state next (xids ++ x ∷ []) now (s.lsn old + 1) m.stand (ap (λ (n : ℕ). n + 1) holds.logged ∙ sym m.last)

  -- The commit's group was given. It needn't last yet, nor the groups before it.
  pub holds_later : (fault : Option Call) (new : S) → GivesOne s old new true (λ now. CommitMade h xids who x (s.blocks old) now) → Holds s next (xids ++ x ∷ []) new × (s.keeps → Survives s (s.slots old) fault h next old new)
  holds_later fault new one =
      step_holds s told laws h next xids (xids ++ x ∷ []) old new shape extends (omega arith) holds fault
      (record { groups = one.groups; logs = one.logs; few = one.few; one = one.one; made = λ some. let m = one.made some in (m.stand, m.last) })

  -- A call failed, with the group or before it.
  pub commit_fault : {Between : S → S → Type 0} (fault : Option Call) (new : S) (groups : List (List Patch)) → IsCommit who fault → length groups ≤ 1 → LogsBy s Between old new groups false
      → (1 ≤ length groups → CommitMade h xids who x (s.blocks old) (after_groups (s.lsn old + 1) groups (s.blocks old)))
      → is_empty (session_own h who) ≡ false → s.keeps → Survives s (s.slots old) fault h (record h { stopped = true }) old new
  commit_fault fault new groups is few logs made some keeps =
      let P : List (List ℕ) → ℕ → Type 0 = HasSome h h.books in
      let Q : List (List ℕ) → ℕ → Type 0 = λ b n. HasSome h h.books b n ⊎ HasState (with_commit h who) h.books (last_scn h.commits + 1) b n in
      commit_failed s laws keeps h who fault old new groups is shape some (holds.images keeps) logs
      (few_each s told laws Q groups (s.blocks old) (s.lsn old) keeps few (inl (read_has s laws keeps P old (holds.images keeps)))
      (λ one. inr (
      let now = after_groups (s.lsn old + 1) groups (s.blocks old) in
      has_later next (with_commit h who) next.books h.books (last_scn h.commits + 1) now (s.lsn old + 1) refl refl (shrinks_finished h.shape h.books (last_scn h.commits + 1) x.seg x.slot holds.blocks.tell.books_counted)
      (subst (λ (n : ℕ). HasState next next.books n now (s.lsn old + 1)) next_number (made_has now (made one))))))

-- All that waited was made last.
module _ {S : Type 0} (s : Ghosts S) (laws : Laws s) (h : State) (xids : List Xid) (old new : S) (shape : s.shape_of old ≡ h.shape) (holds : Holds s h xids old) (told : s.tells) where
  pub holds_flushed : (fault : Option Call) → Flushes s old new [] true → (s.keeps → s.pending new ≡ []) → Holds s (all_safe h) xids new × (s.keeps → Survives s (s.slots old) fault h (all_safe h) old new)
  holds_flushed fault logs none =
      let same : s.blocks new ≡ s.blocks old = logs.blocks told refl in
      let number : s.lsn new ≡ s.lsn old = let n = logs.number refl in omega (arith, n) in
      let stand : BlocksStand h xids (s.blocks new) = subst (BlocksStand h xids) (sym same) holds.blocks in
      let logged : s.lsn new ≡ logged_of h.shape (s.blocks new) = number ∙ holds.logged ∙ ap (logged_of h.shape) (sym same) in
      let has : HasState h h.books (last_scn h.commits) (s.blocks new) (s.lsn new) = has_state h xids (s.blocks new) (s.lsn new) stand logged in
      let both : (keeps : s.keeps) → Survives s (s.slots old) fault h (all_safe h) old new × Keeps s (HasSome (all_safe h) h.books) new = λ keeps. survives_flush s laws keeps h old new shape (holds.images keeps) logs (none keeps) has in (
        record { blocks = blocks_stand h h.queue h.asked (last_scn h.commits) xids (s.blocks new) stand; logged = logged; images = λ keeps. (both keeps).1 },
        λ keeps. (both keeps).0,
      )
