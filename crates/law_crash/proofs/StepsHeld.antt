-- What each step of a session leaves of a store that has a state: the next state, and of a crash no more than the two.
use Rattle.std.proofs.Common.{◌≡◌, ◌≤◌, ◌+◌, ℕ, true, false, List, [], ◌∷◌, length, Option, Some, refl, sym, ◌∙◌, ap, subst, arith}
use Rattle.rb_base.specs.Blocks.{after_groups}
use Rattle.rb_base.specs.Groups.{Patch}
use Rattle.rb_base.specs.Keeps.{AfterEach}
use Rattle.rb_base.specs.Logs.{Laws}
use Rattle.rb_base.specs.declared.ids.Xid.{Xid}
use Rattle.rb_base.specs.declared.store.Store.{Ghosts}
use Rattle.law_crash.specs.Between.{Extends}
use Rattle.law_crash.specs.Crash.{Survives}
use Rattle.law_crash.specs.Holds.{Holds}
use Rattle.law_crash.specs.Images.{HasSome, HasState}
use Rattle.law_crash.specs.Made.{BackMade, CleanMade, EndMade, GivesOne, WriteMade}
use Rattle.law_crash.proofs.Crashes.{extends_later, extends_same, grow_same, has_later, has_state, some_last, some_later}
use Rattle.law_crash.proofs.Marks.{grows_left, grows_written}
use Rattle.law_crash.proofs.Steps.{keeps_on, none_each, one_each, read_has, survives_going, survives_write}
use Rattle.rb_model.specs.Calls.{Action, Call, Write, has_slot}
use Rattle.rb_model.specs.Change.{Change}
use Rattle.rb_model.specs.NextState.{books_written, change_in, ended, without_owner, written}
use Rattle.rb_model.specs.Rows.{last_scn}
use Rattle.rb_model.specs.State.{Cursor, State}
use Rattle.rb_model.specs.NextState.{with_own}
use Rattle.law_blocks.specs.Standing.{logged_of}
use Rattle.law_blocks.specs.States.{BlocksStand}

module _ {S : Type 0} (s : Ghosts S) (told : s.tells) (laws : Laws s) where
  -- at most one group
  pub few_each : (Q : List (List ℕ) → ℕ → Type 0) (groups : List (List Patch)) (b : List (List ℕ)) (n : ℕ) → s.keeps → length groups ≤ 1 → Q b n → (1 ≤ length groups → Q (after_groups (n + 1) groups b) (n + 1)) → AfterEach Q n groups b
  few_each Q [] b n keeps few before after = none_each s laws keeps Q b n before
  few_each Q (g ∷ []) b n keeps few before after = one_each s laws keeps Q g b n before (after (omega arith))
  few_each Q (g ∷ k ∷ more) b n keeps few before after = absurd (omega (arith, few))

  -- what a call that went well made is what the store reads
  made_now : (Is : List (List ℕ) → Type 0) (old new : S) → (one : GivesOne s old new true Is) → Is (s.blocks new) × (s.lsn new ≡ s.lsn old + 1)
  made_now Is old new one =
      let single = one.one refl in
      (subst Is (sym (one.logs.blocks told refl)) (one.made (omega (arith, single))), omega (arith, one.logs.number refl, single))

  -- A step after which no more is acknowledged: the state is the next one, and each image has that or the one before.
  module _ (h h2 : State) (xids xids2 : List Xid) (old new : S) (shape : s.shape_of old ≡ h.shape) (extends : Extends h h2) (safe : h2.safe ≤ h.safe) (holds : Holds s h xids old) where
    abbrev Next : List (List ℕ) → Type 0
    Next now = BlocksStand h2 xids2 now × (logged_of h.shape now ≡ logged_of h.shape (s.blocks old) + 1)

    -- the blocks that a group makes have the next state
    next_has : s.keeps → (now : List (List ℕ)) → Next now → HasSome h2 h2.books now (s.lsn old + 1)
    next_has keeps now made =
        let was = read_has s laws keeps (HasSome h h.books) old (holds.images keeps) in
        some_last h2 h2.books now (s.lsn old + 1) (omega (arith, safe, was.acknowledged, was.made, extends_later h h2 extends))
        (has_state h2 xids2 now (s.lsn old + 1) made.0 (ap (λ (n : ℕ). n + 1) holds.logged ∙ (sym made.1 ∙ ap (λ x. logged_of x now) (sym extends.shape))))

    pub step_holds : (fault : Option Call) (one : GivesOne s old new true Next) → Holds s h2 xids2 new × (s.keeps → Survives s (s.slots old) fault h h2 old new)
    step_holds fault one =
        let made = made_now Next old new one in
        let number : s.lsn new ≡ logged_of h2.shape (s.blocks new) = made.1 ∙ (ap (λ (n : ℕ). n + 1) holds.logged ∙ (sym made.0.1 ∙ ap (λ x. logged_of x (s.blocks new)) (sym extends.shape))) in
        let P : List (List ℕ) → ℕ → Type 0 = HasSome h h.books in
        let Q : List (List ℕ) → ℕ → Type 0 = HasSome h2 h2.books in
        let so : (b : List (List ℕ)) (n : ℕ) → P b n → Q b n = λ b n has. some_later h h2 h.books h2.books b n extends safe extends.marks has in
        let each : (keeps : s.keeps) → AfterEach Q (s.lsn old) one.groups (s.blocks old) = λ keeps.
        few_each Q one.groups (s.blocks old) (s.lsn old) keeps one.few (so _ _ (read_has s laws keeps P old (holds.images keeps)))
        (λ some. next_has keeps (after_groups (s.lsn old + 1) one.groups (s.blocks old)) (one.made some)) in (
          record {
            blocks = made.0.0;
            logged = number;
            images = λ keeps. keeps_on s laws keeps P Q so old new one.groups (holds.images keeps) one.logs (each keeps);
          },
          λ keeps. survives_going s laws keeps h h2 old new one.groups shape extends safe (holds.images keeps) true one.logs (each keeps),
        )

  -- What calls that gave at most one group leave where a call failed, if the group changes neither commits nor marks.
  step_fault : {fault : Option Call} → (h : State) (xids : List Xid) (old new : S) → s.shape_of old ≡ h.shape → Holds s h xids old
      → (one : GivesOne s old new false (λ now. HasState h h.books (last_scn h.commits) now (s.lsn old + 1))) → s.keeps → Survives s (s.slots old) fault h (record h { stopped = true }) old new
  step_fault h xids old new shape holds one keeps =
      let P : List (List ℕ) → ℕ → Type 0 = HasSome h h.books in
      let h2 : State = record h { stopped = true } in
      let Q : List (List ℕ) → ℕ → Type 0 = HasSome h2 h2.books in
      let stops = extends_same h h2 refl refl (grow_same h.shape h.books) (omega arith) in
      let so : (b : List (List ℕ)) (n : ℕ) → P b n → Q b n = λ b n has. some_later h h2 h.books h.books b n stops (omega arith) (grow_same h.shape h.books) has in
      let was = read_has s laws keeps P old (holds.images keeps) in
      survives_going s laws keeps h h2 old new one.groups shape stops (omega arith) (holds.images keeps) false one.logs
      (few_each Q one.groups (s.blocks old) (s.lsn old) keeps one.few (so _ _ was)
      (λ more. so _ _ (some_last h h.books (after_groups (s.lsn old + 1) one.groups (s.blocks old)) (s.lsn old + 1) (omega (arith, was.acknowledged, was.made)) (one.made more))))

  -- A write.
  module _ (h : State) (xids : List Xid) (who : ℕ) (old new : S) (table key : ℕ) (action : Action) (x : Xid) (shape : s.shape_of old ≡ h.shape) (holds : Holds s h xids old) where
    abbrev pub after_it : State
    after_it = written h who x.seg x.slot (change_in h x.seg table key action)

    abbrev Is : List (List ℕ) → Type 0
    Is now = WriteMade h xids who table key action x (s.blocks old) now

    pub holds_written : (fault : Option Call) → GivesOne s old new true (λ now. WriteMade h xids who table key action x (s.blocks old) now) → Holds s after_it xids new × (s.keeps → Survives s (s.slots old) fault h after_it old new)
    holds_written fault one =
        step_holds h after_it xids xids old new shape (extends_same h after_it refl refl (grows_written h.shape h.books who x.seg x.slot (has_slot h who x.seg x.slot) holds.blocks.tell.books_counted) (omega arith)) (omega arith) holds fault
        (record { groups = one.groups; logs = one.logs; few = one.few; one = one.one; made = λ some. let m = one.made some in (m.stand, m.last) })

    pub write_fault : GivesOne s old new false (λ now. WriteMade h xids who table key action x (s.blocks old) now) → s.keeps → Survives s (s.slots old) (Some (Write who table key action)) h (record h { stopped = true }) old new
    write_fault one keeps = by one.groups refl
      where
        P : List (List ℕ) → ℕ → Type 0
        P = HasSome h h.books

        by : (groups : List (List Patch)) → one.groups ≡ groups → Survives s (s.slots old) (Some (Write who table key action)) h (record h { stopped = true }) old new
        by [] e = step_fault h xids old new shape holds (record { groups = one.groups; logs = one.logs; few = one.few; one = one.one; made = λ some. absurd (omega (arith, some, ap length e)) }) keeps
        by (g ∷ more) e =
            let some : 1 ≤ length one.groups = omega (arith, ap length e) in
            let m = one.made some in
            let books = books_written who x.seg x.slot (has_slot h who x.seg x.slot) h.books in
            let grow = grows_written h.shape h.books who x.seg x.slot (has_slot h who x.seg x.slot) holds.blocks.tell.books_counted in
            let Q : List (List ℕ) → ℕ → Type 0 = HasSome h books in
            let stays = extends_same h h refl refl (grow_same h.shape h.books) (omega arith) in
            let so : (b : List (List ℕ)) (n : ℕ) → P b n → Q b n = λ b n has. some_later h h h.books books b n stays (omega arith) grow has in
            let was = read_has s laws keeps P old (holds.images keeps) in
            let now = after_groups (s.lsn old + 1) one.groups (s.blocks old) in
            let has : HasState after_it after_it.books (last_scn after_it.commits) now (s.lsn old + 1) = has_state after_it xids now (s.lsn old + 1) m.stand (ap (λ (n : ℕ). n + 1) holds.logged ∙ sym m.last) in
            survives_write s laws keeps h who table key action x.seg x.slot old new one.groups shape m.in_slot grow (holds.images keeps) one.logs
            (few_each Q one.groups (s.blocks old) (s.lsn old) keeps one.few (so _ _ was)
            (λ _. some_last h books now (s.lsn old + 1) (omega (arith, was.acknowledged, was.made)) (has_later after_it h after_it.books books (last_scn h.commits) now (s.lsn old + 1) refl refl (grow_same h.shape books) has)))

  -- The put back of the session's last change.
  module _ (h : State) (xids : List Xid) (who : ℕ) (old new : S) (front : List Change) (shape : s.shape_of old ≡ h.shape) (holds : Holds s h xids old) where
    pub holds_back : (fault : Option Call) → GivesOne s old new true (λ now. BackMade h xids who front (s.blocks old) now) → Holds s (with_own h who front) xids new × (s.keeps → Survives s (s.slots old) fault h (with_own h who front) old new)
    holds_back fault one =
        step_holds h (with_own h who front) xids xids old new shape (extends_same h (with_own h who front) refl refl (grow_same h.shape h.books) (omega arith)) (omega arith) holds fault
        (record { groups = one.groups; logs = one.logs; few = one.few; one = one.one; made = λ some. let m = one.made some in (m.stand, m.last) })

  -- The end of the session's transaction without a change.
  module _ (h : State) (xids : List Xid) (who : ℕ) (x : Xid) (old new : S) (shape : s.shape_of old ≡ h.shape) (holds : Holds s h xids old) where
    pub holds_ended : (fault : Option Call) (cursors : List Cursor) → GivesOne s old new true (λ now. EndMade h xids who x (s.blocks old) now)
        → Holds s (without_owner x.seg x.slot (ended h who cursors)) xids new × (s.keeps → Survives s (s.slots old) fault h (without_owner x.seg x.slot (ended h who cursors)) old new)
    holds_ended fault cursors one =
        let h2 : State = without_owner x.seg x.slot (ended h who cursors) in
        step_holds h h2 xids xids old new shape (extends_same h h2 refl refl (grows_left h.shape h.books x.seg x.slot holds.blocks.tell.books_counted) (omega arith)) (omega arith) holds fault
        (record { groups = one.groups; logs = one.logs; few = one.few; one = one.one; made = λ some. let m = one.made some in (m.stand cursors, m.last) })

  -- The cleaning of a block that is read.
  module _ (h : State) (xids : List Xid) (old new : S) (b : ℕ) (shape : s.shape_of old ≡ h.shape) (holds : Holds s h xids old) where
    pub holds_cleaned : (fault : Option Call) → GivesOne s old new true (λ now. CleanMade h xids b (s.blocks old) now) → Holds s h xids new × (s.keeps → Survives s (s.slots old) fault h h old new)
    holds_cleaned fault one =
        step_holds h h xids xids old new shape (extends_same h h refl refl (grow_same h.shape h.books) (omega arith)) (omega arith) holds fault
        (record { groups = one.groups; logs = one.logs; few = one.few; one = one.one; made = λ some. let m = one.made some in (m.stand, m.last) })

    pub clean_fault : {fault : Option Call} → GivesOne s old new false (λ now. CleanMade h xids b (s.blocks old) now) → s.keeps → Survives s (s.slots old) fault h (record h { stopped = true }) old new
    clean_fault one keeps =
        step_fault h xids old new shape holds (record {
          groups = one.groups;
          logs = one.logs;
          few = one.few;
          one = one.one;
          made = λ some.
              let m = one.made some in
              let now = after_groups (s.lsn old + 1) one.groups (s.blocks old) in
              has_state h xids now (s.lsn old + 1) m.stand (ap (λ (n : ℕ). n + 1) holds.logged ∙ sym m.last);
        }) keeps
