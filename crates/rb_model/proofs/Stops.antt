-- When a state is stopped: after a fault of the disk, and else where it was before. No call changes the shape or how many
-- sessions there are.
use Rattle.std.proofs.Common.{◌≡◌, ◌≢◌, ◌∙◌, inl, inr, ⊎_elim, refl, sym, ap, ℕ, ◌-◌, true, false, List, length, length-set, Result, Ok, Err}
use Rattle.std.proofs.lemmas.Bool.{cond_both, cases_Bool, false≢true}
use Rattle.rb_base.specs.Counts.{err_is}
use Rattle.rb_model.specs.Answers.{write_answer}
use Rattle.rb_model.specs.Calls.{Call, Write, Commit, CommitLater, Flush, Sweep, Numbered, Flushed, Swept, Rollback, SetMode, SetSavepoint, RollbackTo, OpenCursor, Fetch, CloseCursor, Get, Cancel, Marks, Show, Checkpoint, Answer, Done, Waits, Committed, Given, End, Absent, Marked, Shown, Idle, Refused, is_disk_fault, is_fault}
use Rattle.rb_model.proofs.DeadLemmas.{swept_rest}
use Rattle.rb_model.specs.Dead.{all_slots}
use Rattle.rb_model.specs.NextState.{After, AfterGrant, AfterWait, EndsAs}
use Rattle.rb_model.specs.State.{State, Cursor}
use Rattle.rb_model.specs.declared.refusal.Refusal.{Refusal}
use Rattle.rb_model.specs.declared.refusal.Refusal.TheVariants.{DiskFault}
use Rattle.rb_model.specs.declared.wrote.Wrote.{Wrote}
use Rattle.rb_model.specs.declared.wrote.Wrote.TheVariants as wrote

-- there is one fault of the disk
pub the_fault : (why : Refusal) → is_disk_fault why ≡ true → why ≡ DiskFault
the_fault DiskFault is = refl
the_fault _ is = absurd (false≢true is)

pub other_refusal : (why : Refusal) → why ≢ DiskFault → is_disk_fault why ≡ false
other_refusal why other = ⊎_elim (λ is. absurd (other (the_fault why is))) (λ is. is) (cases_Bool (is_disk_fault why))

-- what a call leaves of a state whatever it does: its shape, how many sessions there are, and whether it is stopped
pub record Stays (h h2 : State) : Type 0 where
  pub shape : h2.shape ≡ h.shape
  pub sessions : length h2.sessions ≡ length h.sessions
  pub stopped : h2.stopped ≡ h.stopped

same_stays : (h h2 : State) → h2 ≡ h → Stays h h2
same_stays h h2 e = record { shape = ap (λ (x : State). x.shape) e; sessions = ap (λ (x : State). length x.sessions) e; stopped = ap (λ (x : State). x.stopped) e }

-- the state is another one in its fields
as_stays : (h h2 x : State) → h2 ≡ x → x.shape ≡ h.shape → length x.sessions ≡ length h.sessions → x.stopped ≡ h.stopped → Stays h h2
as_stays h h2 x e shape sessions stopped = record { shape = ap (λ (y : State). y.shape) e ∙ shape; sessions = ap (λ (y : State). length y.sessions) e ∙ sessions; stopped = ap (λ (y : State). y.stopped) e ∙ stopped }

ends_stays : (h h2 : State) (s : ℕ) (cursors : List Cursor) → EndsAs h s cursors h2 → Stays h h2
ends_stays h h2 s cursors (inl (g, i, owned, e)) = as_stays h h2 _ e refl (length-set h.sessions (s - 1) _) refl
ends_stays h h2 s cursors (inr (none, e)) = as_stays h h2 _ e refl (length-set h.sessions (s - 1) _) refl

grant_stays : (h h2 : State) (c : Call) → AfterGrant h c h2 → Stays h h2
grant_stays h h2 (Write s table key action) (g, i, w, e) = as_stays h h2 _ e refl (length-set h.sessions (s - 1) _) refl
grant_stays h h2 (Commit s) (inl (some, (g, i, owned, e))) = as_stays h h2 _ e refl (length-set h.sessions (s - 1) _) refl
grant_stays h h2 (Commit s) (inr (none, ends)) = ends_stays h h2 s _ ends
grant_stays h h2 (CommitLater s) (inl (some, (g, i, owned, e))) = as_stays h h2 _ e refl (length-set h.sessions (s - 1) _) refl
grant_stays h h2 (CommitLater s) (inr (none, ends)) = ends_stays h h2 s _ ends
grant_stays h h2 (Rollback s) ends = ends_stays h h2 s _ ends
grant_stays h h2 (SetMode s mode) e = as_stays h h2 _ e refl (length-set h.sessions (s - 1) _) refl
grant_stays h h2 (SetSavepoint s name) e = as_stays h h2 _ e refl (length-set h.sessions (s - 1) _) refl
grant_stays h h2 (RollbackTo s name) (p, named, e) = as_stays h h2 _ e refl (length-set h.sessions (s - 1) _) refl
grant_stays h h2 (OpenCursor s name table lo hi) e = as_stays h h2 _ e refl (length-set h.sessions (s - 1) _) refl
grant_stays h h2 (Fetch s name) e = as_stays h h2 _ e refl (length-set h.sessions (s - 1) _) refl
grant_stays h h2 (CloseCursor s name) e = as_stays h h2 _ e refl (length-set h.sessions (s - 1) _) refl
grant_stays h h2 (Get s table key) e = same_stays h h2 e
grant_stays h h2 (Show s) e = same_stays h h2 e
grant_stays h h2 (Cancel s) e = as_stays h h2 _ e refl refl refl
grant_stays h h2 (Marks seg) e = same_stays h h2 e
grant_stays h h2 Flush e = as_stays h h2 _ e refl refl refl
grant_stays h h2 (Sweep k) e = let rest = swept_rest k (all_slots h) h in as_stays h h2 _ e rest.shape rest.many rest.stopped
grant_stays h h2 Checkpoint e = as_stays h h2 _ e refl refl refl

wait_stays : (h h2 : State) (c : Call) (on : ℕ) → AfterWait h c on h2 → Stays h h2
wait_stays h h2 (Write s table key action) on e = as_stays h h2 _ e refl refl refl
wait_stays h h2 (Commit s) on e = same_stays h h2 e
wait_stays h h2 (CommitLater s) on e = same_stays h h2 e
wait_stays h h2 (Rollback s) on e = same_stays h h2 e
wait_stays h h2 (SetMode s mode) on e = same_stays h h2 e
wait_stays h h2 (SetSavepoint s name) on e = same_stays h h2 e
wait_stays h h2 (RollbackTo s name) on e = same_stays h h2 e
wait_stays h h2 (OpenCursor s name table lo hi) on e = same_stays h h2 e
wait_stays h h2 (Fetch s name) on e = same_stays h h2 e
wait_stays h h2 (CloseCursor s name) on e = same_stays h h2 e
wait_stays h h2 (Get s table key) on e = same_stays h h2 e
wait_stays h h2 (Show s) on e = same_stays h h2 e
wait_stays h h2 (Cancel s) on e = same_stays h h2 e
wait_stays h h2 (Marks seg) on e = same_stays h h2 e
wait_stays h h2 Flush on e = same_stays h h2 e
wait_stays h h2 (Sweep k) on e = same_stays h h2 e
wait_stays h h2 Checkpoint on e = same_stays h h2 e

-- any other refusal leaves the state
pub refused_same : (h h2 : State) (c : Call) (why : Refusal) → is_disk_fault why ≡ false → After h c (Refused why) h2 → h2 ≡ h
refused_same h h2 c why is after = after ∙ cond_both (is_disk_fault why) (record h { stopped = true }) h (λ (x : State). x ≡ h) (λ yes. absurd (false≢true (sym is ∙ yes))) (λ no. refl)

pub refused_stops : (h h2 : State) (c : Call) (why : Refusal) → is_disk_fault why ≡ true → After h c (Refused why) h2 → h2 ≡ record h { stopped = true }
refused_stops h h2 c why is after = after ∙ cond_both (is_disk_fault why) (record h { stopped = true }) h (λ (x : State). x ≡ record h { stopped = true }) (λ yes. refl) (λ no. absurd (false≢true (sym no ∙ is)))

-- an answer that tells of no fault of the disk leaves the state going
pub fine_stays : (h h2 : State) (c : Call) (r : Answer) → is_fault r ≡ false → After h c r h2 → Stays h h2
fine_stays h h2 c Done is after = grant_stays h h2 c after
fine_stays h h2 c (Waits on) is after = wait_stays h h2 c on after
fine_stays h h2 c (Committed n) is after = grant_stays h h2 c after
fine_stays h h2 c (Numbered n) is after = grant_stays h h2 c after
fine_stays h h2 c (Flushed n) is after = grant_stays h h2 c after
fine_stays h h2 c (Swept n) is after = grant_stays h h2 c after
fine_stays h h2 c (Given key value) is after = grant_stays h h2 c after
fine_stays h h2 c End is after = same_stays h h2 after
fine_stays h h2 c Absent is after = same_stays h h2 after
fine_stays h h2 c (Marked seg writes lost) is after = same_stays h h2 after
fine_stays h h2 c (Shown s activity) is after = same_stays h h2 after
fine_stays h h2 c Idle is after = same_stays h h2 after
fine_stays h h2 c (Refused why) is after = same_stays h h2 (refused_same h h2 c why is after)

pub after_stops : (h h2 : State) (c : Call) (r : Answer) → is_fault r ≡ true → After h c r h2 → h2 ≡ record h { stopped = true }
after_stops h h2 c (Refused why) is after = refused_stops h h2 c why is after
after_stops h h2 c Done is after = absurd (false≢true is)
after_stops h h2 c (Waits on) is after = absurd (false≢true is)
after_stops h h2 c (Committed n) is after = absurd (false≢true is)
after_stops h h2 c (Numbered n) is after = absurd (false≢true is)
after_stops h h2 c (Flushed n) is after = absurd (false≢true is)
after_stops h h2 c (Swept n) is after = absurd (false≢true is)
after_stops h h2 c (Given key value) is after = absurd (false≢true is)
after_stops h h2 c End is after = absurd (false≢true is)
after_stops h h2 c Absent is after = absurd (false≢true is)
after_stops h h2 c (Marked seg writes lost) is after = absurd (false≢true is)
after_stops h h2 c (Shown s activity) is after = absurd (false≢true is)
after_stops h h2 c Idle is after = absurd (false≢true is)

-- what goes on after a call went on before it, and the call told of no fault
pub went_on : (h h2 : State) (c : Call) (r : Answer) → After h c r h2 → h2.stopped ≡ false → h.stopped ≡ false
went_on h h2 c r after going = ⊎_elim
    (λ (is : is_fault r ≡ true). absurd (false≢true (sym going ∙ ap (λ (x : State). x.stopped) (after_stops h h2 c r is after))))
    (λ (is : is_fault r ≡ false). sym ((fine_stays h h2 c r is after).stopped) ∙ going)
    (cases_Bool (is_fault r))

-- no call changes the shape
pub after_shape : (h h2 : State) (c : Call) (r : Answer) → After h c r h2 → h2.shape ≡ h.shape
after_shape h h2 c r after = ⊎_elim
    (λ (is : is_fault r ≡ true). ap (λ (x : State). x.shape) (after_stops h h2 c r is after))
    (λ (is : is_fault r ≡ false). (fine_stays h h2 c r is after).shape)
    (cases_Bool (is_fault r))

-- the code's refusals that tell of one, as the machine's answers

pub fault_of_write : (r : Result Wrote Refusal) → err_is is_disk_fault r ≡ is_fault (write_answer r)
fault_of_write (Ok wrote.Done) = refl
fault_of_write (Ok (wrote.Waits on)) = refl
fault_of_write (Err why) = refl
