-- What a call acknowledges, and that what is acknowledged stays so.
use Rattle.std.proofs.Common.{◌≡◌, ◌⊎◌, ◌≤◌, ◌<◌, ◌∙◌, inl, inr, refl, sym, ap, subst, ℕ, ◌+◌, zero, suc, Bool, true, false, List, [], ◌∷◌, ◌++◌, length-append, Option, None, Some, arith}
use Rattle.std.specs.Bool.{MatchBool}
use Rattle.std.specs.Prelude.{◌&&◌, if◌then◌else◌, nat_le, not, slice_get}
use Rattle.std.proofs.lemmas.Bool.{cond_both}
use Rattle.rb_model.specs.Calls.{Call, Write, Commit, CommitLater, Flush, Sweep, Rollback, SetMode, SetSavepoint, RollbackTo, OpenCursor, Fetch, CloseCursor, Get, Cancel, Marks, Show, Checkpoint}
use Rattle.rb_model.proofs.DeadLemmas.{clears_rest, swept_rest}
use Rattle.rb_model.specs.Dead.{all_slots}
use Rattle.rb_model.specs.Calls.{Answer, Done, Waits, Committed, Numbered, Flushed, Swept, Given, End, Absent, Marked, Shown, Idle, Refused, MayAnswer, LaterTests, early, later, fault, old}
use Rattle.rb_model.specs.Calls.{adds_now, activity_of, got, is_idle, rows_now, rows_seen, early_tests, first_of, given, granted, is_disk_fault, is_fault, is_empty, next_row, refused_by, key_tests, serial_tests, waited, write_tests}
use Rattle.rb_model.specs.Clearing.{ClearsTo}
use Rattle.rb_model.specs.NextState.{After, AfterGrant, AfterWait, EndsAs, committed, unqueued}
use Rattle.rb_model.specs.Out.{CallsOut, LineSaid, Logged, Out, Outside, ResumesOut, bad, command, goes_on, skipped, too_long}
use Rattle.rb_model.specs.Lines.{Command, call_of}
use Rattle.rb_model.specs.Queue.{Waiter}
use Rattle.rb_model.specs.Rows.{Commits, TableRow, has_row, last_scn, value_of}
use Rattle.rb_model.specs.Safe.{SafeIsMade}
use Rattle.rb_model.specs.State.{Cursor, State, all_safe, cursor_of, cursor_rows, isolation_of, session_own}
use Rattle.rb_model.specs.Tests.{full_slots, holder, made_since}
use Rattle.rb_model.specs.Book.{book_at, is_full}
use Rattle.rb_model.specs.Full.{full_block}
use Rattle.rb_base.specs.declared.sizes.TheConstants.{WORN}
use Rattle.rb_model.specs.declared.refusal.Refusal.TheVariants.{Duplicate, NotFound, BlockFull, SlotsFull, RollbackFull, WornOut}
use Rattle.rb_model.specs.declared.mode.Isolation.{Isolation}
use Rattle.rb_model.specs.declared.mode.Isolation.TheVariants as isolation
use Rattle.rb_model.specs.declared.refusal.Refusal.{Refusal}

abbrev pub Kept : State → State → Type 0
Kept h h2 = SafeIsMade h → (h.safe ≤ h2.safe) × SafeIsMade h2

-- The state is another one that acknowledges and has as many commits.
rests : (h h2 x : State) → h2 ≡ x → x.safe ≡ h.safe → x.commits ≡ h.commits → Kept h h2
rests h h2 x e safe commits made =
    let last : last_scn h2.commits ≡ last_scn h.commits = ap (λ (y : State). last_scn y.commits) e ∙ ap last_scn commits in
    let same : h2.safe ≡ h.safe = ap (λ (y : State). y.safe) e ∙ safe in
    (omega (arith, same), omega (arith, same, last, made))

kept_on : (h m h2 : State) → Kept h m → Kept m h2 → Kept h h2
kept_on h m h2 first second made =
    let a = first made in
    let b = second a.1 in
    (omega (arith, a.0, b.0), b.1)

-- one commit more has the next number
one_more : (h : State) (s g i : ℕ) → last_scn (committed h s g i).commits ≡ last_scn h.commits + 1
one_more h s g i = let long = length-append h.commits.list (session_own h s ∷ []) in omega (arith, long)

ends_kept : (h h2 : State) (s : ℕ) (cursors : List Cursor) → EndsAs h s cursors h2 → Kept h h2
ends_kept h h2 s cursors (inl (g, i, owned, e)) = rests h h2 _ e refl refl
ends_kept h h2 s cursors (inr (none, e)) = rests h h2 _ e refl refl

-- all commits are acknowledged then
all_kept : (h h2 : State) → h2 ≡ all_safe h → Kept h h2
all_kept h h2 e made =
    let safe : h2.safe ≡ last_scn h.commits = ap (λ (y : State). y.safe) e in
    let last : last_scn h2.commits ≡ last_scn h.commits = ap (λ (y : State). last_scn y.commits) e in
    (omega (arith, safe, made), omega (arith, safe, last))

grant_kept : (h h2 : State) (c : Call) → AfterGrant h c h2 → Kept h h2
grant_kept h h2 (Write s table key action) (g, i, w, e) = rests h h2 _ e refl refl
grant_kept h h2 (Commit s) (inl (own, (g, i, owned, e))) = λ made.
    let safe : h2.safe ≡ last_scn (committed h s g i).commits = ap (λ (y : State). y.safe) e in
    let last : last_scn h2.commits ≡ last_scn (committed h s g i).commits = ap (λ (y : State). last_scn y.commits) e in
    let one = one_more h s g i in
    (omega (arith, safe, one, made), omega (arith, safe, last))
grant_kept h h2 (Commit s) (inr (none, ends)) = ends_kept h h2 s _ ends
grant_kept h h2 (CommitLater s) (inl (own, (g, i, owned, e))) = λ made.
    let safe : h2.safe ≡ h.safe = ap (λ (y : State). y.safe) e in
    let last : last_scn h2.commits ≡ last_scn (committed h s g i).commits = ap (λ (y : State). last_scn y.commits) e in
    let one = one_more h s g i in
    (omega (arith, safe), omega (arith, safe, last, one, made))
grant_kept h h2 (CommitLater s) (inr (none, ends)) = ends_kept h h2 s _ ends
grant_kept h h2 (Rollback s) ends = ends_kept h h2 s _ ends
grant_kept h h2 (SetMode s mode) e = rests h h2 _ e refl refl
grant_kept h h2 (SetSavepoint s name) e = rests h h2 _ e refl refl
grant_kept h h2 (RollbackTo s name) (p, named, e) = rests h h2 _ e refl refl
grant_kept h h2 (OpenCursor s name table lo hi) e = rests h h2 _ e refl refl
grant_kept h h2 (Fetch s name) e = rests h h2 _ e refl refl
grant_kept h h2 (CloseCursor s name) e = rests h h2 _ e refl refl
grant_kept h h2 (Get s table key) e = rests h h2 h e refl refl
grant_kept h h2 (Cancel s) e = rests h h2 _ e refl refl
grant_kept h h2 (Marks seg) e = rests h h2 h e refl refl
grant_kept h h2 (Show s) e = rests h h2 h e refl refl
grant_kept h h2 Flush e = all_kept h h2 e
grant_kept h h2 (Sweep k) e = let rest = swept_rest k (all_slots h) h in rests h h2 _ e rest.safe rest.commits
grant_kept h h2 Checkpoint e = all_kept h h2 e

wait_kept : (h h2 : State) (c : Call) (on : ℕ) → AfterWait h c on h2 → Kept h h2
wait_kept h h2 (Write s table key action) on e = rests h h2 _ e refl refl
wait_kept h h2 (Commit s) on e = rests h h2 h e refl refl
wait_kept h h2 (CommitLater s) on e = rests h h2 h e refl refl
wait_kept h h2 (Rollback s) on e = rests h h2 h e refl refl
wait_kept h h2 (SetMode s mode) on e = rests h h2 h e refl refl
wait_kept h h2 (SetSavepoint s name) on e = rests h h2 h e refl refl
wait_kept h h2 (RollbackTo s name) on e = rests h h2 h e refl refl
wait_kept h h2 (OpenCursor s name table lo hi) on e = rests h h2 h e refl refl
wait_kept h h2 (Fetch s name) on e = rests h h2 h e refl refl
wait_kept h h2 (CloseCursor s name) on e = rests h h2 h e refl refl
wait_kept h h2 (Cancel s) on e = rests h h2 h e refl refl
wait_kept h h2 (Get s table key) on e = rests h h2 h e refl refl
wait_kept h h2 (Marks seg) on e = rests h h2 h e refl refl
wait_kept h h2 (Show s) on e = rests h h2 h e refl refl
wait_kept h h2 Flush on e = rests h h2 h e refl refl
wait_kept h h2 (Sweep k) on e = rests h h2 h e refl refl
wait_kept h h2 Checkpoint on e = rests h h2 h e refl refl

pub after_kept : (h h2 : State) (c : Call) (r : Answer) → After h c r h2 → Kept h h2
after_kept h h2 c Done after = grant_kept h h2 c after
after_kept h h2 c (Waits on) after = wait_kept h h2 c on after
after_kept h h2 c (Committed n) after = grant_kept h h2 c after
after_kept h h2 c (Numbered n) after = grant_kept h h2 c after
after_kept h h2 c (Flushed n) after = grant_kept h h2 c after
after_kept h h2 c (Swept n) after = grant_kept h h2 c after
after_kept h h2 c (Given key value) after = grant_kept h h2 c after
after_kept h h2 c End e = rests h h2 h e refl refl
after_kept h h2 c Absent e = rests h h2 h e refl refl
after_kept h h2 c (Marked seg writes lost) e = rests h h2 h e refl refl
after_kept h h2 c (Shown s activity) e = rests h h2 h e refl refl
after_kept h h2 c Idle e = rests h h2 h e refl refl
after_kept h h2 c (Refused why) e =
    rests h h2 _ e
    (cond_both (is_disk_fault why) (record h { stopped = true }) h (λ (x : State). x.safe ≡ h.safe) (λ yes. refl) (λ no. refl))
    (cond_both (is_disk_fault why) (record h { stopped = true }) h (λ (x : State). x.commits ≡ h.commits) (λ yes. refl) (λ no. refl))

-- Over lines.

match_both : {X Y Z : Type 0} (b : Bool) → MatchBool b X Y → (X → Z) → (Y → Z) → Z
match_both true m f g = f m
match_both false m f g = g m

same_kept : (h h2 : State) → h2 ≡ h → Kept h h2
same_kept h h2 e = rests h h2 h e refl refl

-- what is put back before a call acknowledges nothing, and is no commit
ready_kept : (h ready : State) (call : Call) (r : Answer) → ClearsTo h call r ready → Kept h ready
ready_kept h ready call r clears = let rest = clears_rest h ready call r clears in rests h ready ready refl rest.safe rest.commits

calls_kept : (m m2 : Logged) (outside : Outside) (c : Command) (k count : ℕ) (out : List ℕ) → CallsOut m outside c k count out m2 → Kept m.state m2.state
calls_kept m m2 outside c k zero out (none, e) = same_kept m.state m2.state (ap (λ (x : Logged). x.state) e)
calls_kept m m2 outside c k (suc count) out (r, rest, mid, call, said, next) =
    kept_on m.state mid.state m2.state
    (kept_on m.state call.ready.state mid.state (ready_kept m.state call.ready.state (call_of c k) r call.readied.state) (after_kept call.ready.state mid.state (call_of c k) r call.made.state))
    (match_both (goes_on r) next
    (λ (more : CallsOut mid outside c (suc k) count rest m2). calls_kept mid m2 outside c (suc k) count rest more)
    (λ (none, e). same_kept mid.state m2.state (ap (λ (x : Logged). x.state) e)))

resumes_kept : (m m2 : Logged) (outside : Outside) (count : ℕ) (out : List ℕ) → ResumesOut m outside count out m2 → Kept m.state m2.state
resumes_kept m m2 outside zero out (settled, none, e) = same_kept m.state m2.state (ap (λ (x : Logged). x.state) e)
resumes_kept m m2 outside (suc count) out (s, asked, r, rest, mid, going, ready, was, one, said, next) =
    kept_on m.state mid.state m2.state
    (kept_on m.state one.ready.state mid.state
    (kept_on m.state (unqueued m.state s) one.ready.state (rests m.state (unqueued m.state s) _ refl refl refl) (ready_kept (unqueued m.state s) one.ready.state (Write s asked.table asked.key asked.action) r one.readied.state))
    (match_both (is_fault r) one.state
    (λ e. rests one.ready.state mid.state _ e refl refl)
    (λ after. after_kept one.ready.state mid.state (Write s asked.table asked.key asked.action) r after)))
    (resumes_kept mid m2 outside count rest next)

said_kept : (m m2 : Logged) (outside : Outside) (line out : List ℕ) → LineSaid m outside line out m2 → Kept m.state m2.state
said_kept m m2 outside line out (too_long long is e) = same_kept m.state m2.state (ap (λ (x : Logged). x.state) e)
said_kept m m2 outside line out (skipped short remark is e) = same_kept m.state m2.state (ap (λ (x : Logged). x.state) e)
said_kept m m2 outside line out (bad short remark none is e) = same_kept m.state m2.state (ap (λ (x : Logged). x.state) e)
said_kept m m2 outside line out (command short c spells calls) = calls_kept m m2 outside c 0 _ out calls

pub lines_kept : (m m2 : Logged) (outside : Outside) (lines : List (List ℕ)) (out : List ℕ) → Out m outside lines out m2 → Kept m.state m2.state
lines_kept m m2 outside [] out (none, e) = same_kept m.state m2.state (ap (λ (x : Logged). x.state) e)
lines_kept m m2 outside (line ∷ lines) out (first, rest, mid, (front, back, after, count, said, is, resumed), joined, next) =
    kept_on m.state mid.state m2.state
    (kept_on m.state after.state mid.state (said_kept m after outside line front said) (resumes_kept after mid outside count back resumed))
    (match_both mid.state.stopped next
    (λ (none, e). same_kept mid.state m2.state (ap (λ (x : Logged). x.state) e))
    (λ more. lines_kept mid m2 outside lines rest more))

-- Which answers tell a number of commits, and of which calls.

abbrev kind : Answer → ℕ
kind (Committed n) = 1
kind (Numbered n) = 2
kind (Flushed n) = 3
kind _ = 0

abbrev number_in : Answer → ℕ
number_in (Committed n) = n
number_in (Numbered n) = n
number_in (Flushed n) = n
number_in _ = 0

abbrev Quiet : List (Bool × Answer) → Type 0
Quiet [] = Unit {0}
Quiet (test ∷ tests) = (kind test.1 ≡ 0) × Quiet tests

record Silent (tests : List (Bool × Answer)) : Type 0 where
  each : Quiet tests

quiet_append : (a b : List (Bool × Answer)) → Quiet a → Quiet b → Quiet (a ++ b)
quiet_append [] b p q = q
quiet_append (test ∷ a) b p q = (p.0, quiet_append a b p.1 q)

silent_append : (a b : List (Bool × Answer)) → Silent a → Silent b → Silent (a ++ b)
silent_append a b p q = record { each = quiet_append a b p.each q.each }

quiet_early : (h : State) (c : Call) → Quiet (early_tests h c)
quiet_early h (Write s table key action) = (refl, (refl, (refl, (refl, (refl, (refl, tt))))))
quiet_early h (Commit s) = (refl, (refl, (refl, tt)))
quiet_early h (CommitLater s) = (refl, (refl, (refl, tt)))
quiet_early h (Rollback s) = (refl, (refl, (refl, tt)))
quiet_early h (SetMode s mode) = (refl, (refl, (refl, tt)))
quiet_early h (SetSavepoint s name) = (refl, (refl, (refl, tt)))
quiet_early h (RollbackTo s name) = (refl, (refl, (refl, tt)))
quiet_early h (OpenCursor s name table lo hi) = (refl, (refl, (refl, (refl, tt))))
quiet_early h (Fetch s name) = (refl, (refl, (refl, tt)))
quiet_early h (CloseCursor s name) = (refl, (refl, (refl, tt)))
quiet_early h (Get s table key) = (refl, (refl, (refl, (refl, tt))))
quiet_early h (Cancel s) = (refl, (refl, tt))
quiet_early h (Marks seg) = (refl, tt)
quiet_early h (Show s) = (refl, (refl, tt))
quiet_early h Flush = (refl, tt)
quiet_early h (Sweep k) = (refl, tt)
quiet_early h Checkpoint = (refl, tt)

silent_waited : (queue : List Waiter) (s : ℕ) (on : Option ℕ) → Silent (waited queue s on)
silent_waited queue s None = record { each = tt }
silent_waited queue s (Some u) = record { each = (refl, (refl, tt)) }

silent_by : (snapshot : ℕ) (by : Option ℕ) → Silent (refused_by snapshot by)
silent_by snapshot None = record { each = tt }
silent_by snapshot (Some by) = record { each = (refl, tt) }

silent_serial : (commits : Commits) (i : Isolation) (table key : ℕ) → Silent (serial_tests commits i table key)
silent_serial commits isolation.ReadCommitted table key = record { each = tt }
silent_serial commits (isolation.ReadOnly snapshot) table key = record { each = tt }
silent_serial commits (isolation.Serializable snapshot) table key = silent_by snapshot _

silent_four : (a b c d : Bool) (u v w x : Refusal) → Silent ((a, Refused u) ∷ (b, Refused v) ∷ (c, Refused w) ∷ (d, Refused x) ∷ [])
silent_four a b c d u v w x = record { each = (refl, (refl, (refl, (refl, tt)))) }

silent_two : (a b : Bool) (u v : Refusal) → Silent ((a, Refused u) ∷ (b, Refused v) ∷ [])
silent_two a b u v = record { each = (refl, (refl, tt)) }

quiet_later : (h : State) (logged : ℕ) (c : Call) (tests : List (Bool × Answer)) → LaterTests h logged c tests → Quiet tests
quiet_later h logged (Write s table key action) tests (g, w, is) =
    let of_key : Silent (key_tests h s table key action) = silent_append _ _ (silent_append _ _ (silent_waited h.queue s (holder h table key)) (silent_serial h.commits (isolation_of h s) table key)) (silent_four (adds_now h s table key action && has_row table key (rows_now h s)) (not (adds_now h s table key action) && not (has_row table key (rows_now h s))) (adds_now h s table key action && full_block h table key) (full_slots h s table key) Duplicate NotFound BlockFull SlotsFull) in
    let all : Silent (write_tests h logged g s table key action) = silent_append _ _ of_key (silent_two (is_full (book_at h.books g)) (nat_le WORN logged) (RollbackFull g (made_since (book_at h.books g))) WornOut) in
    subst Quiet (sym is) all.each
quiet_later h logged (Commit s) tests is = subst Quiet (sym is) tt
quiet_later h logged (CommitLater s) tests is = subst Quiet (sym is) tt
quiet_later h logged (Rollback s) tests is = subst Quiet (sym is) tt
quiet_later h logged (SetMode s mode) tests is = subst Quiet (sym is) (refl, tt)
quiet_later h logged (SetSavepoint s name) tests is = subst Quiet (sym is) (refl, tt)
quiet_later h logged (RollbackTo s name) tests is = subst Quiet (sym is) (refl, tt)
quiet_later h logged (OpenCursor s name table lo hi) tests is = subst Quiet (sym is) (refl, (refl, tt))
quiet_later h logged (Fetch s name) tests is = subst Quiet (sym is) (refl, tt)
quiet_later h logged (CloseCursor s name) tests is = subst Quiet (sym is) (refl, tt)
quiet_later h logged (Cancel s) tests is = subst Quiet (sym is) (refl, tt)
quiet_later h logged (Get s table key) tests is = subst Quiet (sym is) tt
quiet_later h logged (Marks seg) tests is = subst Quiet (sym is) tt
quiet_later h logged (Show s) tests is = subst Quiet (sym is) tt
quiet_later h logged Flush tests is = subst Quiet (sym is) tt
quiet_later h logged (Sweep k) tests is = subst Quiet (sym is) tt
quiet_later h logged Checkpoint tests is = subst Quiet (sym is) tt

of_good : (tests : List (Bool × Answer)) (good r : Answer) → Quiet tests → r ≡ first_of tests good → 0 < kind r → r ≡ good
of_good [] good r quiet e told = e
of_good (test ∷ tests) good r quiet e told =
    cond_both test.0 test.1 (first_of tests good) (λ (x : Answer). r ≡ x → r ≡ good)
    (λ yes is. let none : kind r ≡ 0 = ap kind is ∙ quiet.0 in absurd (omega (arith, told, none)))
    (λ no is. of_good tests good r quiet.1 is told) e

-- An answer that tells a number is the good one.
granted_if : (h : State) (logged : ℕ) (c : Call) (r : Answer) → 0 < kind r → MayAnswer h logged c r → r ≡ granted h c
granted_if h logged c r told (early applies e) =
    let none : kind r ≡ 0 = ap kind (of_good (early_tests h c) Done r (quiet_early h c) e told) in absurd (omega (arith, told, none))
granted_if h logged c r told (later tests none is e) = of_good tests (granted h c) r (quiet_later h logged c tests is) e told
granted_if h logged c r told (fault none e) = let quiet : kind r ≡ 0 = ap kind e in absurd (omega (arith, told, quiet))
granted_if h logged c r told (old none is) = let quiet : kind r ≡ 0 = ap kind is.answer in absurd (omega (arith, told, quiet))

quiet_row : (h : State) (o : Option Cursor) → kind (next_row h o) ≡ 0
quiet_row h None = refl
quiet_row h (Some cursor) = quiet_given (slice_get (cursor_rows h cursor) cursor.taken)
  where
    quiet_given : (row : Option TableRow) → kind (given row) ≡ 0
    quiet_given None = refl
    quiet_given (Some row) = refl

quiet_got : (key : ℕ) (value : Option (List ℕ)) → kind (got key value) ≡ 0
quiet_got key None = refl
quiet_got key (Some value) = refl

quiet_shown : (h : State) (s : ℕ) → kind (if is_idle h s then Idle else Shown s (activity_of h s)) ≡ 0
quiet_shown h s = cond_both (is_idle h s) Idle (Shown s (activity_of h s)) (λ (x : Answer). kind x ≡ 0) (λ yes. refl) (λ no. refl)

-- so not that of a call whose good answer tells none
other_kind : (h : State) (logged : ℕ) (c : Call) (r : Answer) → 0 < kind r → MayAnswer h logged c r → kind (granted h c) ≡ 0 → ⊥
other_kind h logged c r told may quiet =
    let same : kind r ≡ kind (granted h c) = ap kind (granted_if h logged c r told may) in
    omega (arith, told, same, quiet)

-- of a commit, by the answer that tells its number
told_commit : (h : State) (s : ℕ) (told : ℕ → Answer) (r : Answer) → 0 < kind r → r ≡ (if is_empty (session_own h s) then Done else told (last_scn h.commits + 1)) → r ≡ told (last_scn h.commits + 1)
told_commit h s told r tells e =
    cond_both (is_empty (session_own h s)) Done (told (last_scn h.commits + 1)) (λ (x : Answer). r ≡ x → r ≡ told (last_scn h.commits + 1))
    (λ yes is. let none : kind r ≡ 0 = ap kind is in absurd (omega (arith, tells, none)))
    (λ no is. is) e

-- nor does a commit without changes tell one
no_commit : (h : State) (s : ℕ) (told : ℕ → Answer) (r : Answer) → 0 < kind r → is_empty (session_own h s) ≡ true → r ≡ (if is_empty (session_own h s) then Done else told (last_scn h.commits + 1)) → ⊥
no_commit h s told r tells empty e =
    let none : kind r ≡ 0 = ap kind (e ∙ ap (λ (b : Bool). if b then Done else told (last_scn h.commits + 1)) empty) in omega (arith, tells, none)

committed_safe : (h h2 : State) (logged n : ℕ) (c : Call) → MayAnswer h logged c (Committed n) → AfterGrant h c h2 → (h2.safe ≡ n) × (last_scn h2.commits ≡ n)
committed_safe h h2 logged n (Write s table key action) may after = absurd (other_kind h logged (Write s table key action) (Committed n) (omega arith) may refl)
committed_safe h h2 logged n (Rollback s) may after = absurd (other_kind h logged (Rollback s) (Committed n) (omega arith) may refl)
committed_safe h h2 logged n (SetMode s mode) may after = absurd (other_kind h logged (SetMode s mode) (Committed n) (omega arith) may refl)
committed_safe h h2 logged n (SetSavepoint s name) may after = absurd (other_kind h logged (SetSavepoint s name) (Committed n) (omega arith) may refl)
committed_safe h h2 logged n (RollbackTo s name) may after = absurd (other_kind h logged (RollbackTo s name) (Committed n) (omega arith) may refl)
committed_safe h h2 logged n (OpenCursor s name table lo hi) may after = absurd (other_kind h logged (OpenCursor s name table lo hi) (Committed n) (omega arith) may refl)
committed_safe h h2 logged n (Fetch s name) may after = absurd (other_kind h logged (Fetch s name) (Committed n) (omega arith) may (quiet_row h (cursor_of h s name)))
committed_safe h h2 logged n (CloseCursor s name) may after = absurd (other_kind h logged (CloseCursor s name) (Committed n) (omega arith) may refl)
committed_safe h h2 logged n (Get s table key) may after = absurd (other_kind h logged (Get s table key) (Committed n) (omega arith) may (quiet_got key (value_of table key (rows_seen h s))))
committed_safe h h2 logged n (Show s) may after = absurd (other_kind h logged (Show s) (Committed n) (omega arith) may (quiet_shown h s))
committed_safe h h2 logged n (Cancel s) may after = absurd (other_kind h logged (Cancel s) (Committed n) (omega arith) may refl)
committed_safe h h2 logged n (Marks seg) may after = absurd (other_kind h logged (Marks seg) (Committed n) (omega arith) may refl)
committed_safe h h2 logged n (Sweep k) may after = absurd (other_kind h logged (Sweep k) (Committed n) (omega arith) may refl)
committed_safe h h2 logged n Checkpoint may after = absurd (other_kind h logged Checkpoint (Committed n) (omega arith) may refl)
committed_safe h h2 logged n (Commit s) may (inl (own, (g, i, owned, e))) =
    let next : n ≡ last_scn h.commits + 1 = ap number_in (told_commit h s Committed (Committed n) (omega arith) (granted_if h logged (Commit s) (Committed n) (omega arith) may)) in
    let safe : h2.safe ≡ last_scn (committed h s g i).commits = ap (λ (y : State). y.safe) e in
    let last : last_scn h2.commits ≡ last_scn (committed h s g i).commits = ap (λ (y : State). last_scn y.commits) e in
    let one = one_more h s g i in
    (omega (arith, next, safe, one), omega (arith, next, last, one))
committed_safe h h2 logged n (Commit s) may (inr (empty, ends)) =
    absurd (no_commit h s Committed (Committed n) (omega arith) empty (granted_if h logged (Commit s) (Committed n) (omega arith) may))
committed_safe h h2 logged n (CommitLater s) may after =
    let one : 1 ≡ 2 = ap kind (told_commit h s Numbered (Committed n) (omega arith) (granted_if h logged (CommitLater s) (Committed n) (omega arith) may)) in absurd (omega (arith, one))
committed_safe h h2 logged n Flush may after =
    let one : 1 ≡ 3 = ap kind (granted_if h logged Flush (Committed n) (omega arith) may) in absurd (omega (arith, one))

flushed_safe : (h h2 : State) (logged n : ℕ) (c : Call) → MayAnswer h logged c (Flushed n) → AfterGrant h c h2 → (h2.safe ≡ n) × (last_scn h2.commits ≡ n)
flushed_safe h h2 logged n (Write s table key action) may after = absurd (other_kind h logged (Write s table key action) (Flushed n) (omega arith) may refl)
flushed_safe h h2 logged n (Rollback s) may after = absurd (other_kind h logged (Rollback s) (Flushed n) (omega arith) may refl)
flushed_safe h h2 logged n (SetMode s mode) may after = absurd (other_kind h logged (SetMode s mode) (Flushed n) (omega arith) may refl)
flushed_safe h h2 logged n (SetSavepoint s name) may after = absurd (other_kind h logged (SetSavepoint s name) (Flushed n) (omega arith) may refl)
flushed_safe h h2 logged n (RollbackTo s name) may after = absurd (other_kind h logged (RollbackTo s name) (Flushed n) (omega arith) may refl)
flushed_safe h h2 logged n (OpenCursor s name table lo hi) may after = absurd (other_kind h logged (OpenCursor s name table lo hi) (Flushed n) (omega arith) may refl)
flushed_safe h h2 logged n (Fetch s name) may after = absurd (other_kind h logged (Fetch s name) (Flushed n) (omega arith) may (quiet_row h (cursor_of h s name)))
flushed_safe h h2 logged n (CloseCursor s name) may after = absurd (other_kind h logged (CloseCursor s name) (Flushed n) (omega arith) may refl)
flushed_safe h h2 logged n (Get s table key) may after = absurd (other_kind h logged (Get s table key) (Flushed n) (omega arith) may (quiet_got key (value_of table key (rows_seen h s))))
flushed_safe h h2 logged n (Show s) may after = absurd (other_kind h logged (Show s) (Flushed n) (omega arith) may (quiet_shown h s))
flushed_safe h h2 logged n (Cancel s) may after = absurd (other_kind h logged (Cancel s) (Flushed n) (omega arith) may refl)
flushed_safe h h2 logged n (Marks seg) may after = absurd (other_kind h logged (Marks seg) (Flushed n) (omega arith) may refl)
flushed_safe h h2 logged n (Sweep k) may after = absurd (other_kind h logged (Sweep k) (Flushed n) (omega arith) may refl)
flushed_safe h h2 logged n Checkpoint may after = absurd (other_kind h logged Checkpoint (Flushed n) (omega arith) may refl)
flushed_safe h h2 logged n (Commit s) may after =
    let one : 3 ≡ 1 = ap kind (told_commit h s Committed (Flushed n) (omega arith) (granted_if h logged (Commit s) (Flushed n) (omega arith) may)) in absurd (omega (arith, one))
flushed_safe h h2 logged n (CommitLater s) may after =
    let one : 3 ≡ 2 = ap kind (told_commit h s Numbered (Flushed n) (omega arith) (granted_if h logged (CommitLater s) (Flushed n) (omega arith) may)) in absurd (omega (arith, one))
flushed_safe h h2 logged n Flush may e =
    let last : n ≡ last_scn h.commits = ap number_in (granted_if h logged Flush (Flushed n) (omega arith) may) in
    let safe : h2.safe ≡ last_scn h.commits = ap (λ (y : State). y.safe) e in
    let same : last_scn h2.commits ≡ last_scn h.commits = ap (λ (y : State). last_scn y.commits) e in
    (omega (arith, last, safe), omega (arith, last, same))

pub told_safe : (h h2 : State) (logged n : ℕ) (c : Call) (r : Answer) → (r ≡ Committed n) ⊎ (r ≡ Flushed n) → MayAnswer h logged c r → After h c r h2 → (h2.safe ≡ n) × (last_scn h2.commits ≡ n)
told_safe h h2 logged n c r (inl is) may after =
    committed_safe h h2 logged n c (subst (MayAnswer h logged c) is may) (subst (λ (x : Answer). After h c x h2) is after)
told_safe h h2 logged n c r (inr is) may after =
    flushed_safe h h2 logged n c (subst (MayAnswer h logged c) is may) (subst (λ (x : Answer). After h c x h2) is after)

pub checkpoint_safe : (h h2 : State) → h2 ≡ all_safe h → h2.safe ≡ last_scn h2.commits
checkpoint_safe h h2 e = ap (λ (y : State). y.safe) e ∙ sym (ap (λ (y : State). last_scn y.commits) e)

pub later_waits : (h h2 : State) (logged n s : ℕ) → MayAnswer h logged (CommitLater s) (Numbered n) → AfterGrant h (CommitLater s) h2 → (n ≡ last_scn h.commits + 1) × (last_scn h2.commits ≡ n) × (h2.safe ≡ h.safe)
later_waits h h2 logged n s may (inl (own, (g, i, owned, e))) =
    let next : n ≡ last_scn h.commits + 1 = ap number_in (told_commit h s Numbered (Numbered n) (omega arith) (granted_if h logged (CommitLater s) (Numbered n) (omega arith) may)) in
    let last : last_scn h2.commits ≡ last_scn (committed h s g i).commits = ap (λ (y : State). last_scn y.commits) e in
    let one = one_more h s g i in
    (next, omega (arith, next, last, one), ap (λ (y : State). y.safe) e)
later_waits h h2 logged n s may (inr (empty, ends)) =
    absurd (no_commit h s Numbered (Numbered n) (omega arith) empty (granted_if h logged (CommitLater s) (Numbered n) (omega arith) may))
