-- What calls leave of dead transactions: every call but a sweep leaves each its slot and its changes.
use Rattle.std.proofs.Common.{◌≡◌, ◌≢◌, inl, inr, ◌<◌, ◌≤◌, ◌+◌, ◌-◌, ◌*◌, ◌/◌, ◌%◌, ℕ, zero, suc, Bool, true, false, not, cond, ◌&&◌, List, [], ◌∷◌, ◌++◌, length, get_or, set, Option, Some, None, refl, sym, ◌∙◌, ap, arith}
use Rattle.std.proofs.lemmas.Bool.{and_parts, cases_Bool, cond-false, cond-true, cond_both, false≢true}
use Rattle.std.proofs.lemmas.Bool.Decides.{nat_tests}
use Rattle.std.proofs.lemmas.List.{get_or-set_other}
use Rattle.std.proofs.lemmas.List.Sums.{sum_by-cons}
use Rattle.std.specs.List.{range_with_len, sum_by}
use Rattle.rb_base.specs.declared.shape.Shape.{Shape}
use Rattle.rb_model.specs.Book.{Book, BookSlot, Owner, book_at, finished, free_slot, is_pinned, left, marked, needs_turn, slot_owner, taken, touches, turned}
use Rattle.rb_model.specs.Calls.{Call, Write, Commit, CommitLater, Rollback, SetMode, SetSavepoint, RollbackTo, OpenCursor, Fetch, CloseCursor, Get, Cancel, Marks, Show, Flush, Sweep, Checkpoint}
use Rattle.rb_model.specs.Calls.{Answer, Done, Waits, Committed, Numbered, Flushed, Swept, Given, End, Absent, Marked, Shown, Idle, Refused}
use Rattle.rb_model.specs.Calls.{MayAnswer, Owned, WritesIn, early, early_tests, fault, first_of, has_slot, is_disk_fault, is_too_long, later, none_applies, number_tests, old, session_tests}
use Rattle.rb_model.specs.Change.{Change}
use Rattle.rb_model.specs.Dead.{all_slots, dead_at, dead_owed, dead_owed_at, dead_owner, is_dead}
use Rattle.rb_model.specs.Isolation.{is_read_only}
use Rattle.rb_model.specs.NextState.{After, AfterGrant, AfterWait, EndsAs, books_written}
use Rattle.rb_model.specs.State.{Cursor, Session, State, is_session, is_table, is_waiting, isolation_of, no_session, session_count, session_own}
use Rattle.rb_model.specs.declared.refusal.Refusal.TheVariants.{NoTable, ReadOnly, ValueTooLong, Waiting}
use Rattle.rb_model.proofs.DeadLemmas.{dead_above}
use Rattle.rb_model.proofs.Stops.{after_shape}

-- which of the dead has slot i of a book
abbrev pub dead_of : Book → ℕ → Option ℕ
dead_of b i = dead_owner (slot_owner b i)

-- and table slot t
abbrev pub dead_in : List Book → ℕ → Option ℕ
dead_in books t = dead_of (book_at books (t / 16)) (t % 16)

-- an owner of the sixteen is none of the dead
living_none : (o : Owner) → o.session ≤ session_count → dead_owner (Some o) ≡ None
living_none o few = let alive : is_dead o.session ≡ false = grind (arith, nat_tests, few) in cond-false (is_dead o.session) (Some o.session) None alive

-- Where one slot is set, and no other one of the dead has it, each of the dead has what it had.
slot_set : (slots : List BookSlot) (i j : ℕ) (s : BookSlot) → dead_owner s.owner ≡ dead_owner (get_or slots i free_slot).owner
    → dead_owner (get_or (set slots i s) j free_slot).owner ≡ dead_owner (get_or slots j free_slot).owner
slot_set [] i j s same = refl
slot_set (x ∷ xs) zero zero s same = same
slot_set (x ∷ xs) zero (suc j) s same = refl
slot_set (x ∷ xs) (suc i) zero s same = refl
slot_set (x ∷ xs) (suc i) (suc j) s same = slot_set xs i j s same

-- and so where one book is
pub book_set : (books : List Book) (g k i : ℕ) (b : Book) → dead_of b i ≡ dead_of (book_at books g) i → dead_of (book_at (set books g b) k) i ≡ dead_of (book_at books k) i
book_set [] g k i b same = refl
book_set (x ∷ xs) zero zero i b same = same
book_set (x ∷ xs) zero (suc k) i b same = refl
book_set (x ∷ xs) (suc g) zero i b same = refl
book_set (x ∷ xs) (suc g) (suc k) i b same = book_set xs g k i b same

touched_dead : (turn : ℕ) (o : Option Owner) → dead_owner (touches turn o) ≡ dead_owner o
touched_dead turn None = refl
touched_dead turn (Some o) = refl

turned_slots : (b : Book) → (turned b).slots ≡ b.slots
turned_slots b = cond_both (needs_turn b) _ b (λ (x : Book). x.slots ≡ b.slots) (λ yes. cond_both (is_pinned b) _ _ (λ (x : Book). x.slots ≡ b.slots) (λ yes. refl) (λ no. refl)) (λ no. refl)

marked_dead : (i j : ℕ) (b : Book) → dead_of (marked i b) j ≡ dead_of b j
marked_dead i j b =
    slot_set (turned b).slots i j _ (touched_dead _ (get_or (turned b).slots i free_slot).owner)
    ∙ ap (λ (slots : List BookSlot). dead_owner (get_or slots j free_slot).owner) (turned_slots b)

taken_dead : (s i j : ℕ) (b : Book) → s ≤ session_count → dead_of b i ≡ None → dead_of (taken s i b) j ≡ dead_of b j
taken_dead s i j b few none = slot_set b.slots i j _ (living_none (let o : Owner = record { session = s; start = b.writes; touched = [] } in o) few ∙ sym none)

finished_dead : (n i j : ℕ) (b : Book) → dead_of b i ≡ None → dead_of (finished n i b) j ≡ dead_of b j
finished_dead n i j b none = slot_set b.slots i j (record { newest = n; owner = None }) (sym none)

pub left_dead : (i j : ℕ) (b : Book) → dead_of b i ≡ None → dead_of (left i b) j ≡ dead_of b j
left_dead i j b none = slot_set b.slots i j (let s = get_or b.slots i free_slot in record s { owner = None }) (sym none)

-- the slot of one of the sixteen is none of the dead's
pub owned_none : (h : State) (s g i : ℕ) → s ≤ session_count → Owned h s g i → dead_of (book_at h.books g) i ≡ None
owned_none h s g i few (within, o, at, is) =
    let seg : (16 * g + i) / 16 ≡ g = omega (arith, within) in
    let slot : (16 * g + i) % 16 ≡ i = omega (arith, within) in
    let here : slot_owner (book_at h.books g) i ≡ Some o = sym (ap (λ (z : ℕ). slot_owner (book_at h.books z) ((16 * g + i) % 16)) seg ∙ ap (slot_owner (book_at h.books g)) slot) ∙ at in
    ap dead_owner here ∙ living_none o (omega (arith, is, few))

-- nor is one that it would take
pub writes_none : (h : State) (s g i : ℕ) → s ≤ session_count → WritesIn h s g i → dead_of (book_at h.books g) i ≡ None
writes_none h s g i few (inl owned) = owned_none h s g i few owned
writes_none h s g i few (inr (none, begun)) = ap dead_owner begun.slot.free

pub written_dead : (h : State) (s g i t : ℕ) → s ≤ session_count → WritesIn h s g i → dead_in (books_written s g i (has_slot h s g i) h.books) t ≡ dead_in h.books t
written_dead h s g i t few w =
    let b : Book = book_at h.books g in
    book_set h.books g (t / 16) (t % 16) _
    (marked_dead i (t % 16) (cond (has_slot h s g i) b (taken s i b))
    ∙ cond_both (has_slot h s g i) b (taken s i b) (λ (x : Book). dead_of x (t % 16) ≡ dead_of b (t % 16)) (λ yes. refl) (λ no. taken_dead s i (t % 16) b few (writes_none h s g i few w)))

-- Each of the dead has its slot and its changes still.
pub record DeadStay (h h2 : State) : Type 0 where
  pub slots : (t : ℕ) → dead_at h2 t ≡ dead_at h t
  pub own : (d : ℕ) → session_count < d → session_own h2 d ≡ session_own h d

-- the state is another one with the same sessions and books
pub rests : (h h2 x : State) → h2 ≡ x → x.sessions ≡ h.sessions → x.books ≡ h.books → DeadStay h h2
rests h h2 x e sessions books = record {
  slots = λ t. ap (λ (y : State). dead_at y t) e ∙ ap (λ (l : List Book). dead_in l t) books;
  own = λ d more. ap (λ (y : State). session_own y d) e ∙ ap (λ (l : List Session). (get_or l (d - 1) no_session).own) sessions;
}

pub same_rests : (h h2 : State) → h2 ≡ h → DeadStay h h2
same_rests h h2 e = rests h h2 h e refl refl

-- the state is another one where one of the sixteen differs, and perhaps the slot that it has
pub moves : (h h2 x : State) (s : ℕ) (session : Session) → s ≤ session_count → h2 ≡ x → x.sessions ≡ set h.sessions (s - 1) session → ((t : ℕ) → dead_in x.books t ≡ dead_in h.books t) → DeadStay h h2
moves h h2 x s session few e sessions books = record {
  slots = λ t. ap (λ (y : State). dead_at y t) e ∙ books t;
  own = λ d more.
      ap (λ (y : State). session_own y d) e
      ∙ (ap (λ (l : List Session). (get_or l (d - 1) no_session).own) sessions
      ∙ ap (λ (z : Session). z.own) (get_or-set_other h.sessions (s - 1) (d - 1) session no_session (omega (arith, few, more))));
}

pub ends_dead : (h h2 : State) (s : ℕ) (cursors : List Cursor) → s ≤ session_count → EndsAs h s cursors h2 → DeadStay h h2
ends_dead h h2 s cursors few (inl (g, i, owned, e)) = moves h h2 _ s _ few e refl (λ t. book_set h.books g (t / 16) (t % 16) _ (left_dead i (t % 16) (book_at h.books g) (owned_none h s g i few owned)))
ends_dead h h2 s cursors few (inr (none, e)) = moves h h2 _ s _ few e refl (λ t. refl)

-- the books after a commit
pub finished_in : (h : State) (n s g i t : ℕ) → s ≤ session_count → Owned h s g i → dead_in (set h.books g (finished n i (book_at h.books g))) t ≡ dead_in h.books t
finished_in h n s g i t few owned = book_set h.books g (t / 16) (t % 16) _ (finished_dead n i (t % 16) (book_at h.books g) (owned_none h s g i few owned))

-- the session that a call names, or 0 where it names none
abbrev named : Call → ℕ
named (Write s table key action) = s
named (Commit s) = s
named (CommitLater s) = s
named (Rollback s) = s
named (SetMode s mode) = s
named (SetSavepoint s name) = s
named (RollbackTo s name) = s
named (OpenCursor s name table lo hi) = s
named (Fetch s name) = s
named (CloseCursor s name) = s
named (Get s table key) = s
named (Cancel s) = s
named (Marks seg) = 0
named (Show s) = s
named Flush = 0
named (Sweep k) = 0
named Checkpoint = 0

grant_dead : (h h2 : State) (c : Call) → named c ≤ session_count → ((k : ℕ) → c ≢ Sweep k) → AfterGrant h c h2 → DeadStay h h2
grant_dead h h2 (Write s table key action) few other (g, i, w, e) = moves h h2 _ s _ few e refl (λ t. written_dead h s g i t few w)
grant_dead h h2 (Commit s) few other (inl (some, (g, i, owned, e))) = moves h h2 _ s _ few e refl (λ t. finished_in h _ s g i t few owned)
grant_dead h h2 (Commit s) few other (inr (none, ends)) = ends_dead h h2 s _ few ends
grant_dead h h2 (CommitLater s) few other (inl (some, (g, i, owned, e))) = moves h h2 _ s _ few e refl (λ t. finished_in h _ s g i t few owned)
grant_dead h h2 (CommitLater s) few other (inr (none, ends)) = ends_dead h h2 s _ few ends
grant_dead h h2 (Rollback s) few other ends = ends_dead h h2 s _ few ends
grant_dead h h2 (SetMode s mode) few other e = moves h h2 _ s _ few e refl (λ t. refl)
grant_dead h h2 (SetSavepoint s name) few other e = moves h h2 _ s _ few e refl (λ t. refl)
grant_dead h h2 (RollbackTo s name) few other (p, is, e) = moves h h2 _ s _ few e refl (λ t. refl)
grant_dead h h2 (OpenCursor s name table lo hi) few other e = moves h h2 _ s _ few e refl (λ t. refl)
grant_dead h h2 (Fetch s name) few other e = moves h h2 _ s _ few e refl (λ t. refl)
grant_dead h h2 (CloseCursor s name) few other e = moves h h2 _ s _ few e refl (λ t. refl)
grant_dead h h2 (Get s table key) few other e = same_rests h h2 e
grant_dead h h2 (Cancel s) few other e = rests h h2 _ e refl refl
grant_dead h h2 (Marks seg) few other e = same_rests h h2 e
grant_dead h h2 (Show s) few other e = same_rests h h2 e
grant_dead h h2 Flush few other e = rests h h2 _ e refl refl
grant_dead h h2 (Sweep k) few other e = absurd (other k refl)
grant_dead h h2 Checkpoint few other e = rests h h2 _ e refl refl

wait_dead : (h h2 : State) (c : Call) (on : ℕ) → AfterWait h c on h2 → DeadStay h h2
wait_dead h h2 (Write s table key action) on e = rests h h2 _ e refl refl
wait_dead h h2 (Commit s) on e = same_rests h h2 e
wait_dead h h2 (CommitLater s) on e = same_rests h h2 e
wait_dead h h2 (Rollback s) on e = same_rests h h2 e
wait_dead h h2 (SetMode s mode) on e = same_rests h h2 e
wait_dead h h2 (SetSavepoint s name) on e = same_rests h h2 e
wait_dead h h2 (RollbackTo s name) on e = same_rests h h2 e
wait_dead h h2 (OpenCursor s name table lo hi) on e = same_rests h h2 e
wait_dead h h2 (Fetch s name) on e = same_rests h h2 e
wait_dead h h2 (CloseCursor s name) on e = same_rests h h2 e
wait_dead h h2 (Get s table key) on e = same_rests h h2 e
wait_dead h h2 (Cancel s) on e = same_rests h h2 e
wait_dead h h2 (Marks seg) on e = same_rests h h2 e
wait_dead h h2 (Show s) on e = same_rests h h2 e
wait_dead h h2 Flush on e = same_rests h h2 e
wait_dead h h2 (Sweep k) on e = same_rests h h2 e
wait_dead h h2 Checkpoint on e = same_rests h h2 e

abbrev is_refused : Answer → Bool
is_refused (Refused why) = true
is_refused _ = false

-- A call that isn't refused names one of the sixteen, if any.
after_dead : (h h2 : State) (c : Call) (r : Answer) → (is_refused r ≡ false → named c ≤ session_count) → ((k : ℕ) → c ≢ Sweep k) → After h c r h2 → DeadStay h h2
after_dead h h2 c Done few other after = grant_dead h h2 c (few refl) other after
after_dead h h2 c (Waits on) few other after = wait_dead h h2 c on after
after_dead h h2 c (Committed n) few other after = grant_dead h h2 c (few refl) other after
after_dead h h2 c (Numbered n) few other after = grant_dead h h2 c (few refl) other after
after_dead h h2 c (Flushed n) few other after = grant_dead h h2 c (few refl) other after
after_dead h h2 c (Swept n) few other after = grant_dead h h2 c (few refl) other after
after_dead h h2 c (Given key value) few other after = grant_dead h h2 c (few refl) other after
after_dead h h2 c End few other after = same_rests h h2 after
after_dead h h2 c Absent few other after = same_rests h h2 after
after_dead h h2 c (Marked seg writes lost) few other after = same_rests h h2 after
after_dead h h2 c (Shown s activity) few other after = same_rests h h2 after
after_dead h h2 c Idle few other after = same_rests h h2 after
after_dead h h2 c (Refused why) few other after =
    rests h h2 _ after
    (cond_both (is_disk_fault why) (record h { stopped = true }) h (λ (x : State). x.sessions ≡ h.sessions) (λ yes. refl) (λ no. refl))
    (cond_both (is_disk_fault why) (record h { stopped = true }) h (λ (x : State). x.books ≡ h.books) (λ yes. refl) (λ no. refl))

-- The early tests only refuse.

abbrev Refuse : List (Bool × Answer) → Type 0
Refuse [] = Unit {0}
Refuse (test ∷ tests) = (is_refused test.1 ≡ true) × Refuse tests

early_refuse : (h : State) (c : Call) → Refuse (early_tests h c)
early_refuse h (Write s table key action) = (refl, (refl, (refl, (refl, (refl, (refl, tt))))))
early_refuse h (Commit s) = (refl, (refl, (refl, tt)))
early_refuse h (CommitLater s) = (refl, (refl, (refl, tt)))
early_refuse h (Rollback s) = (refl, (refl, (refl, tt)))
early_refuse h (SetMode s mode) = (refl, (refl, (refl, tt)))
early_refuse h (SetSavepoint s name) = (refl, (refl, (refl, tt)))
early_refuse h (RollbackTo s name) = (refl, (refl, (refl, tt)))
early_refuse h (OpenCursor s name table lo hi) = (refl, (refl, (refl, (refl, tt))))
early_refuse h (Fetch s name) = (refl, (refl, (refl, tt)))
early_refuse h (CloseCursor s name) = (refl, (refl, (refl, tt)))
early_refuse h (Get s table key) = (refl, (refl, (refl, (refl, tt))))
early_refuse h (Cancel s) = (refl, (refl, tt))
early_refuse h (Marks seg) = (refl, tt)
early_refuse h (Show s) = (refl, (refl, tt))
early_refuse h Flush = (refl, tt)
early_refuse h (Sweep k) = (refl, tt)
early_refuse h Checkpoint = (refl, tt)

first_refuses : (tests : List (Bool × Answer)) → Refuse tests → none_applies tests ≡ false → is_refused (first_of tests Done) ≡ true
first_refuses [] refuse some = absurd (false≢true (sym some))
first_refuses (test ∷ tests) refuse some = elim (cases_Bool test.0) [
  | inl this ↦ ap is_refused (cond-true test.0 test.1 (first_of tests Done) this) ∙ refuse.0
  | inr other ↦ let more : none_applies tests ≡ false = rw other at some in ap is_refused (cond-false test.0 test.1 (first_of tests Done) other) ∙ first_refuses tests refuse.1 more
]

-- Where none of them applies, a session that the call names is one of the sixteen.
is_few : (h : State) (s : ℕ) (rest : List (Bool × Answer)) → none_applies (number_tests h s ++ rest) ≡ true → s ≤ session_count
is_few h s rest none =
    let a = and_parts (not h.stopped) (not (not (is_session s)) && none_applies rest) none in
    let b = and_parts (not (not (is_session s))) (none_applies rest) a.1 in
    let is : is_session s ≡ true = grind (arith, b.0) in
    grind (arith, nat_tests, is)

session_few : (h : State) (s : ℕ) (rest : List (Bool × Answer)) → none_applies (session_tests h s ++ rest) ≡ true → s ≤ session_count
session_few h s rest none = is_few h s ((is_waiting h s, Refused Waiting) ∷ rest) none

named_few : (h : State) (c : Call) → none_applies (early_tests h c) ≡ true → named c ≤ session_count
named_few h (Write s table key action) none = session_few h s ((is_read_only (isolation_of h s), Refused ReadOnly) ∷ (not (is_table h table), Refused NoTable) ∷ (is_too_long action, Refused ValueTooLong) ∷ []) none
named_few h (Commit s) none = session_few h s [] none
named_few h (CommitLater s) none = session_few h s [] none
named_few h (Rollback s) none = session_few h s [] none
named_few h (SetMode s mode) none = session_few h s [] none
named_few h (SetSavepoint s name) none = session_few h s [] none
named_few h (RollbackTo s name) none = session_few h s [] none
named_few h (OpenCursor s name table lo hi) none = session_few h s ((not (is_table h table), Refused NoTable) ∷ []) none
named_few h (Fetch s name) none = session_few h s [] none
named_few h (CloseCursor s name) none = session_few h s [] none
named_few h (Get s table key) none = session_few h s ((not (is_table h table), Refused NoTable) ∷ []) none
named_few h (Cancel s) none = is_few h s [] none
named_few h (Marks seg) none = omega arith
named_few h (Show s) none = is_few h s [] none
named_few h Flush none = omega arith
named_few h (Sweep k) none = omega arith
named_few h Checkpoint none = omega arith

may_few : (h : State) (logged : ℕ) (c : Call) (r : Answer) → MayAnswer h logged c r → is_refused r ≡ false → named c ≤ session_count
may_few h logged c r (early some e) granted = absurd (false≢true (sym granted ∙ (ap is_refused e ∙ first_refuses (early_tests h c) (early_refuse h c) some)))
may_few h logged c r (later tests none is e) granted = named_few h c none
may_few h logged c r (fault none e) granted = named_few h c none
may_few h logged c r (old none is) granted = named_few h c none

-- No call but a sweep takes anything from the dead.
pub calls_leave : (h h2 : State) (logged : ℕ) (c : Call) (r : Answer) → MayAnswer h logged c r → After h c r h2 → ((k : ℕ) → c ≢ Sweep k) → DeadStay h h2
calls_leave h h2 logged c r may after other = after_dead h h2 c r (may_few h logged c r may) other after

-- How many groups put them back.

sum_same : (f g : ℕ → ℕ) (l : List ℕ) → ((t : ℕ) → f t ≡ g t) → sum_by f l ≡ sum_by g l
sum_same f g [] same = refl
sum_same f g (t ∷ l) same =
    let a = sum_by-cons f t l in
    let b = sum_by-cons g t l in
    let here = same t in
    let rest = sum_same f g l same in
    omega (arith, a, b, here, rest)

owed_at : (h h2 : State) → DeadStay h h2 → (t : ℕ) → dead_owed_at h2 (dead_at h2 t) ≡ dead_owed_at h (dead_at h t)
owed_at h h2 stay t = ap (dead_owed_at h2) (stay.slots t) ∙ by (dead_at h t) refl
  where
    by : (o : Option ℕ) → dead_at h t ≡ o → dead_owed_at h2 o ≡ dead_owed_at h o
    by None is = refl
    by (Some d) is = ap (λ (l : List Change). length l + 1) (stay.own d (dead_above h t d is))

-- as many as before, where each of the dead has what it had
pub owes_same : (h h2 : State) → h2.shape ≡ h.shape → DeadStay h h2 → dead_owed h2 ≡ dead_owed h
owes_same h h2 shape stay =
    ap (λ (shape : Shape). sum_by (λ t. dead_owed_at h2 (dead_at h2 t)) (range_with_len 0 (16 * shape.segments))) shape
    ∙ sum_same (λ t. dead_owed_at h2 (dead_at h2 t)) (λ t. dead_owed_at h (dead_at h t)) (all_slots h) (owed_at h h2 stay)

pub calls_owe : (h h2 : State) (logged : ℕ) (c : Call) (r : Answer) → MayAnswer h logged c r → After h c r h2 → ((k : ℕ) → c ≢ Sweep k) → dead_owed h2 ≡ dead_owed h
calls_owe h h2 logged c r may after other = owes_same h h2 (after_shape h h2 c r after) (calls_leave h h2 logged c r may after other)
