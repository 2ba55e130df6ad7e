-- What stays as dead transactions go, whole or change by change.
use Rattle.std.proofs.Common.{◌≡◌, inl, inr, ◌<◌, ◌≤◌, ◌-◌, ◌*◌, ◌/◌, ◌%◌, ◌==◌, cond, ℕ, Bool, true, false, min, List, [], ◌∷◌, length, length-set, set, take, Option, Some, None, refl, sym, ◌∙◌, ap, subst, arith}
use Rattle.std.proofs.lemmas.Bool.{cases_Bool, cases_eq, cases_lt, cond-false, cond-true, cond_both}
use Rattle.std.proofs.lemmas.Bool.Decides.{nat_tests}
use Rattle.std.proofs.lemmas.List.{get_or-set_other, get_or-set_same, set_past}
use Rattle.rb_model.specs.Book.{Book, Owner, book_at, fresh_book, left}
use Rattle.rb_model.specs.Change.{Change}
use Rattle.std.specs.List.{range_with_len}
use Rattle.rb_model.specs.Calls.{Answer, Call, Done, Waits, Committed, Numbered, Flushed, Swept, Given, End, Absent, Marked, Shown, Idle, Refused}
use Rattle.rb_model.specs.Calls.{Write, Commit, CommitLater, Flush, Sweep, Rollback, SetMode, SetSavepoint, RollbackTo, OpenCursor, Fetch, CloseCursor, Get, Cancel, Marks, Show, Checkpoint}
use Rattle.rb_model.specs.Clearing.{ClearsTo, HasRoom, Readies, lacks_room, with_room}
use Rattle.rb_model.specs.Dead.{KeepsRest, all_gone, all_slots, dead_at, dead_owner, gone, home_cleared, is_dead, segment_cleared, swept, swept_at, swept_from, without, works_at}
use Rattle.rb_model.specs.declared.refusal.Refusal.{Refusal}
use Rattle.rb_model.specs.declared.refusal.Refusal.TheVariants as refusals
use Rattle.rb_model.specs.Ended.{ended, with_own, without_owner}
use Rattle.rb_model.specs.State.{Session, State, no_session, owner_at, session_count, session_own}

pub rest_same : (h : State) → KeepsRest h h
rest_same h = record { shape = refl; commits = refl; queue = refl; asked = refl; safe = refl; stopped = refl; many = refl; living = λ s low high. refl; marks = λ g. (refl, refl) }

pub rest_on : (h h1 h2 : State) → KeepsRest h h1 → KeepsRest h1 h2 → KeepsRest h h2
rest_on h h1 h2 a b = record {
  shape = b.shape ∙ a.shape;
  commits = b.commits ∙ a.commits;
  queue = b.queue ∙ a.queue;
  asked = b.asked ∙ a.asked;
  safe = b.safe ∙ a.safe;
  stopped = b.stopped ∙ a.stopped;
  many = b.many ∙ a.many;
  living = λ s low high. b.living s low high ∙ a.living s low high;
  marks = λ g. ((b.marks g).0 ∙ (a.marks g).0, (b.marks g).1 ∙ (a.marks g).1);
}

-- the dead of a slot owns it, and its number is above the sixteen
pub dead_owned : (o : Option Owner) (d : ℕ) → dead_owner o ≡ Some d → (p : Owner) × (o ≡ Some p) × (p.session ≡ d) × (session_count < d)
dead_owned None d is = absurd cc
dead_owned (Some p) d is = elim (cases_Bool (is_dead p.session)) [
  | inl dead ↦
      let there : Some p.session ≡ Some d = sym (cond-true (is_dead p.session) (Some p.session) None dead) ∙ is in
      let same : p.session ≡ d = cc in
      (p, refl, same, (let more : session_count < p.session = grind (arith, nat_tests, dead) in omega (arith, more, same)))
  | inr alive ↦ let never : None ≡ Some d = sym (cond-false (is_dead p.session) (Some p.session) None alive) ∙ is in absurd cc
]

pub dead_above : (h : State) (t d : ℕ) → dead_at h t ≡ Some d → session_count < d
dead_above h t d is = (dead_owned (owner_at h t) d is).3

-- another session in the place of a dead one
rest_set : (h : State) (d : ℕ) (session : Session) → session_count < d → KeepsRest h (record h { sessions = set h.sessions (d - 1) session })
rest_set h d session more = record {
  shape = refl;
  commits = refl;
  queue = refl;
  asked = refl;
  safe = refl;
  stopped = refl;
  many = length-set h.sessions (d - 1) session;
  living = λ s low high. get_or-set_other h.sessions (d - 1) (s - 1) session no_session (omega (arith, more, low, high));
  marks = λ g. (refl, refl);
}

-- a slot without an owner
book_left : (books : List Book) (g i k : ℕ) → ((book_at (set books g (left i (book_at books g))) k).writes ≡ (book_at books k).writes) × ((book_at (set books g (left i (book_at books g))) k).lost ≡ (book_at books k).lost)
book_left books g i k = elim (cases_eq g k) [
  | inl same ↦ subst (λ (z : ℕ). ((book_at (set books g (left i (book_at books g))) z).writes ≡ (book_at books z).writes) × ((book_at (set books g (left i (book_at books g))) z).lost ≡ (book_at books z).lost)) same (elim (cases_lt g (length books)) [
    | inl there ↦ let is : book_at (set books g (left i (book_at books g))) g ≡ left i (book_at books g) = get_or-set_same books g (left i (book_at books g)) fresh_book there in (ap (λ (b : Book). b.writes) is, ap (λ (b : Book). b.lost) is)
    | inr past ↦ let is : set books g (left i (book_at books g)) ≡ books = set_past books g (left i (book_at books g)) past in (ap (λ (l : List Book). (book_at l g).writes) is, ap (λ (l : List Book). (book_at l g).lost) is)
  ])
  | inr ne ↦ let is : book_at (set books g (left i (book_at books g))) k ≡ book_at books k = get_or-set_other books g k (left i (book_at books g)) fresh_book (λ is. ne (sym is)) in (ap (λ (b : Book). b.writes) is, ap (λ (b : Book). b.lost) is)
]

rest_left : (h : State) (g i : ℕ) → KeepsRest h (without_owner g i h)
rest_left h g i = record { shape = refl; commits = refl; queue = refl; asked = refl; safe = refl; stopped = refl; many = refl; living = λ s low high. refl; marks = book_left h.books g i }

pub part_rest : (h : State) (d : ℕ) (own : List Change) → session_count < d → KeepsRest h (with_own h d own)
part_rest h d own more = rest_set h d _ more

pub whole_rest : (h : State) (t d : ℕ) → session_count < d → KeepsRest h (without t d h)
whole_rest h t d more = rest_on h (ended h d []) (without t d h) (rest_set h d _ more) (rest_left (ended h d []) (t / 16) (t % 16))

-- one slot swept
swept_at_rest : (k t : ℕ) (h : State) (o : Option ℕ) → dead_at h t ≡ o → KeepsRest h (swept_at k t o h)
swept_at_rest k t h None at = rest_same h
swept_at_rest k t h (Some d) at =
    let more : session_count < d = dead_above h t d at in
    cond_both (length (session_own h d) - min k (length (session_own h d)) == 0) (without t d h)
    (with_own h d (take (length (session_own h d) - min k (length (session_own h d))) (session_own h d))) (KeepsRest h)
    (λ yes. whole_rest h t d more) (λ no. part_rest h d _ more)

pub swept_rest : (k : ℕ) (slots : List ℕ) (h : State) → KeepsRest h (swept k slots h)
swept_rest k [] h = rest_same h
swept_rest k (t ∷ slots) h =
    let next : State = swept_at k t (dead_at h t) h in
    rest_on h next (swept (k - swept_from k h (dead_at h t)) slots next) (swept_at_rest k t h (dead_at h t) refl) (swept_rest (k - swept_from k h (dead_at h t)) slots next)

-- one slot of which the dead goes, or stays
gone_rest : (goes : State → ℕ → Bool) (t : ℕ) (h : State) (o : Option ℕ) → dead_at h t ≡ o → KeepsRest h (gone goes t o h)
gone_rest goes t h None at = rest_same h
gone_rest goes t h (Some d) at = cond_both (goes h d) (without t d h) h (KeepsRest h) (λ yes. whole_rest h t d (dead_above h t d at)) (λ no. rest_same h)

pub all_gone_rest : (goes : State → ℕ → Bool) (slots : List ℕ) (h : State) → KeepsRest h (all_gone goes slots h)
all_gone_rest goes [] h = rest_same h
all_gone_rest goes (t ∷ slots) h =
    let next : State = gone goes t (dead_at h t) h in
    rest_on h next (all_gone goes slots next) (gone_rest goes t h (dead_at h t) refl) (all_gone_rest goes slots next)

pub home_rest : (table key : ℕ) (h : State) → KeepsRest h (home_cleared table key h)
home_rest table key h = all_gone_rest (works_at table key) (all_slots h) h

pub segment_rest : (g : ℕ) (h : State) → KeepsRest h (segment_cleared g h)
segment_rest g h = all_gone_rest (λ h d. true) (range_with_len (16 * g) 16) h

pub room_rest : (s g : ℕ) (h : State) → KeepsRest h (with_room s g h)
room_rest s g h = cond_both (lacks_room s (book_at h.books g)) (segment_cleared g h) h (KeepsRest h) (λ yes. segment_rest g h) (λ no. rest_same h)

rest_as : (h h1 h2 : State) → KeepsRest h h1 → h2 ≡ h1 → KeepsRest h h2
rest_as h h1 h2 rest is = subst (KeepsRest h) (sym is) rest

has_rest : (h ready : State) (s : ℕ) → HasRoom h s ready → KeepsRest h ready
has_rest h ready s (g, at, is) = rest_as h (with_room s g h) ready (room_rest s g h) is

refused_rest : (s : ℕ) (h ready : State) (why : Refusal) → Readies s h (Refused why) ready → KeepsRest h ready
refused_rest s h ready (refusals.RollbackFull seg since) room = has_rest h ready s room
refused_rest s h ready refusals.WornOut room = has_rest h ready s room
refused_rest s h ready refusals.DiskFault (inl is) = rest_as h h ready (rest_same h) is
refused_rest s h ready refusals.DiskFault (inr room) = has_rest h ready s room
refused_rest s h ready (refusals.Deadlock on) is = rest_as h h ready (rest_same h) is
refused_rest s h ready (refusals.TooOld scn lost) is = rest_as h h ready (rest_same h) is
refused_rest s h ready (refusals.CantSerialize scn by) is = rest_as h h ready (rest_same h) is
refused_rest s h ready refusals.NoSession is = rest_as h h ready (rest_same h) is
refused_rest s h ready refusals.Waiting is = rest_as h h ready (rest_same h) is
refused_rest s h ready refusals.NotFirst is = rest_as h h ready (rest_same h) is
refused_rest s h ready refusals.ReadOnly is = rest_as h h ready (rest_same h) is
refused_rest s h ready refusals.NoTable is = rest_as h h ready (rest_same h) is
refused_rest s h ready refusals.ValueTooLong is = rest_as h h ready (rest_same h) is
refused_rest s h ready refusals.Duplicate is = rest_as h h ready (rest_same h) is
refused_rest s h ready refusals.NotFound is = rest_as h h ready (rest_same h) is
refused_rest s h ready refusals.BlockFull is = rest_as h h ready (rest_same h) is
refused_rest s h ready refusals.SlotsFull is = rest_as h h ready (rest_same h) is
refused_rest s h ready refusals.NoSavepoint is = rest_as h h ready (rest_same h) is
refused_rest s h ready refusals.TooManySavepoints is = rest_as h h ready (rest_same h) is
refused_rest s h ready refusals.NoCursor is = rest_as h h ready (rest_same h) is
refused_rest s h ready refusals.CursorThere is = rest_as h h ready (rest_same h) is
refused_rest s h ready refusals.TooManyCursors is = rest_as h h ready (rest_same h) is
refused_rest s h ready refusals.NotWaiting is = rest_as h h ready (rest_same h) is
refused_rest s h ready refusals.Stopped is = rest_as h h ready (rest_same h) is

readies_rest : (s : ℕ) (h ready : State) (r : Answer) → Readies s h r ready → KeepsRest h ready
readies_rest s h ready Done room = has_rest h ready s room
readies_rest s h ready (Refused why) is = refused_rest s h ready why is
readies_rest s h ready (Waits on) is = rest_as h h ready (rest_same h) is
readies_rest s h ready (Committed n) is = rest_as h h ready (rest_same h) is
readies_rest s h ready (Numbered n) is = rest_as h h ready (rest_same h) is
readies_rest s h ready (Flushed n) is = rest_as h h ready (rest_same h) is
readies_rest s h ready (Swept n) is = rest_as h h ready (rest_same h) is
readies_rest s h ready (Given key value) is = rest_as h h ready (rest_same h) is
readies_rest s h ready End is = rest_as h h ready (rest_same h) is
readies_rest s h ready Absent is = rest_as h h ready (rest_same h) is
readies_rest s h ready (Marked seg writes lost) is = rest_as h h ready (rest_same h) is
readies_rest s h ready (Shown who activity) is = rest_as h h ready (rest_same h) is
readies_rest s h ready Idle is = rest_as h h ready (rest_same h) is

-- the state in which a call is made has all of the one before it but some of the dead
pub clears_rest : (h ready : State) (call : Call) (r : Answer) → ClearsTo h call r ready → KeepsRest h ready
clears_rest h ready (Write s table key action) r (inl (early, is)) = rest_as h h ready (rest_same h) is
clears_rest h ready (Write s table key action) r (inr (passed, inl (fault, is))) = rest_as h h ready (rest_same h) is
clears_rest h ready (Write s table key action) r (inr (passed, inr readies)) =
    rest_on h (home_cleared table key h) ready (home_rest table key h) (readies_rest s (home_cleared table key h) ready r readies)
clears_rest h ready (Commit s) r is = rest_as h h ready (rest_same h) is
clears_rest h ready (CommitLater s) r is = rest_as h h ready (rest_same h) is
clears_rest h ready (Rollback s) r is = rest_as h h ready (rest_same h) is
clears_rest h ready (SetMode s mode) r is = rest_as h h ready (rest_same h) is
clears_rest h ready (SetSavepoint s name) r is = rest_as h h ready (rest_same h) is
clears_rest h ready (RollbackTo s name) r is = rest_as h h ready (rest_same h) is
clears_rest h ready (OpenCursor s name table lo hi) r is = rest_as h h ready (rest_same h) is
clears_rest h ready (Fetch s name) r is = rest_as h h ready (rest_same h) is
clears_rest h ready (CloseCursor s name) r is = rest_as h h ready (rest_same h) is
clears_rest h ready (Get s table key) r is = rest_as h h ready (rest_same h) is
clears_rest h ready (Cancel s) r is = rest_as h h ready (rest_same h) is
clears_rest h ready (Marks seg) r is = rest_as h h ready (rest_same h) is
clears_rest h ready (Show s) r is = rest_as h h ready (rest_same h) is
clears_rest h ready Flush r is = rest_as h h ready (rest_same h) is
clears_rest h ready (Sweep k) r is = rest_as h h ready (rest_same h) is
clears_rest h ready Checkpoint r is = rest_as h h ready (rest_same h) is
