-- What an opening makes of a store whose blocks open to a state: an engine that stands for it, and images that restart
-- in it.
use Rattle.std.proofs.Common.{◌∷◌, ◌≡◌, ◌≢◌, ◌<◌, ◌≤◌, ◌+◌, ◌-◌, ◌^◌, ℕ, zero, suc, Bool, true, false, not, List, [], length, take, get_or, replicate, Some, None, Result, Ok, Err, IfErr, IsErrOf, refl, sym, ◌∙◌, ap, subst, arith, map, Option}
use Rattle.std.specs.Result.{IsErrAnd}
use Rattle.rb_copies.specs.Copies.{KeptHomes}
use Rattle.law_copies.specs.Copies.{CopiesStand}
use Rattle.law_copies.proofs.Outliving.{none_stand}
use Rattle.std.proofs.Math.Seq.{take-nil}
use Rattle.std.proofs.lemmas.List.{take_all}
use Rattle.std.proofs.lemmas.List.FromFn.{get_or-map-range_with_len}
use Rattle.std.specs.List.{flat_map}
use Rattle.rb_base.specs.Blocks.{after_groups}
use Rattle.rb_base.specs.Counts.{err_is, is_failed}
use Rattle.rb_base.specs.Groups.{Patch}
use Rattle.rb_base.specs.Keeps.{AfterEach, Keeps}
use Rattle.rb_base.specs.Logs.{Laws, Logs, more_logs}
use Rattle.rb_base.specs.Moments.{weaker}
use Rattle.rb_base.specs.declared.faults.OpenFault.{OpenFault}
use Rattle.rb_base.specs.declared.faults.OpenFault.TheVariants.{Failed, NoMemory, NotAStore}
use Rattle.rb_base.specs.declared.shape.Shape.{Shape}
use Rattle.rb_base.specs.declared.store.Store.{Ghosts}
use Rattle.rb_engine.specs.Does.{InTables, IsInStep, Kept, owed_kept}
use Rattle.rb_model.specs.Queue.{is_queued}
use Rattle.rb_waits.specs.Room.{AreQueuedOnce}
use Rattle.rb_engine.specs.Opened.{Opened, OpensTo, StaysOpen}
use Rattle.law_crash.specs.Crash.{Restarts}
use Rattle.law_crash.specs.Holds.{Holds}
use Rattle.law_crash.specs.Images.{HasSome, HasState}
use Rattle.law_crash.proofs.Crashes.{some_last}
use Rattle.law_crash.proofs.Steps.{OpensWith, Property, keeps_on, leaves_on, restarts_some}
use Rattle.rb_model.specs.Book.{Book, book_at, fresh_book, Owner}
use Rattle.rb_model.specs.Calls.{HasNoSlot}
use Rattle.rb_model.specs.Change.{Change}
use Rattle.rb_model.specs.Rows.{TableRow, last_scn, over, rows_at}
use Rattle.std.proofs.lemmas.List.Sums.{sum_by-cons}
use Rattle.std.specs.List.{sum_by}
use Rattle.rb_model.specs.Dead.{all_slots, dead_at, dead_owed, dead_owed_at, dead_owner}
use Rattle.rb_model.specs.State.{State, opened, owner_at}
use Rattle.rb_recovery.specs.Opens.{books_of}
use Rattle.rb_recovery.proofs.Opened.{books_same, unowned}
use Rattle.rb_recovery.proofs.Rolled.{none_sound, opened_by}
use Rattle.rb_restart.specs.Rollback.{BackBy, IsPartlyBack, RolledBack, StaySound, found_book}
use Rattle.rb_segment.specs.Header.{segment_of}
use Rattle.rb_segment.specs.Segments.{commit_scn}
use Rattle.rb_sessions.specs.Kept.{KeptSession, fresh, kept_at}
use Rattle.rb_sessions.specs.declared.sessions.TheConstants.{SESSIONS}
use Rattle.law_blocks.specs.Standing.{SoundAs, env_of, logged_of, segments_of}
use Rattle.law_blocks.specs.States.{BlocksStand}
use Rattle.law_blocks.proofs.SegmentRead.{header_is}
use Rattle.law_sessions.specs.Views.{Remembers}
use Rattle.law_sessions.proofs.Opened.{first_remembered}

-- what holds of the store behind loads holds of the one before them
pub moved : {S : Type 0} (s : Ghosts S) (old mid : S) (F : Shape → ℕ → List (List ℕ) → Type 0) → Logs s old mid [] true → s.tells → F (s.shape_of mid) (s.lsn mid) (s.blocks mid) → F (s.shape_of old) (s.lsn old) (s.blocks old)
moved s old mid F loads told here =
    let by_shape = subst (λ (shape : Shape). F shape (s.lsn mid) (s.blocks mid)) loads.same_shape here in
    let by_lsn = subst (λ (lsn : ℕ). F (s.shape_of old) lsn (s.blocks mid)) (omega (arith, loads.number refl)) by_shape in
    subst (F (s.shape_of old) (s.lsn old)) (loads.blocks told refl) by_lsn

-- a refusal but for a fault leaves no group
pub refused : {S : Type 0} (s : Ghosts S) (old mid new : S) (result : Result (Unit {0}) OpenFault) (groups : List (List Patch)) → Logs s old mid [] true → Logs s mid new groups (not (err_is is_failed result)) → (IsErrOf result NotAStore → groups ≡ []) → (IsErrOf result NoMemory → ⊥)
    → IfErr result (λ (fault : OpenFault). fault ≢ Failed → Logs s old new [] true)
refused s old mid new (Ok value) groups first logs none no_memory = tt
refused s old mid new (Err NotAStore) groups first logs none no_memory = λ other. more_logs s old mid new [] [] true first (subst (λ (l : List (List Patch)). Logs s mid new l true) (none refl) logs)
refused s old mid new (Err NoMemory) groups first logs none no_memory = absurd (no_memory refl)
refused s old mid new (Err Failed) groups first logs none no_memory = λ other. absurd (other refl)

-- what is so at any fault
pub fails_with : {A B : Type 0} (result : Result A B) (X : Type 0) → X → IfErr result (λ (fault : B). X)
fails_with (Ok value) X is = tt
fails_with (Err fault) X is = is

-- what holds of an error, from what is told of it
pub told_err : {A B : Type 0} (P Q : B → Type 0) (result : Result A B) → IsErrAnd result P → ((e : B) → P e → Q e) → IfErr result Q
told_err P Q (Ok value) is so = tt
told_err P Q (Err e) is so = so e is

-- a new table is that of sessions that have done nothing
fresh_at : (u : ℕ) → kept_at (replicate SESSIONS fresh) u ≡ fresh
fresh_at u = by (u - 1) SESSIONS
  where
    by : (i n : ℕ) → get_or (replicate n fresh) i fresh ≡ fresh
    by i zero = refl
    by zero (suc n) = refl
    by (suc i) (suc n) = by i n

-- where no slot is a dead transaction's, no group is owed
nothing_owed : (h : State) → ((t : ℕ) → dead_at h t ≡ None) → dead_owed h ≡ 0
nothing_owed h none = by (all_slots h)
  where
    by : (l : List ℕ) → sum_by (λ t. dead_owed_at h (dead_at h t)) l ≡ 0
    by [] = refl
    by (t ∷ l) = let all = sum_by-cons (λ t. dead_owed_at h (dead_at h t)) t l in let here : dead_owed_at h (dead_at h t) ≡ 0 = ap (dead_owed_at h) (none t) in let rest = by l in omega (arith, all, here, rest)

-- an engine that was just opened is in step
pub in_step : {S : Type 0} (s : Ghosts S) (kept : Kept) (old new : S) (groups : List (List Patch)) → Logs s old new groups true → length groups ≤ 2 ^ 40 → s.lsn old ≤ 2 ^ 61 + 4096
    → kept.sessions ≡ replicate SESSIONS fresh → kept.waits ≡ [] → kept.dead ≡ 0 → IsInStep s kept new
in_step s kept old new groups logs few low is empty calm =
    let at : (u : ℕ) → kept_at kept.sessions u ≡ fresh = λ u. ap (λ (l : List KeptSession). kept_at l u) is ∙ fresh_at u in record {
      counted = ap (λ (l : List KeptSession). length l) is;
      tables = λ u. subst (InTables (s.shape_of new)) (sym (at u)) tt;
      own = λ u x has. let clash : None ≡ Some x = ap (λ (k : KeptSession). k.own) (sym (at u)) ∙ has in absurd cc;
      small = λ u. let none = ap (λ (k : KeptSession). k.count) (at u) in omega (arith, none);
      idle = λ u _. ap (λ (k : KeptSession). k.count) (at u);
      queue = record {
        once = subst AreQueuedOnce (sym empty) tt;
        held = λ u queued. (let clash : false ≡ true = ap (is_queued u) (sym empty) ∙ queued in absurd (cc));
      };
      going = λ _. logs.failed;
      few = λ _. let number = logs.number refl in let none = ap owed_kept is in omega (arith, number, few, low, none, calm);
      owed = omega (arith, calm);
    }

-- the rows of an opened state at its last commit are its base
opened_rows : (shape : Shape) (number : ℕ) (rows : List TableRow) (books : List Book) → rows_at shape.blocks (opened shape number rows books []).commits (last_scn (opened shape number rows books []).commits) ≡ rows
opened_rows shape number rows books = ap (λ (commits : List (List Change)). over shape.blocks rows (flat_map (λ changes. changes) commits)) (take-nil (number + 0 - number))

module _ (shape : Shape) (blocks : List (List ℕ)) (number : ℕ) (rows : List TableRow) where
  abbrev pub First : State
  First = opened shape number rows (books_of shape blocks) []

  -- blocks that are partly put back have the state that they open to
  has_partly : (lsn count : ℕ) (at : List (List ℕ)) → lsn ≡ logged_of shape blocks → IsPartlyBack shape number rows count blocks at
      → HasState First First.books (last_scn First.commits) at (lsn + count)
  has_partly lsn count at logged is = record {
    logged = omega (arith, logged, is.logged);
    sound = subst (SoundAs shape at (last_scn First.commits)) (sym (opened_rows shape number rows (books_of shape blocks))) (subst (λ (n : ℕ). SoundAs shape at n rows) (omega arith) is.sound);
    marks = record {
      writes = λ g there. let same = ap (λ (b : Book). b.writes) (book_is g there) in omega (arith, same);
      lost = λ g there. let same = ap (λ (b : Book). b.lost) (book_is g there) in omega (arith, same);
    };
  }
    where
      book_is : (g : ℕ) → g < shape.segments → found_book (segments_of shape at g).header ≡ book_at (books_of shape blocks) g
      book_is g there =
          ap found_book (header_is shape at g)
          ∙ is.books g there
          ∙ ap found_book (sym (header_is shape blocks g))
          ∙ sym (get_or-map-range_with_len (λ (k : ℕ). found_book (segment_of shape blocks k).header) 0 shape.segments g g fresh_book there (omega arith))

  each_partly : (lsn : ℕ) (groups : List (List Patch)) → lsn ≡ logged_of shape blocks → StaySound shape number rows lsn groups blocks
      → AfterEach (HasSome First First.books) lsn groups blocks
  each_partly lsn groups logged stay count few =
      let now = after_groups (lsn + 1) (take count groups) blocks in
      some_last First First.books now (lsn + count) (omega arith) (has_partly lsn count now logged (stay count few))

module _ {S : Type 0} (s : Ghosts S) (laws : Laws s) (told : s.tells) (h : State) (old : S) (opens : OpensTo s h old) where
  abbrev Sh : Shape
  Sh = s.shape_of old

  abbrev Number : ℕ
  Number = opens.opening.number

  abbrev Rows : List TableRow
  Rows = opens.opening.rows

  abbrev Has : Property
  Has = HasSome h h.books

  shape_is : Sh ≡ h.shape
  shape_is = sym (ap (λ (x : State). x.shape) opens.opening.state)

  each : (groups : List (List Patch)) → StaySound Sh Number Rows (s.lsn old) groups (s.blocks old) → AfterEach Has (s.lsn old) groups (s.blocks old)
  each groups stay =
      subst (λ (x : State). AfterEach (HasSome x x.books) (s.lsn old) groups (s.blocks old)) (sym opens.opening.state)
      (each_partly Sh (s.blocks old) Number Rows (s.lsn old) groups opens.logged stay)

  none_stays : StaySound Sh Number Rows (s.lsn old) [] (s.blocks old)
  none_stays = none_sound Sh Number Rows (s.lsn old) (s.blocks old) opens.opening.sound

  kept : s.keeps → Keeps s Has old
  kept keeps = record {
    base = s.blocks old;
    first = s.lsn old;
    stable = opens.stable keeps;
    each = subst (λ (l : List (List Patch)). AfterEach Has (s.lsn old) l (s.blocks old)) (sym (opens.none_waits keeps)) (each [] none_stays);
  }

  -- whatever calls leave, it opens to the state
  pub stays : (new : S) (groups : List (List Patch)) (going : Bool) → Logs s old new groups going → StaySound Sh Number Rows (s.lsn old) groups (s.blocks old) → StaysOpen s h old new
  stays new groups going logs stay keeps =
      weaker s.moment s.left_since old new (OpensWith s Has old) (Restarts s.opens (s.slots old) h)
      (λ i opening. restarts_some s laws keeps h h.books old i shape_is opening)
      (leaves_on s laws keeps Has Has (λ b n has. has) old new groups going (kept keeps) logs (each groups stay))

  pub unchanged_stays : (new : S) (going : Bool) → Logs s old new [] going → StaysOpen s h old new
  unchanged_stays new going logs = stays new [] going logs none_stays

  module _ (new : S) (groups : List (List Patch)) (logs : Logs s old new groups true) (stay : StaySound Sh Number Rows (s.lsn old) groups (s.blocks old)) (back : RolledBack Sh groups (s.blocks old) (s.blocks new)) where
    stand : BlocksStand (First Sh (s.blocks old) Number Rows) [] (s.blocks new) × (s.lsn new ≡ logged_of Sh (s.blocks new))
    stand = opened_by s old new groups logs told Number Rows opens.in_range opens.logged stay back

    sound_new : SoundAs Sh (s.blocks new) Number Rows
    sound_new =
        let made = logs.blocks told refl ∙ ap (λ (l : List (List Patch)). after_groups (s.lsn old + 1) l (s.blocks old)) (sym (take_all (length groups) groups (omega arith))) in
        subst (λ (blocks : List (List ℕ)). SoundAs Sh blocks Number Rows) (sym made) (stay (length groups) (omega arith)).sound

    none_owns : (who : ℕ) → HasNoSlot (First Sh (s.blocks old) Number Rows) who
    none_owns who t o at is =
        let none : owner_at (First Sh (s.blocks new) Number Rows) t ≡ None = unowned Sh (s.blocks new) Number Rows opens.in_range sound_new back.idle t in
        let same = ap (λ (books : List Book). owner_at (opened Sh Number Rows books []) t) (books_same Sh (s.blocks old) (s.blocks new) back.books) in
        let clash : None ≡ Some o = sym none ∙ (same ∙ at) in
        cc

    no_dead : (t : ℕ) (o : Option Owner) → owner_at (First Sh (s.blocks old) Number Rows) t ≡ o → dead_at (First Sh (s.blocks old) Number Rows) t ≡ None
    no_dead t None at = ap dead_owner at
    no_dead t (Some o) at = absurd (none_owns o.session t o at refl)

    holds_first : (s.keeps → Keeps s (HasSome (First Sh (s.blocks old) Number Rows) (First Sh (s.blocks old) Number Rows).books) new) → Holds s (First Sh (s.blocks old) Number Rows) [] new
    holds_first images = record {
      blocks = stand.0;
      logged = stand.1;
      images = images;
    }

    images_new : s.keeps → Keeps s (HasSome h h.books) new
    images_new keeps = keeps_on s laws keeps Has Has (λ b n has. has) old new groups (kept keeps) logs (each groups stay)

    holds : Holds s h [] new
    holds =
        subst (λ (x : State). (s.keeps → Keeps s (HasSome x x.books) new) → Holds s x [] new) (sym opens.opening.state) holds_first images_new

    -- an engine with such a memory
    pub opened_engine : (memory : Kept) → memory.sessions ≡ replicate SESSIONS fresh → memory.waits ≡ [] → memory.scn ≡ commit_scn Sh (s.blocks old) → memory.stopped ≡ false → memory.copies.kept ≡ [] → memory.dead ≡ 0 → Opened s h old (record { memory = memory; store = new })
    opened_engine memory table_is empty scn going none_kept calm = record {
      stands = record {
        told = told;
        shape = logs.same_shape ∙ shape_is;
        knows = record {
          sixteen = let n = ap (λ (x : State). length x.sessions) opens.opening.state in omega (arith, n);
          stopped = going ∙ sym (ap (λ (x : State). x.stopped) opens.opening.state);
          scn = scn ∙ (opens.opening.sound.standing.stands.number ∙ (first_number ∙ sym (ap (λ (x : State). last_scn x.commits) opens.opening.state)));
          queue = λ _. record {
            waits = empty ∙ sym (ap (λ (x : State). x.queue) opens.opening.state);
            asked = ap (λ (l : List KeptSession). map (λ k. k.asked) l) table_is ∙ sym (ap (λ (x : State). x.asked) opens.opening.state);
          };
        };
        goes = λ _. record {
          xids = [];
          holds = holds;
          remembers = subst (Remembers h [] (env_of h.shape (s.blocks new))) (sym table_is)
              (subst (λ (x : State). Remembers x [] (env_of h.shape (s.blocks new)) (replicate SESSIONS fresh)) (sym opens.opening.state)
              (first_remembered Sh Number Rows (books_of Sh (s.blocks old)) [] (env_of h.shape (s.blocks new)) (λ who _. none_owns who)));
          copies = subst (λ (k : KeptHomes). CopiesStand h [] (s.blocks new) k) (sym none_kept) (none_stand h [] (s.blocks new));
        };
        owes = λ _. calm ∙ sym (ap (λ (x : State). dead_owed x) opens.opening.state ∙ nothing_owed (First Sh (s.blocks old) Number Rows) (λ t. no_dead t (owner_at (First Sh (s.blocks old) Number Rows) t) refl));
      };
      lsn = logs.number refl ∙ ap (λ (n : ℕ). s.lsn old + n) back.count;
      back = subst (λ (n : ℕ). BackBy Sh n (s.blocks old) (s.blocks new)) back.count back.back;
      stays = stays new groups true logs stay;
    }
      where
        first_number : Number ≡ last_scn (First Sh (s.blocks old) Number Rows).commits
        first_number = omega arith
