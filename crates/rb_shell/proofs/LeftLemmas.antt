-- Files that a person may have are sound, and what a run over one leaves is one.
use Rattle.std.proofs.Common.{◌≡◌, ◌⊎◌, inr, inl, ⊎_elim, ◌+◌, ◌^◌, ◌<◌, ◌≤◌, ◌++◌, ℕ, Bool, true, false, List, [], ◌∷◌, Option, Some, refl, sym, ◌∙◌, ap, subst, arith, append_assoc}
use Rattle.std.proofs.lemmas.List.FromFn.{get_or-map-range_with_len}
use Rattle.std.proofs.lemmas.Option.{same_Some}
use Rattle.rb_base.specs.Moments.{weaker}
use Rattle.rb_base.specs.declared.shape.Shape.{Shape}
use Rattle.rb_disk.specs.Moments.{Leaves}
use Rattle.rb_disk.specs.declared.disk.Disk.{Ghosts as DiskGhosts}
use Rattle.law_crash.proofs.Crashes.{extends_later, extends_same, grow_same}
use Rattle.law_crash.specs.Between.{Extends, FoundAtEnd, FoundBetween, FoundSome, MarksGrow, at_end, one_commit, one_write, reached, up_to, with_commit}
use Rattle.law_crash.specs.Crash.{AtEnd, OnTheWay, Restarts, RestartsAt}
use Rattle.rb_layout.specs.Regions.{shape_of}
use Rattle.rb_layout.specs.declared.layout.Layout.{Layout}
use Rattle.rb_lines.specs.Cut.{CutOff}
use Rattle.rb_lines.specs.Ends.{Halted}
use Rattle.rb_lines.specs.Ran.{Ran}
use Rattle.rb_model.specs.Book.{Book, book_at, fresh_book}
use Rattle.rb_model.specs.Calls.{Call}
use Rattle.rb_model.specs.Change.{Change}
use Rattle.rb_model.specs.Lines.{lines_of}
use Rattle.rb_model.specs.Out.{Logged}
use Rattle.rb_model.specs.Rows.{last_scn, rows_at}
use Rattle.rb_model.specs.State.{State, all_safe, opened, session_own}
use Rattle.rb_recovery.proofs.Sound.{sound_as}
use Rattle.rb_recovery.specs.Opens.{books_of}
use Rattle.rb_restart.specs.Rollback.{found_book}
use Rattle.rb_segment.specs.Header.{segment_of}
use Rattle.rb_segment.specs.Segments.{owed_in}
use Rattle.rb_shell.proofs.BooksNew.{books_new}
use Rattle.rb_shell.proofs.Forgets.{cut_plain, halted_plain, ran_plain}
use Rattle.rb_shell.proofs.NewFile.{new_file, new_log, new_number}
use Rattle.rb_shell.proofs.Restarting.{head_small}
use Rattle.rb_shell.specs.Left.{Left, fresh, later}
use Rattle.rb_shell.specs.Over.{HasRows, HaltsOver, HaveAll, IsCutOver, LeavesAll, LeavesFiles, LeavesSame, LeavesSome, RunsOver, RunsToEnd, at_start, plain}
use Rattle.rb_shell.specs.Runs.{Endures, FirstBlocks, IsSound, Lasts, LastsBehind, LeftBehind, OpensSame, first_of}
use Rattle.rb_shell.specs.declared.script.TheConstants.{SCRIPT_BYTES}
use Rattle.law_blocks.specs.Standing.{SoundAs, logged_of}
use Rattle.rb_calls.specs.Since.{engine_outside}
use Rattle.rb_control.specs.Heads.{head_of}
use Rattle.rb_store.specs.Meaning.{Opens}

-- ---- it is sound, and opens with that state and that log number

pub record OpensWith (slots : ℕ) (file : List ℕ) (h : State) (lsn : ℕ) : Type 0 where
  pub sound : IsSound file
  pub state : sound.state ≡ h
  pub log : sound.store.layout.log ≡ slots
  pub number : sound.store.lsn + owed_in (shape_of sound.store.layout) sound.store.blocks ≡ lsn

pub restart_small : (slots : Option ℕ) (n : ℕ) (books : List Book) (h : State) (file : List ℕ) → RestartsAt Opens slots books h n file → (head_of file).number ≤ 2 ^ 61
restart_small slots n books h file r =
    let logged = r.has.logged in
    let ahead = r.has.sound.standing.ahead in
    head_small r.opening.layout file r.blocks r.lsn r.opening.opens.means (omega (arith, logged, ahead))

restarted : (slots n : ℕ) (books : List Book) (now : State) (file : List ℕ) (r : RestartsAt Opens (Some slots) books now n file) → OpensWith slots file (opened now.shape n (rows_at now.shape.blocks now.commits n) (books_of now.shape r.blocks) []) (r.lsn + owed_in now.shape r.blocks)
restarted slots n books h file r =
    let m = r.opening.layout in
    let rows = rows_at h.shape.blocks h.commits n in
    let sound : SoundAs (shape_of m) r.blocks n rows = subst (λ (s : Shape). SoundAs s r.blocks n rows) (sym r.opening.shape_is) r.has.sound in
    record {
      sound = record {
        store = record {
          layout = m;
          blocks = r.blocks;
          lsn = r.lsn;
          opens = r.opening.opens;
          small = restart_small (Some slots) n books h file r;
          sound = sound_as (shape_of m) r.blocks n rows sound;
        };
        state = opened (shape_of m) n rows (books_of (shape_of m) r.blocks) [];
        opening = record { number = n; rows = rows; sound = sound; state = refl };
        logged = subst (λ (s : Shape). r.lsn ≡ logged_of s r.blocks) (sym r.opening.shape_is) r.has.logged;
      };
      state = ap (λ (s : Shape). opened s n rows (books_of s r.blocks) []) r.opening.shape_is;
      log = same_Some m.log slots r.opening.slots_are;
      number = ap (λ (s : Shape). r.lsn + owed_in s r.blocks) r.opening.shape_is;
    }

pub opens_with : (slots : ℕ) (file : List ℕ) (h : State) (lsn : ℕ) → Left slots file h lsn → OpensWith slots file h lsn
opens_with slots _ _ _ (fresh l log file is h opens lsn none) =
    let new = new_file l in
    subst (λ (f : List ℕ). OpensWith slots f h lsn) (sym is)
    (record { sound = new.0; state = new.1 ∙ (ap (λ (books : List Book). opened (shape_of l) 0 [] books []) (books_new (shape_of l)) ∙ sym opens); log = new_log l ∙ log; number = new_number l ∙ sym none })
opens_with slots _ _ _ (later before first number was now extends books n low file r h opens lsn last) =
    subst (OpensWith slots file h) (sym last) (subst (λ (x : State). OpensWith slots file x (r.lsn + owed_in now.shape r.blocks)) (sym opens) (restarted slots n books now file r))

-- ---- what a run over it leaves is one

-- the books that a file opens with say no more than those of which it has the marks
marks_found : (slots n : ℕ) (books : List Book) (h : State) (file : List ℕ) (r : RestartsAt Opens (Some slots) books h n file) → MarksGrow h.shape (books_of h.shape r.blocks) books
marks_found slots n books h file r = record {
  writes = λ g there. let has = r.has.marks.writes g there in let same = ap (λ (b : Book). b.writes) (at g there) in omega (arith, has, same);
  lost = λ g there. let has = r.has.marks.lost g there in let same = ap (λ (b : Book). b.lost) (at g there) in omega (arith, has, same);
}
  where
    at : (g : ℕ) → g < h.shape.segments → book_at (books_of h.shape r.blocks) g ≡ found_book (segment_of h.shape r.blocks g).header
    at g there = get_or-map-range_with_len (λ (k : ℕ). found_book (segment_of h.shape r.blocks k).header) 0 h.shape.segments g g fresh_book there (omega arith)

all_low : (slots : ℕ) (file : List ℕ) (h : State) (lsn : ℕ) → Left slots file h lsn → h.safe ≡ last_scn h.commits
all_low slots _ _ _ (fresh l log file new h opens lsn none) = subst (λ (x : State). x.safe ≡ last_scn x.commits) (sym opens) (omega arith)
all_low slots _ _ _ (later before first number was now extends books n low file r h opens lsn last) = subst (λ (x : State). x.safe ≡ last_scn x.commits) (sym opens) (omega arith)

module _ (slots : ℕ) (before : List ℕ) (h : State) (number : ℕ) (is : Left slots before h number) where
  has_rows : (now : State) → Extends h now → (books : List Book) (n : ℕ) → last_scn h.commits ≤ n → (file : List ℕ) → RestartsAt Opens (Some slots) books now n file → HasRows slots books now n file
  has_rows now extends books n low file r = record {
    found = books_of now.shape r.blocks;
    marks = marks_found slots n books now file r;
    lsn = r.lsn + owed_in now.shape r.blocks;
    left = later before h number is now extends books n low file r _ refl _ refl;
  }

  -- all commits of the state that such a file opens to are acknowledged
  low : h.safe ≡ last_scn h.commits
  low = all_low slots before h number is

  -- with a commit more
  more : (now : State) (s : ℕ) → Extends h now → Extends h (with_commit now s)
  more now s e = record {
    shape = e.shape;
    base = e.base;
    rows = e.rows;
    more = e.more ++ session_own now s ∷ [];
    list = ap (λ (l : List (List Change)). l ++ session_own now s ∷ []) e.list ∙ append_assoc h.commits.list e.more (session_own now s ∷ []);
    marks = e.marks;
    safe = e.safe;
  }

  some_rows : (books : List Book) (now : State) → Extends h now → (file : List ℕ) → FoundSome (RestartsAt Opens (Some slots)) books now file → FoundSome (HasRows slots) books now file
  some_rows books now e file r = record {
    number = r.number;
    acknowledged = r.acknowledged;
    made = r.made;
    found = has_rows now e books r.number (let from = r.acknowledged in let grown = e.safe in let same = low in omega (arith, from, grown, same)) file r.found;
  }

  ends : (fault : Option Call) (now : State) → Extends h now → (file : List ℕ) → AtEnd Opens (Some slots) fault now file → FoundAtEnd (HasRows slots) fault now file
  ends fault now e file (up_to r) = up_to (some_rows now.books now e file r)
  ends fault now e file (one_commit s by stopped own r) =
      one_commit s by stopped own (has_rows (with_commit now s) (more now s e) now.books (last_scn now.commits + 1) (let le = extends_later h now e in omega (arith, le)) file r)
  ends fault now e file (one_write s table key action g k by stopped within r) =
      one_write s table key action g k by stopped within (some_rows _ now e file r)

  between : (fault : Option Call) (now : State) → Extends h now → (file : List ℕ) → OnTheWay Opens (Some slots) fault h now file → FoundBetween (HasRows slots) fault h now file
  between fault now e file (reached n from high r) = reached n from high (has_rows now e now.books n (let same = low in omega (arith, from, same)) file r)
  between fault now e file (at_end r) = at_end (ends fault now e file r)

  module _ {D : Type 0} (d : DiskGhosts D) (old new : D) where
    leaves : (now : Logged) → Extends h now.state → Leaves d old new (λ c. d.image old c ⊎ OnTheWay Opens (Some slots) now.fault h now.state c) → ((c : List ℕ) → d.image new c → AtEnd Opens (Some slots) now.fault now.state c) → LeavesFiles d old new slots h now
    leaves now e any end = record {
      extends = e;
      any_moment = weaker d.moment d.image_since old new (λ c. d.image old c ⊎ OnTheWay Opens (Some slots) now.fault h now.state c) (λ c. d.image old c ⊎ FoundBetween (HasRows slots) now.fault h now.state c)
          (λ c p. ⊎_elim (λ was. inl was) (λ way. inr (between now.fault now.state e c way)) p) any;
      now_only = λ c here. ends now.fault now.state e c (end c here);
    }

    pub leaves_by : (now : Logged) (l : Layout) (first : State) → first ≡ h → l.log ≡ slots → Endures d old new l first now → LeavesFiles d old new slots h now
    leaves_by now l first state log e =
        let extends = subst (λ (z : State). Extends z now.state) state e.extends in
        let any = subst (λ (z : State). Leaves d old new (λ c. d.image old c ⊎ OnTheWay Opens (Some slots) now.fault z now.state c)) state
        (subst (λ (k : ℕ). Leaves d old new (λ c. d.image old c ⊎ OnTheWay Opens (Some k) now.fault first now.state c)) log e.any_moment) in
        let end : (c : List ℕ) → d.image new c → AtEnd Opens (Some slots) now.fault now.state c = λ c here. subst (λ (k : ℕ). AtEnd Opens (Some k) now.fault now.state c) log (e.now_only c here) in
        leaves now extends any end

    -- an opening that was stopped
    pub leaves_same : (w : OpensWith slots (d.content old) h number) → OpensSame d old new w.sound → LeavesSame d old new slots h
    leaves_same w same =
        let P : List ℕ → Type 0 = λ c. d.image old c ⊎ Restarts Opens (Some slots) h c in
        let moved : Leaves d old new P = subst (λ (z : State). Leaves d old new (λ c. d.image old c ⊎ Restarts Opens (Some slots) z c)) w.state
        (subst (λ (k : ℕ). Leaves d old new (λ c. d.image old c ⊎ Restarts Opens (Some k) w.sound.state c)) w.log same) in
        let itself = extends_same h h refl refl (grow_same h.shape h.books) (omega arith) in
        let last : (c : List ℕ) → Restarts Opens (Some slots) h c → HasRows slots h.books h (last_scn h.commits) c = λ c r.
        let at : r.number ≡ last_scn h.commits = (let from = r.acknowledged in let to = r.made in let same = low in omega (arith, from, to, same)) in
        has_rows h itself h.books (last_scn h.commits) (omega arith) c (subst (λ (n : ℕ). RestartsAt Opens (Some slots) h.books h n c) at r.found) in
        weaker d.moment d.image_since old new P (λ c. d.image old c ⊎ HasRows slots h.books h (last_scn h.commits) c)
        (λ c p. ⊎_elim (λ was. inl was) (λ r. inr (last c r)) p) moved

    -- lines that were done over it
    pub runs_over : (w : OpensWith slots (d.content old) h number) (first : FirstBlocks w.sound) (fault : Bool) (lines : List (List ℕ)) (tells : Type 0) (held_before held_now : List ℕ) (now : Logged)
        → Ran engine_outside (first_of w.sound first) now lines tells held_before held_now → now.state.stopped ≡ fault → Endures d old new w.sound.store.layout w.sound.state now
        → RunsOver d old new slots h number fault lines tells held_before held_now
    runs_over w blocks fault lines tells held_before held_now now ran stops e =
        let first = first_of w.sound blocks in
        record {
          blocks = first.blocks;
          now = now;
          ran = subst (λ (z : State). Ran plain (at_start z number first.blocks) now lines tells held_before held_now) w.state
              (subst (λ (k : ℕ). Ran plain (at_start w.sound.state k first.blocks) now lines tells held_before held_now) w.number
              (ran_plain engine_outside first now lines tells held_before held_now ran));
          stops = stops;
          leaves = leaves_by now w.sound.store.layout w.sound.state w.state w.log e;
        }

    -- what waits was made last: the files have all commits
    have_all : (w : OpensWith slots (d.content old) h number) (now : Logged) → Lasts d old new w.sound.store.layout w.sound.state now → HaveAll d new slots now
    have_all w now e =
        let before = subst (λ (z : State). Extends z now.state) w.state e.endured.extends in
        let extends : Extends h (all_safe now.state) = record {
          shape = before.shape;
          base = before.base;
          rows = before.rows;
          more = before.more;
          list = before.list;
          marks = before.marks;
          safe = let later = extends_later h now.state before in let same = low in omega (arith, later, same);
        } in λ c here. some_rows now.state.books (all_safe now.state) extends c
        (subst (λ (k : ℕ). Restarts Opens (Some k) (all_safe now.state) c) w.log (e.last c here).commits)

    -- to the end of the script
    pub runs_to_end : (w : OpensWith slots (d.content old) h number) (first : FirstBlocks w.sound) (lines : List (List ℕ)) (tells : Type 0) (held_before held_now : List ℕ) (now : Logged)
        → Ran engine_outside (first_of w.sound first) now lines tells held_before held_now → now.state.stopped ≡ false → Lasts d old new w.sound.store.layout w.sound.state now
        → RunsToEnd d old new slots h number lines tells held_before held_now
    unfolding runs_over
    runs_to_end w blocks lines tells held_before held_now now ran going e = record {
      over = runs_over w blocks false lines tells held_before held_now now ran going e.endured;
      all = have_all w now e;
    }

    -- up to a fault of the disk
    pub halts_over : (w : OpensWith slots (d.content old) h number) (first : FirstBlocks w.sound) (left left2 : List ℕ) (tells : Type 0) (held_before held_now : List ℕ) (now : Logged)
        → Ran engine_outside (first_of w.sound first) now (lines_of left) tells held_before held_now → Halted engine_outside SCRIPT_BYTES (first_of w.sound first) now left left2 tells held_before held_now
        → Endures d old new w.sound.store.layout w.sound.state now → HaltsOver d old new slots h number left left2 tells held_before held_now
    unfolding runs_over
    halts_over w blocks left left2 tells held_before held_now now ran halted e =
        let first = first_of w.sound blocks in
        record {
          over = runs_over w blocks true (lines_of left) tells held_before held_now now ran halted.stopped e;
          halted = subst (λ (z : State). Halted plain SCRIPT_BYTES (at_start z number first.blocks) now left left2 tells held_before held_now) w.state
              (subst (λ (k : ℕ). Halted plain SCRIPT_BYTES (at_start w.sound.state k first.blocks) now left left2 tells held_before held_now) w.number
              (halted_plain engine_outside first now SCRIPT_BYTES left left2 tells held_before held_now halted));
        }

    pub is_cut_over : (w : OpensWith slots (d.content old) h number) (first : FirstBlocks w.sound) (left left2 held_before held_now : List ℕ) (now : Logged)
        → CutOff engine_outside SCRIPT_BYTES (first_of w.sound first) now left left2 held_before held_now → Endures d old new w.sound.store.layout w.sound.state now
        → IsCutOver d old new slots h number left left2 held_before held_now
    is_cut_over w blocks left left2 held_before held_now now cut e =
        let first = first_of w.sound blocks in
        record {
          blocks = first.blocks;
          now = now;
          cut = subst (λ (z : State). CutOff plain SCRIPT_BYTES (at_start z number first.blocks) now left left2 held_before held_now) w.state
              (subst (λ (k : ℕ). CutOff plain SCRIPT_BYTES (at_start w.sound.state k first.blocks) now left left2 held_before held_now) w.number
              (cut_plain engine_outside first now SCRIPT_BYTES left left2 held_before held_now cut));
          leaves = leaves_by now w.sound.store.layout w.sound.state w.state w.log e;
        }

    pub leaves_some : (w : OpensWith slots (d.content old) h number) → LeftBehind d old new w.sound → LeavesSome d old new slots h
    leaves_some w left = record { now = left.now; leaves = leaves_by left.now w.sound.store.layout w.sound.state w.state w.log left.endured }

    pub leaves_all : (w : OpensWith slots (d.content old) h number) → LastsBehind d old new w.sound → LeavesAll d old new slots h
    leaves_all w left = record {
      now = left.now;
      leaves = leaves_by left.now w.sound.store.layout w.sound.state w.state w.log left.lasted.endured;
      all = have_all w left.now left.lasted;
    }
