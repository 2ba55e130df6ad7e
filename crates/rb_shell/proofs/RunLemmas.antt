-- From the engine that an opening made to the run over the file that it opened.
use Rattle.std.proofs.Common.{◌≡◌, ◌^◌, ◌∙◌, ◌⊎◌, inl, inr, ⊎_elim, ap, sym, subst, refl, arith, ℕ, false, ◌+◌, ◌<◌, ◌≤◌, List, [], ◌++◌, length, Option, Some}
use Rattle.std.proofs.lemmas.List.{length-append}
use Rattle.rb_base.specs.Blocks.{IsShape}
use Rattle.rb_base.specs.Moments.{LeavesOnly, joined, no_call, weaker}
use Rattle.rb_base.specs.declared.shape.Shape.{Shape}
use Rattle.rb_base.specs.declared.store.Store.{Ghosts}
use Rattle.rb_disk.specs.Moments.{Leaves, Rests, rests_leave}
use Rattle.rb_disk.specs.declared.disk.Disk.{Ghosts as DiskGhosts}
use Rattle.rb_engine.specs.Does.{EngineView, Stands}
use Rattle.law_crash.proofs.Crashes.{extends_later, restarts_later}
use Rattle.law_crash.specs.Between.{Extends, reached}
use Rattle.law_crash.specs.Crash.{AtEnd, OnTheWay, Restarts}
use Rattle.rb_layout.specs.Regions.{shape_of}
use Rattle.rb_layout.specs.declared.layout.Layout.{Layout}
use Rattle.rb_lines.specs.Cut.{CutOff}
use Rattle.rb_lines.specs.Ends.{Halted}
use Rattle.rb_lines.specs.Ran.{Ran}
use Rattle.rb_lines.proofs.Runs.{ran-append}
use Rattle.rb_model.specs.Calls.{Call}
use Rattle.rb_model.specs.Lines.{lines_of}
use Rattle.rb_model.specs.Out.{Logged, Outside}
use Rattle.rb_model.specs.State.{State}
use Rattle.rb_recovery.specs.Opens.{OpensAs}
use Rattle.rb_restart.specs.Rollback.{BackBy}
use Rattle.rb_segment.specs.Segments.{owed_in}
use Rattle.rb_shell.proofs.Restarting.{restarts_found}
use Rattle.rb_shell.specs.Runs.{IsSound, IsStore, HasHalted, HasOpened, HasRun, WasCutOff, Endures, OpensSame, first_of}
use Rattle.rb_shell.specs.Statuses.{EndsRun, IsDoneOrNoMemory}
use Rattle.rb_shell.specs.declared.script.TheConstants.{SCRIPT_BYTES}
use Rattle.rb_calls.specs.Since.{engine_outside}
use Rattle.rb_shell.specs.Statuses.{EndsFormat}
use Rattle.rb_shell.specs.declared.status.Status.{Status}
use Rattle.rb_shell.specs.declared.status.Status.TheVariants.{Done, Usage, SourceFault, DiskFault, SinkFault, NotAStore, NoMemory, NotEmpty, TooLong}
use Rattle.rb_sound.specs.Sound.{AreSound}
use Rattle.law_blocks.specs.Standing.{logged_of}
use Rattle.rb_store.proofs.OneOpening.{Agree, means_alike, one_opening}
use Rattle.rb_store.specs.Meaning.{Means, Opens, OpensAt}
use Rattle.rb_control.specs.Heads.{head_of}
use Rattle.rb_store.specs.Openings.{LeftAlone}
use Rattle.rb_store.specs.StoreStates.{StoreState, IsStable, blocks_in}

-- the lines before a fault of the disk, and the one in which it came
all_ran : (outside : Outside) (most : ℕ) (m now : Logged) (left left2 : List ℕ) (tells : Type 0) (before held : List ℕ) → Halted outside most m now left left2 tells before held → Ran outside m now (lines_of left) tells before held
all_ran outside most m now left left2 tells before held halted =
    subst (λ (ls : List (List ℕ)). Ran outside m now ls tells before held) (sym halted.lines)
    (ran-append outside m halted.middle now _ _ tells before halted.held held halted.done halted.going halted.fault)

-- an image that has a state is on the way to a later one
restarts_on_the_way : (slots : Option ℕ) (fault : Option Call) (h h2 : State) (c : List ℕ) → Extends h h2 → Restarts Opens slots h c → OnTheWay Opens slots fault h h2 c
restarts_on_the_way slots fault h h2 c e r = reached r.number r.acknowledged (let later = extends_later h h2 e in let made = r.made in omega (arith, made, later)) (restarts_later Opens slots h h2 h.books h2.books r.number c e r.made e.marks r.found)

-- the shape of a layout is in range
pub in_range : (l : Layout) → IsShape (shape_of l)
in_range l = record { few_tables = l.few_tables; few_blocks = l.few_blocks; few_segments = l.few_segments }

-- what the opening of a store gave
pub record Found {D : Type 0} (d : DiskGhosts D) (old : D) (s : StoreState D) : Type 0 where
  pub opens : OpensAt s.layout (d.content old) (blocks_in d s) s.number
  pub stable : IsStable d s (blocks_in d s) s.number
  pub none_waits : s.pending ≡ []
  pub small : (head_of (d.content old)).number ≤ 2 ^ 61
  pub kept : LeftAlone d old s.disk

-- Blocks are only one list with one number: what a sound file opens to is what was found in it.
pub record Same {file : List ℕ} (sound : IsSound file) (l : Layout) (blocks : List (List ℕ)) (lsn : ℕ) : Type 0 where
  pub log : l.log ≡ sound.store.layout.log
  pub shape : shape_of l ≡ shape_of sound.store.layout
  pub there : blocks ≡ sound.store.blocks
  pub opening : OpensAs (shape_of l) blocks sound.state
  pub logged : lsn ≡ logged_of (shape_of l) blocks
  pub next : sound.store.lsn + owed_in (shape_of sound.store.layout) sound.store.blocks ≡ lsn + owed_in (shape_of l) blocks

sound_move : (l m : Layout) (first second : List (List ℕ)) (n k : ℕ) → Agree l m first second n k → AreSound (shape_of l) first → AreSound (shape_of m) second
sound_move l m first second n k agree sound =
    subst (λ (b : List (List ℕ)). AreSound (shape_of m) b) agree.blocks
    (subst (λ (x : Layout). AreSound (shape_of x) first) agree.layout sound)

pub same_of : {file : List ℕ} (sound : IsSound file) (l : Layout) (blocks : List (List ℕ)) (lsn : ℕ) → OpensAt l file blocks lsn → Same sound l blocks lsn
same_of {file} sound l blocks lsn opens =
    let st = sound.store in
    let agree = one_opening st.layout l file st.blocks blocks st.lsn lsn st.opens.means opens.means in
    let shape : shape_of st.layout ≡ shape_of l = ap shape_of agree.layout in
    record {
      log = ap (λ (x : Layout). x.log) (sym agree.layout);
      shape = sym shape;
      there = sym agree.blocks;
      opening = subst (λ (b : List (List ℕ)). OpensAs (shape_of l) b sound.state) agree.blocks (subst (λ (s : Shape). OpensAs s st.blocks sound.state) shape sound.opening);
      logged = sym agree.lsn ∙ sound.logged ∙ ap (λ (s : Shape). logged_of s st.blocks) shape ∙ ap (logged_of (shape_of l)) agree.blocks;
      next = ap (λ (n : ℕ). n + owed_in (shape_of st.layout) st.blocks) agree.lsn
          ∙ ap (λ (s : Shape). lsn + owed_in s st.blocks) shape
          ∙ ap (λ (b : List (List ℕ)). lsn + owed_in (shape_of l) b) agree.blocks;
    }

-- moments of a store over a disk are those of the disk
pub disk_leaves : {D : Type 0} (d : DiskGhosts D) (s : Ghosts (StoreState D)) (old new : StoreState D) (P : List ℕ → Type 0)
    → LeavesOnly (λ (t : StoreState D). d.moment t.disk) (λ (t : StoreState D). d.image_since t.disk) old new P → Leaves d old.disk new.disk P
disk_leaves d s old new P x = record { later = x.later; each = x.each; earlier = x.earlier }

module _ {D : Type 0} (d : DiskGhosts D) (old : D) where
  -- the store that was found is one
  pub is_store : (s : StoreState D) → Found d old s → AreSound (shape_of s.layout) (blocks_in d s) → IsStore (d.content old)
  is_store s found sound = record { layout = s.layout; blocks = blocks_in d s; lsn = s.number; opens = found.opens; small = found.small; sound = sound }

  -- where it was refused, the file is none
  pub not_store : (s : StoreState D) → Found d old s → (AreSound (shape_of s.layout) (blocks_in d s) → ⊥) → IsStore (d.content old) → ⊥
  not_store s found refused st =
      refused (sound_move st.layout s.layout st.blocks (blocks_in d s) st.lsn s.number (one_opening st.layout s.layout (d.content old) st.blocks (blocks_in d s) st.lsn s.number st.opens.means found.opens.means) st.sound)

  -- what leaves the meaning of a sound file leaves the state that it opens to
  pub alone_same : (new : D) (sound : IsSound (d.content old)) → LeftAlone d old new → OpensSame d old new sound
  alone_same new sound alone =
      let st = sound.store in
      let same = same_of sound st.layout st.blocks st.lsn st.opens in
      let P : List ℕ → Type 0 = λ c. d.image old c ⊎ Restarts Opens (Some st.layout.log) sound.state c in
      weaker d.moment d.image_since old new (λ c. d.image old c ⊎ Means st.layout c st.blocks st.lsn) P
      (λ c p. ⊎_elim (λ was. inl was) (λ means. inr (restarts_found sound.state st.layout st.blocks st.lsn c sound.opening same.logged (record { means = means; headed = st.opens.headed }))) p)
      (alone.images st.layout st.blocks st.lsn st.opens.means)

  -- what an opening left, of the store that was found
  pub opens_same : (s : StoreState D) (new : D) (sound : IsSound (d.content old)) → Found d old s → Leaves d s.disk new (Restarts Opens (Some s.layout.log) sound.state) → OpensSame d old new sound
  opens_same s new sound found stays =
      let P : List ℕ → Type 0 = λ c. d.image old c ⊎ Restarts Opens (Some sound.store.layout.log) sound.state c in
      let same = same_of sound s.layout (blocks_in d s) s.number found.opens in
      joined d.moment d.image_since old s.disk new P
      (alone_same s.disk sound found.kept)
      (weaker d.moment d.image_since s.disk new (Restarts Opens (Some s.layout.log) sound.state) P
      (λ c r. inr (subst (λ (k : ℕ). Restarts Opens (Some k) sound.state c) same.log r)) stays)

  -- no call at all
  pub rests_itself : Rests d old old
  rests_itself = record { same = refl; crashes = no_call d.image d.moment d.image_since old }

  -- calls that change nothing leave it alone
  pub rests_alone : (new : D) → ((c : List ℕ) → d.image_since old (d.moment old) c → d.image old c) → Rests d old new → LeftAlone d old new
  rests_alone new only_now still = record {
    file = λ l blocks lsn means. subst (λ (c : List ℕ). Means l c blocks lsn) (sym still.same) means;
    images = λ l blocks lsn means. rests_leave d old new (λ c. d.image old c ⊎ Means l c blocks lsn) only_now (λ c here. inl here) still;
    none = λ nothing. still;
  }

  -- of a file whose blocks don't pass the tests
  pub stays_damaged : (s : StoreState D) (new : StoreState D) → Found d old s → Leaves d s.disk new.disk (λ c. Means s.layout c (blocks_in d s) s.number)
      → (l : Layout) (blocks : List (List ℕ)) (lsn : ℕ) → Means l (d.content old) blocks lsn → Leaves d old new.disk (λ c. d.image old c ⊎ Means l c blocks lsn)
  stays_damaged s new found leaves l blocks lsn means =
      let P : List ℕ → Type 0 = λ c. d.image old c ⊎ Means l c blocks lsn in
      joined d.moment d.image_since old s.disk new.disk P
      (found.kept.images l blocks lsn means)
      (weaker d.moment d.image_since s.disk new.disk (λ c. Means s.layout c (blocks_in d s) s.number) P
      (λ c at. inr (means_alike s.layout l (d.content old) c (blocks_in d s) blocks s.number lsn found.opens.means means at)) leaves)

  -- calls that leave what was found leave all that the file means
  pub stays_alone : (s : StoreState D) (new : StoreState D) → Found d old s → Means s.layout (d.content new.disk) (blocks_in d s) s.number
      → Leaves d s.disk new.disk (λ c. Means s.layout c (blocks_in d s) s.number) → LeftAlone d old new.disk
  stays_alone s new found file leaves = record {
    file = λ l blocks lsn means. means_alike s.layout l (d.content old) (d.content new.disk) (blocks_in d s) blocks s.number lsn found.opens.means means file;
    images = stays_damaged s new found leaves;
    none = λ nothing. absurd (nothing s.layout (blocks_in d s) s.number found.opens.means);
  }

  -- an engine over it
  pub has_opened : (g : Ghosts (StoreState D)) (s : StoreState D) (e : EngineView (StoreState D)) (sound : IsSound (d.content old)) → Found d old s → e.store.layout.log ≡ s.layout.log
      → Stands g sound.state e → g.lsn e.store ≡ s.number + owed_in (shape_of s.layout) (blocks_in d s)
      → BackBy (shape_of s.layout) (owed_in (shape_of s.layout) (blocks_in d s)) (blocks_in d s) (g.blocks e.store)
      → Leaves d s.disk e.store.disk (Restarts Opens (Some s.layout.log) sound.state) → ((c : List ℕ) → d.image e.store.disk c → Restarts Opens (Some e.store.layout.log) sound.state c) → HasOpened d g old e sound
  has_opened g s e sound found slots stands lsn back stays only =
      let same = same_of sound s.layout (blocks_in d s) s.number found.opens in
      record {
        slots = slots ∙ same.log;
        first = record {
          blocks = g.blocks e.store;
          back = subst (λ (shape : Shape). BackBy shape (owed_in shape sound.store.blocks) sound.store.blocks (g.blocks e.store)) same.shape
              (subst (λ (b : List (List ℕ)). BackBy (shape_of s.layout) (owed_in (shape_of s.layout) b) b (g.blocks e.store)) same.there back);
        };
        stands = record { engine = stands; lsn = same.next ∙ sym lsn; blocks = refl };
        any_moment = opens_same s e.store.disk sound found stays;
        now_only = λ c here. subst (λ (k : ℕ). Restarts Opens (Some k) sound.state c) (slots ∙ same.log) (only c here);
      }

  -- an opening, and the lines after it
  pub endures : (g : Ghosts (StoreState D)) (e : EngineView (StoreState D)) (m : Logged) (new : D) (sound : IsSound (d.content old)) → HasOpened d g old e sound → Extends sound.state m.state
      → Leaves d e.store.disk new (OnTheWay Opens (Some e.store.layout.log) m.fault sound.state m.state) → ((c : List ℕ) → d.image new c → AtEnd Opens (Some e.store.layout.log) m.fault m.state c)
      → Endures d old new sound.store.layout sound.state m
  endures g e m new sound o extends any end =
      let l = sound.store.layout in
      let h = sound.state in
      let P : List ℕ → Type 0 = λ c. d.image old c ⊎ OnTheWay Opens (Some l.log) m.fault h m.state c in
      record {
        extends = extends;
        any_moment = joined d.moment d.image_since old e.store.disk new P
            (weaker d.moment d.image_since old e.store.disk (λ c. d.image old c ⊎ Restarts Opens (Some l.log) h c) P
            (λ c p. ⊎_elim (λ was. inl was) (λ r. inr (restarts_on_the_way (Some l.log) m.fault h m.state c extends r)) p) o.any_moment)
            (weaker d.moment d.image_since e.store.disk new (OnTheWay Opens (Some e.store.layout.log) m.fault h m.state) P
            (λ c way. inr (subst (λ (k : ℕ). OnTheWay Opens (Some k) m.fault h m.state c) o.slots way)) any);
        now_only = λ c here. subst (λ (k : ℕ). AtEnd Opens (Some k) m.fault m.state c) o.slots (end c here);
      }

  -- what was done over the engine was done over the file
  module _ (g : Ghosts (StoreState D)) (e : EngineView (StoreState D)) (sound : IsSound (d.content old)) (o : HasOpened d g old e sound) where
    pub has_run : (now : Logged) (lines : List (List ℕ)) (tells : Type 0) (before held : List ℕ) (endures : Layout → State → Logged → Type 0)
        → Ran engine_outside (first_of sound o.first) now lines tells before held → now.state.stopped ≡ false → endures sound.store.layout sound.state now → HasRun sound lines tells before held endures
    has_run now lines tells before held endures ran going endured = record {
      first = o.first;
      run = record { now = now; ran = ran; endured = endured };
      going = going;
    }

    pub has_halted : (now : Logged) (left left2 : List ℕ) (tells : Type 0) (before held : List ℕ) (endures : Layout → State → Logged → Type 0)
        → Halted engine_outside SCRIPT_BYTES (first_of sound o.first) now left left2 tells before held → endures sound.store.layout sound.state now → HasHalted sound left left2 tells before held endures
    has_halted now left left2 tells before held endures halted endured = record {
      first = o.first;
      run = record { now = now; ran = all_ran engine_outside SCRIPT_BYTES (first_of sound o.first) now left left2 tells before held halted; endured = endured };
      halted = halted;
    }

    pub was_cut_off : (now : Logged) (left left2 before held : List ℕ) (endures : Layout → State → Logged → Type 0)
        → CutOff engine_outside SCRIPT_BYTES (first_of sound o.first) now left left2 before held → endures sound.store.layout sound.state now → WasCutOff sound left left2 before held endures
    was_cut_off now left left2 before held endures cut endured = record {
      first = o.first;
      now = now;
      cut = cut;
      endured = endured;
    }

-- a file that opens to nothing is no store
pub no_opening : (file : List ℕ) → ((l : Layout) (blocks : List (List ℕ)) (lsn : ℕ) → OpensAt l file blocks lsn → 2 ^ 61 < (head_of file).number) → IsStore file → ⊥
no_opening file none st = let great = none st.layout st.blocks st.lsn st.opens in let small = st.small in omega (arith, great, small)

-- what is left where nothing failed
pub complete_format : (status : Status) → EndsFormat status → (status ≡ DiskFault → ⊥) → (status ≡ NotEmpty → ⊥) → IsDoneOrNoMemory status
complete_format Done ends disk bytes = tt
complete_format NoMemory ends disk bytes = tt
complete_format DiskFault ends disk bytes = disk refl
complete_format NotEmpty ends disk bytes = bytes refl
complete_format Usage ends disk bytes = absurd ends
complete_format SourceFault ends disk bytes = absurd ends
complete_format SinkFault ends disk bytes = absurd ends
complete_format NotAStore ends disk bytes = absurd ends
complete_format TooLong ends disk bytes = absurd ends

pub complete_run : (status : Status) → EndsRun status → (status ≡ SourceFault → ⊥) → (status ≡ DiskFault → ⊥) → (status ≡ SinkFault → ⊥) → (status ≡ NotAStore → ⊥) → (status ≡ TooLong → ⊥)
    → IsDoneOrNoMemory status
complete_run Done ends source disk sink store long = tt
complete_run NoMemory ends source disk sink store long = tt
complete_run SourceFault ends source disk sink store long = source refl
complete_run DiskFault ends source disk sink store long = disk refl
complete_run SinkFault ends source disk sink store long = sink refl
complete_run NotAStore ends source disk sink store long = store refl
complete_run TooLong ends source disk sink store long = long refl
complete_run Usage ends source disk sink store long = ends
complete_run NotEmpty ends source disk sink store long = ends

-- what was taken isn't longer than what there was
pub not_longer : (taken left rest : List ℕ) → left ≡ taken ++ rest → length taken ≡ 1000000000 → length left < 1000000000 → ⊥
not_longer taken left rest is long short =
    let sum : length left ≡ length taken + length rest = (ap (λ (l : List ℕ). length l) is ∙ length-append taken rest) in
    omega (arith, sum, long, short)
