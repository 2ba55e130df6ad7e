-- Dead transactions put back under an engine: what it stands for then, and that it stays in order.
use Rattle.std.proofs.Common.{◌≡◌, ◌<◌, ◌≤◌, ◌+◌, ◌-◌, ◌^◌, ℕ, Bool, true, false, not, List, length, Option, refl, sym, ◌∙◌, ap, subst, arith}
use Rattle.std.proofs.lemmas.Bool.{false≢true}
use Rattle.rb_base.specs.Groups.{Patch}
use Rattle.rb_base.specs.Logs.{Laws, Logs}
use Rattle.rb_base.specs.declared.ids.Xid.{Xid}
use Rattle.rb_base.specs.declared.store.Store.{Ghosts}
use Rattle.rb_dead.specs.Takes.{Gives, HasDead, Leads, LeadsTo}
use Rattle.rb_engine.specs.Behind.{Led, LedOr, LessDead}
use Rattle.rb_engine.specs.Does.{EngineView, Goes, IsInStep, Kept, Stands, owed_kept}
use Rattle.rb_engine.proofs.CopyLemmas.{copies_aged}
use Rattle.rb_engine.proofs.StepLemmas.{in_step_same}
use Rattle.law_crash.specs.Crash.{Survives}
use Rattle.law_blocks.specs.Standing.{env_of}
use Rattle.law_sessions.specs.Views.{Remembers}
use Rattle.rb_model.proofs.DeadLemmas.{rest_same}
use Rattle.rb_model.specs.Calls.{Call}
use Rattle.rb_model.specs.Dead.{dead_owed}
use Rattle.rb_model.specs.Queue.{Waiter}
use Rattle.rb_model.specs.Rows.{Commits, last_scn}
use Rattle.rb_model.specs.State.{State}
use Rattle.rb_rollback.specs.Backs.{SameStore}

-- what an engine that goes on has for what puts back the dead
pub has_dead : {S : Type 0} (s : Ghosts S) (h : State) (e : EngineView S) → (st : Stands s h e) → (going : h.stopped ≡ false) → HasDead s h (st.goes going).xids e.memory.sessions e.memory.dead e.store
has_dead s h e st going = record {
  shape = st.shape;
  going = going;
  holds = (st.goes going).holds;
  remembers = (st.goes going).remembers;
  all = st.owes going;
}

module _ {S : Type 0} (s : Ghosts S) (h h2 : State) (old new : EngineView S) (st : Stands s h old) (going : h.stopped ≡ false) (leads : Leads s h h2 (st.goes going).xids old.memory.sessions new.memory.dead old.store new.store)
    (memory : new.memory ≡ record old.memory { dead = new.memory.dead }) (same : SameStore s old.store new.store) where
  pub stands_led : Stands s h2 new
  stands_led = record {
    told = st.told;
    shape = leads.has.shape;
    knows = record {
      sixteen = let many = st.knows.sixteen in let same = leads.rest.many in omega (arith, many, same);
      stopped = ap (λ (k : Kept). k.stopped) memory ∙ (st.knows.stopped ∙ sym leads.rest.stopped);
      scn = ap (λ (k : Kept). k.scn) memory ∙ (st.knows.scn ∙ sym (ap (λ (c : Commits). last_scn c) leads.rest.commits));
      queue = λ _. record {
        waits = ap (λ (k : Kept). k.waits) memory ∙ ((st.knows.queue going).waits ∙ sym leads.rest.queue);
        asked = ap (λ (k : Kept). Rattle.std.specs.Prelude.map (λ x. x.asked) k.sessions) memory ∙ ((st.knows.queue going).asked ∙ sym leads.rest.asked);
      };
    };
    goes = λ _. record {
      xids = (st.goes going).xids;
      holds = leads.has.holds;
      remembers = subst (Remembers h2 (st.goes going).xids (env_of h2.shape (s.blocks new.store))) (ap (λ (k : Kept). k.sessions) (sym memory)) leads.has.remembers;
      copies = copies_aged h h2 (st.goes going).xids (s.blocks old.store) (s.blocks new.store) old.memory.copies new.memory.copies leads.rest.shape leads.rest.commits (st.goes going).holds.blocks leads.ages (ap (λ (k : Kept). k.copies) memory) (st.goes going).copies;
    };
    owes = λ _. leads.has.all;
  }

  pub led_by : Led s h h2 old new
  led_by = record {
    rest = leads.rest;
    fewer = leads.fewer;
    stands = stands_led;
    same = same;
    lsn = leads.lsn;
    back = leads.back;
    survives = λ before _ keeps. leads.survives before keeps;
  }

-- by the answer, whether the disk failed
pub led_or : {S : Type 0} (s : Ghosts S) (h h2 : State) (old new : EngineView S) (st : Stands s h old) (going : h.stopped ≡ false) (failed : Bool) (left : ℕ) → LessDead failed old.memory new.memory → (failed ≡ false → left ≡ new.memory.dead) → SameStore s old.store new.store
    → LeadsTo s h h2 (st.goes going).xids old.memory.sessions left old.store new.store (not failed) → LedOr s h h2 old new failed
led_or s h h2 old new st going true left less is same leads = leads
led_or s h h2 old new st going false left less is same leads = led_by s h h2 old new st going (subst (λ (n : ℕ). Leads s h h2 (st.goes going).xids old.memory.sessions n old.store new.store) (is refl) leads) less same

-- where nothing was put back the engine was led nowhere
pub led_nowhere : {S : Type 0} (s : Ghosts S) (h : State) (old : EngineView S) → Stands s h old → (h.stopped ≡ false → s.keeps → (before : Option Call) → Survives s (s.slots old.store) before h h old.store old.store) → Led s h h old old
led_nowhere s h old st survives = record {
  rest = rest_same h;
  fewer = omega arith;
  stands = st;
  same = record { shape = refl; slots = refl };
  lsn = omega arith;
  back = let none : dead_owed h - dead_owed h ≡ 0 = omega arith in rw none refl;
  survives = λ before going keeps. survives going keeps before;
}

-- the engine stays in order
module _ {S : Type 0} (s : Ghosts S) (kept now : Kept) (old new : S) (is : IsInStep s kept old) where
  pub step_led : (left : ℕ) → Gives s kept.dead left old new true → now ≡ record kept { dead = left } → kept.stopped ≡ false → IsInStep s now new
  step_led left gives memory going =
      let logs = gives.1 in
      let number = logs.number refl in
      let sum = gives.3 refl in
      let before = is.few going in
      let small = is.owed in
      subst (λ (k : Kept). IsInStep s k new) (sym memory) (record {
        counted = is.counted;
        tables = λ u. subst (λ (h : _). Rattle.rb_engine.specs.Does.InTables h (Rattle.rb_sessions.specs.Kept.kept_at kept.sessions u)) (sym logs.same_shape) (is.tables u);
        own = λ u x mine. subst (λ (h : Rattle.rb_base.specs.declared.shape.Shape.Shape). (x.seg < h.segments) × (x.slot < Rattle.rb_base.specs.declared.sizes.TheConstants.SLOTS)) (sym logs.same_shape) (is.own u x mine);
        small = is.small;
        idle = is.idle;
        queue = record { once = is.queue.once; held = is.queue.held };
        going = λ _. logs.failed;
        few = λ _. omega (arith, number, sum, before);
        owed = omega (arith, sum, small);
      })

  pub step_stopped : s.shape_of new ≡ s.shape_of old → now ≡ record kept { stopped = true } → IsInStep s now new
  step_stopped shape memory =
      in_step_same s kept now old new is shape (ap (λ (k : Kept). k.dead) memory) (ap (λ (k : Kept). k.sessions) memory) (ap (λ (k : Kept). k.waits) memory)
      (λ going. absurd (false≢true (sym going ∙ ap (λ (k : Kept). k.stopped) memory)))
