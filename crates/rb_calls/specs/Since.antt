-- For which states the shell's engine stands, and what may have become of its store over lines of a script.
use Rattle.std.proofs.Common.{◌≡◌, ◌∙◌, refl, subst, arith, ℕ, false, Option}
use Rattle.rb_base.specs.Logs.{Laws}
use Rattle.rb_base.specs.Moments.{begun}
use Rattle.rb_base.specs.declared.store.Store.{Ghosts}
use Rattle.rb_engine.specs.Does.{EngineView, Stands}
use Rattle.rb_engine.specs.Makes.{Makes, StandFor}
use Rattle.rb_engine.specs.Worn.{IsWorn}
use Rattle.law_crash.proofs.Crashes.{extends_same, grow_same, survives_on}
use Rattle.law_crash.proofs.Steps.{left_with, restarts_some}
use Rattle.law_crash.specs.Between.{at_end, up_to}
use Rattle.law_crash.specs.Crash.{OnTheWay, Restarts, Survives}
use Rattle.law_crash.specs.Images.{HasSome}
use Rattle.law_crash.specs.Made.{BackBy}
use Rattle.rb_model.specs.Calls.{Answer, Call}
use Rattle.rb_model.specs.Out.{Logged, Outside, outside_by}
use Rattle.rb_model.specs.State.{State}
use Rattle.rb_rollback.specs.Backs.{SameStore}

-- What a call with that answer makes of the machine's blocks. They stand for its state then.
abbrev pub MakesOf : Logged → Call → Answer → Logged → Type 0
MakesOf m call answer m2 = Makes m.state call answer m2.lsn m.blocks m2.blocks × StandFor m2.state m2.blocks

-- what the groups that put back the dead make of the machine's blocks
abbrev pub BackOf : Logged → ℕ → Logged → Type 0
BackOf m groups m2 = BackBy m.state.shape groups m.blocks m2.blocks

-- what answers hang on besides the state
abbrev pub engine_outside : Outside
engine_outside = outside_by IsWorn BackOf MakesOf

-- An engine stands for a state, and the last log number and the blocks are those of its store.
pub record StandsAs {S : Type 0} (s : Ghosts S) (e : EngineView S) (m : Logged) : Type 0 where
  pub engine : Stands s m.state e
  pub lsn : m.lsn ≡ s.lsn e.store
  pub blocks : m.blocks ≡ s.blocks e.store

-- The store has as many slots, and the same shape, and a crash may leave no more than `Survives` says. Unless it is
-- stopped now, it has not failed.
pub record IsSince {S : Type 0} (s : Ghosts S) (old new : EngineView S) (before now : Logged) : Type 0 where
  pub same : SameStore s old.store new.store
  pub crash : s.keeps → Survives s (s.slots old.store) now.fault before.state now.state old.store new.store
  pub still : now.state.stopped ≡ false → s.faults new.store ≡ s.faults old.store

module _ {S : Type 0} {s : Ghosts S} where
  -- an image of an engine's store has its state
  pub image_has : Laws s → (e : EngineView S) (h : State) → Stands s h e → h.stopped ≡ false → s.keeps
      → (i : s.image) → s.left e.store i → Restarts s.opens (s.slots e.store) h i
  image_has laws e h stands going kept i here =
      restarts_some s laws kept h h.books e.store i stands.shape
      (left_with s laws kept (HasSome h h.books) e.store ((stands.goes going).holds.images kept) i here)

  pub since_same : (e : EngineView S) (m : Logged) → (s.keeps → Laws s) → StandsAs s e m
      → m.state.stopped ≡ false → IsSince s e e m m
  since_same e m laws is going = record {
    same = record { shape = refl; slots = refl };
    crash = λ kept. record {
      extends = extends_same m.state m.state refl refl (grow_same m.state.shape m.state.books) (omega arith);
      any_moment = begun s.moment s.left_since e.store (OnTheWay s.opens (s.slots e.store) m.fault m.state m.state)
          (λ i left. at_end (up_to (image_has (laws kept) e m.state is.engine going kept i
          ((laws kept).only_now e.store i kept left))));
      now_only = λ i here. up_to (image_has (laws kept) e m.state is.engine going kept i here);
    };
    still = λ on. refl;
  }

  pub since_joined : (a b c : EngineView S) (m n k : Logged) → n.state.stopped ≡ false → IsSince s a b m n
      → IsSince s b c n k → IsSince s a c m k
  since_joined a b c m n k going x y = record {
    same = record { shape = y.same.shape ∙ x.same.shape; slots = y.same.slots ∙ x.same.slots };
    crash = λ kept. survives_on s (s.slots a.store) m.state n.state k.state a.store b.store c.store going
        (x.crash kept)
        (subst (λ (slots : Option ℕ). Survives s slots k.fault n.state k.state b.store c.store)
        x.same.slots (y.crash kept));
    still = λ on. y.still on ∙ x.still going;
  }
