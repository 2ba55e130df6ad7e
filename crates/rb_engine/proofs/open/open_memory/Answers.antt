use Rattle.std.proofs.Common.{sym, ◌≡◌, ◌∙◌, ap, ◌≢◌, ℕ, List, [], Err, true, false, Bool, not}
use Rattle.rb_base.specs.Logs.{Laws, Logs, more_logs}
use Rattle.rb_base.specs.declared.faults.OpenFault.{OpenFault}
use Rattle.rb_base.specs.declared.faults.OpenFault.TheVariants.{Failed, NotAStore}
use Rattle.rb_copies.specs.Copies.{CopyTable}
use Rattle.rb_engine.proofs.OpenLemmas.{fails_with, in_step, moved, opened_engine, refused, stays, told_err, unchanged_stays}
use Rattle.rb_base.specs.Counts.{is_failed}
use Rattle.rb_base.specs.declared.shape.Shape.{Shape}
use Rattle.rb_sound.specs.Sound.{AreSound}
use Rattle.rb_restart.specs.Rollback.{RolledBack, StaySound}
use Rattle.law_blocks.specs.Standing.{SoundAs, logged_of}
use Rattle.rb_engine.proofs.open.open_memory.Given.{Over}
use Rattle.rb_engine.proofs.open.open_memory.Goals as goal

laws_of : (g : Over) → Laws g.T.Store
laws_of g = record {
  stable_left = λ store b n i keeps stable here. g.met.T.Store.stable_left store b n i keeps stable here;
  stable_numbered = λ store b n keeps stable. g.met.T.Store.stable_numbered store b n keeps stable;
  stable_patched = λ store b n keeps stable. g.met.T.Store.stable_patched store b n keeps stable;
  now_counts = λ store t i keeps le here. g.met.T.Store.now_counts store t i keeps le here;
  only_now = λ store i keeps here. g.met.T.Store.only_now store i keeps here;
  holds_back_same = λ store. g.met.T.Store.holds_back_same store;
  holds_back_joined = λ a b c first second. g.met.T.Store.holds_back_joined a b c first second;
}

pub returns-in_err-memory-clause-stays : goal.returns-in_err-memory-clause-stays
returns-in_err-memory-clause-stays g c = λ told h opens. unchanged_stays g.T.Store (laws_of g) told h c.args.store.now opens c.new_memory.new.store _ c.in_err-memory.ensures.logs

pub returns-in_err-open_blocks-clause-stays : goal.returns-in_err-open_blocks-clause-stays
returns-in_err-open_blocks-clause-stays g c = λ told h opens.
    let s = g.T.Store in
    let old = c.args.store.now in
    let mid = c.new_memory.new.store in
    let new = c.open_blocks.new.store in
    let back = c.in_err-open_blocks.ensures.rolled_back in
    let first = c.in_ok-memory.ensures.logs in
    stays s (laws_of g) told h old opens new back.0 _ (more_logs s old mid new [] back.0 _ first back.1)
    (moved s old mid (λ shape lsn blocks. lsn ≡ logged_of shape blocks → SoundAs shape blocks opens.opening.number opens.opening.rows → StaySound shape opens.opening.number opens.opening.rows lsn back.0 blocks) first told
    (λ logged sound. (back.4 opens.opening.number opens.opening.rows told logged sound).0) opens.logged opens.opening.sound)

pub returns-in_err-open_blocks-clause-unchanged : goal.returns-in_err-open_blocks-clause-unchanged
returns-in_err-open_blocks-clause-unchanged g c =
    let s = g.T.Store in
    let old = c.args.store.now in
    let mid = c.new_memory.new.store in
    let new = c.open_blocks.new.store in
    let fault = c.in_err-open_blocks.field-0.0 in
    let back = c.in_err-open_blocks.ensures.rolled_back in
    let kept : fault ≢ Failed → Logs s old new [] true = refused s old mid new (Err fault) back.0 c.in_ok-memory.ensures.logs back.1 back.2 c.in_err-open_blocks.ensures.no_memory in
    told_err (λ (e : OpenFault). e ≡ fault) (λ (e : OpenFault). e ≢ Failed → Logs s old new [] true) c.from_residual-in_err-open_blocks.result c.from_residual-in_err-open_blocks.ensures.1
    (λ e is differs. kept (λ at. differs (is ∙ at)))

pub returns-clause-stays : goal.returns-clause-stays
returns-clause-stays g c = λ told h opens.
    let s = g.T.Store in
    let old = c.args.store.now in
    let mid = c.new_memory.new.store in
    let new = c.open_blocks.new.store in
    let back = c.in_ok-open_blocks.ensures.rolled_back in
    let first = c.in_ok-memory.ensures.logs in
    stays s (laws_of g) told h old opens new back.0 true (more_logs s old mid new [] back.0 true first back.1)
    (moved s old mid (λ shape lsn blocks. lsn ≡ logged_of shape blocks → SoundAs shape blocks opens.opening.number opens.opening.rows → StaySound shape opens.opening.number opens.opening.rows lsn back.0 blocks) first told
    (λ logged sound. (back.4 opens.opening.number opens.opening.rows told logged sound).0) opens.logged opens.opening.sound)

pub returns-clause-step : goal.returns-clause-step
returns-clause-step g c =
    let s = g.T.Store in
    let old = c.args.store.now in
    let mid = c.new_memory.new.store in
    let new = c.open_blocks.new.store in
    let back = c.in_ok-open_blocks.ensures.rolled_back in
    let first = c.in_ok-memory.ensures in
    in_step s c.in_ok-memory.memory old new back.0 (more_logs s old mid new [] back.0 true first.logs back.1) back.3 c.requires.few (first.sessions ∙ c.requires.fresh) first.waits first.dead

pub returns-clause-opened : goal.returns-clause-opened
returns-clause-opened g c = λ told h opens.
    let s = g.T.Store in
    let old = c.args.store.now in
    let mid = c.new_memory.new.store in
    let new = c.open_blocks.new.store in
    let back = c.in_ok-open_blocks.ensures.rolled_back in
    let first = c.in_ok-memory.ensures in
    let logs = more_logs s old mid new [] back.0 true first.logs back.1 in
    let both = moved s old mid (λ shape lsn blocks. lsn ≡ logged_of shape blocks → SoundAs shape blocks opens.opening.number opens.opening.rows → StaySound shape opens.opening.number opens.opening.rows lsn back.0 blocks × RolledBack shape back.0 blocks (s.blocks new)) first.logs told
    (λ logged sound. back.4 opens.opening.number opens.opening.rows told logged sound) opens.logged opens.opening.sound in
    opened_engine s (laws_of g) told h old opens new back.0 logs both.0 both.1 c.in_ok-memory.memory (first.sessions ∙ c.requires.fresh) first.waits (first.scn told) first.going (ap (λ (z : CopyTable). z.kept) first.copies ∙ c.requires.empty) first.dead

pub returns-in_err-memory-clause-untouched : goal.returns-in_err-memory-clause-untouched
returns-in_err-memory-clause-untouched g c = λ told cannot.
    let some : (b : Bool) × Logs g.T.Store c.args.store.now c.new_memory.new.store [] b = (false, c.in_err-memory.ensures.logs) in
    fails_with c.from_residual.result _ some

pub returns-in_err-open_blocks-clause-untouched : goal.returns-in_err-open_blocks-clause-untouched
returns-in_err-open_blocks-clause-untouched g c = λ told cannot.
    let s = g.T.Store in
    let old = c.args.store.now in
    let mid = c.new_memory.new.store in
    let new = c.open_blocks.new.store in
    let going = not (is_failed c.in_err-open_blocks.field-0.0) in
    let first = c.in_ok-memory.ensures.logs in
    let none = moved s old mid (λ (shape : Shape) (lsn : ℕ) (blocks : List (List ℕ)). (AreSound shape blocks → ⊥) → Logs s mid new [] going) first told
    (c.in_err-open_blocks.ensures.untouched told) cannot in
    let some : (b : Bool) × Logs s old new [] b = (going, more_logs s old mid new [] [] going first none) in
    fails_with _ _ some

pub returns-in_err-open_blocks-clause-none : goal.returns-in_err-open_blocks-clause-none
returns-in_err-open_blocks-clause-none g c = λ told.
    let s = g.T.Store in
    let old = c.args.store.now in
    let mid = c.new_memory.new.store in
    let fault = c.in_err-open_blocks.field-0.0 in
    let none : fault ≡ NotAStore → ¬ AreSound (s.shape_of old) (s.blocks old) =
    λ is. moved s old mid (λ (shape : Shape) (lsn : ℕ) (blocks : List (List ℕ)). ¬ AreSound shape blocks) c.in_ok-memory.ensures.logs told (c.in_err-open_blocks.ensures.none told (ap (λ (f : OpenFault). Err f) is)) in
    told_err (λ (e : OpenFault). e ≡ fault) (λ (e : OpenFault). e ≡ NotAStore → ¬ AreSound (s.shape_of old) (s.blocks old)) c.from_residual-in_err-open_blocks.result c.from_residual-in_err-open_blocks.ensures.1 (λ e is at. none (sym is ∙ at))
