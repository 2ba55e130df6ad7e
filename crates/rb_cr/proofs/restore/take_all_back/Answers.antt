use Rattle.std.proofs.Common.{[], ◌∙◌, Result, Ok, Err, refl, sym, subst}
use Rattle.rb_cr.specs.Calls.{Said}
use Rattle.rb_cr.specs.Clauses.{IsRead, Rewinds}
use Rattle.rb_cr.specs.Late.{SeesFirst}
use Rattle.rb_cr.specs.Parts.{Built, Undone}
use Rattle.rb_cr.specs.Scratches.{scratch_home}
use Rattle.rb_cr.specs.declared.faults.CrFault.{CrFault}
use Rattle.law_read.specs.Reading.{History}
use Rattle.rb_cr.proofs.Erring.{handed_on}
use Rattle.rb_cr.proofs.Rebuilding.{built_failed, starts, few_more, built, undone}
use Rattle.rb_cr.proofs.restore.take_all_back.Given.{Over}
use Rattle.rb_cr.proofs.restore.take_all_back.Goals as goal

pub returns-in_err-undo_active-clause-told : goal.returns-in_err-undo_active-clause-told
returns-in_err-undo_active-clause-told g c = λ told h reading.
    let said = g.S.Segments.says c.args.segments.now in
    let snap = c.args.snapshot.now in
    let start = scratch_home said.shape c.args.scratch.now in
    let after = c.undo_active.new.scratch in
    let fault = c.in_err-undo_active.field-0.0 in
    subst (λ (z : Result (Unit {0}) CrFault). Built said.env h snap.own snap.upto snap.scn start c.args.steps.now z (scratch_home said.shape after) after.kept c.undo_active.new.steps) (sym (handed_on fault c.from_residual.result c.from_residual.ensures.1))
    (built_failed said.env h snap.own snap.upto snap.scn start c.args.steps.now reading fault (scratch_home said.shape after) after.kept c.undo_active.new.steps
    (undone said.env h snap.own snap.upto snap.scn start c.args.scratch.now.kept c.args.steps.now (Err fault) (scratch_home said.shape after) after.kept c.undo_active.new.steps c.requires.none reading
    (λ few. c.in_err-undo_active.ensures.told told h.base h.rows h.list reading.m h.lives h.reader reading.runs reading.alone few)))

-- the live changes are taken back
half : (g : Over) (c : goal.After-rewind g) → g.S.Segments.tells → (h : History) → IsRead (g.S.Segments.says c.args.segments.now) h c.args.snapshot.now c.args.scratch.now
    → Undone (g.S.Segments.says c.args.segments.now).env h.base h.rows h.list h.lives h.reader c.args.snapshot.now.own c.args.snapshot.now.upto c.args.snapshot.now.scn
    (scratch_home (g.S.Segments.says c.args.segments.now).shape c.args.scratch.now) [] c.args.steps.now (Ok (tt {0})) (scratch_home (g.S.Segments.says c.args.segments.now).shape c.undo_active.new.scratch) c.undo_active.new.scratch.kept c.undo_active.new.steps
half g c told h reading =
    let said = g.S.Segments.says c.args.segments.now in
    let snap = c.args.snapshot.now in
    let after = c.undo_active.new.scratch in
    undone said.env h snap.own snap.upto snap.scn (scratch_home said.shape c.args.scratch.now) c.args.scratch.now.kept c.args.steps.now (Ok (tt {0})) (scratch_home said.shape after) after.kept c.undo_active.new.steps c.requires.none reading
    (λ few. c.in_ok-undo_active.ensures.told told h.base h.rows h.list reading.m h.lives h.reader reading.runs reading.alone few)

pub returns-clause-told : goal.returns-clause-told
returns-clause-told g c = λ told h reading.
    let said = g.S.Segments.says c.args.segments.now in
    let snap = c.args.snapshot.now in
    let start = scratch_home said.shape c.args.scratch.now in
    let after = c.undo_active.new.scratch in
    let b = scratch_home said.shape after in
    let last = c.rewind.new.scratch in
    let count = c.undo_active.new.steps in
    let so_far = half g c told h reading in
    let rewinds : Rewinds said snap after count c.rewind.result last c.rewind.new.steps = subst (λ (z : Said). Rewinds z snap after count c.rewind.result last c.rewind.new.steps) (c.in_ok-undo_active.ensures.reads.same told refl) (c.rewind.ensures.told told) in
    let st = starts said.env h snap.own snap.upto snap.scn start c.args.steps.now reading b after.kept count so_far in
    let few = few_more said.env h snap.own snap.upto snap.scn start c.args.steps.now reading b after.kept count so_far in
    built said.env h snap.own snap.upto snap.scn start c.args.steps.now reading b after.kept count so_far c.rewind.result (scratch_home said.shape last) last.kept c.rewind.new.steps (c.in_ok-undo_active.ensures.goes told) (rewinds h.base h.rows h.list st few)

pub returns-clause-first : goal.returns-clause-first
returns-clause-first g c = λ told h key reading fresh.
    let said = g.S.Segments.says c.args.segments.now in
    let snap = c.args.snapshot.now in
    let after = c.undo_active.new.scratch in
    let last = c.rewind.new.scratch in
    let stays = c.in_ok-undo_active.ensures.stays in
    let sees : SeesFirst said snap.scn after c.rewind.result last = subst (λ (z : Said). SeesFirst z snap.scn after c.rewind.result last) (c.in_ok-undo_active.ensures.reads.same told refl) (c.rewind.ensures.first told) in
    sees key h.base h.rows h.list (stays.0 ∙ fresh.0, stays.1 ∙ fresh.1)
    (starts said.env h snap.own snap.upto snap.scn (scratch_home said.shape c.args.scratch.now) c.args.steps.now reading (scratch_home said.shape after) after.kept c.undo_active.new.steps (half g c told h reading))
