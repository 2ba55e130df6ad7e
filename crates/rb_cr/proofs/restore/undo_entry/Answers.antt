use Rattle.std.proofs.Common.{rules, ◌≡◌, length, Bool, true, false, get_or, refl, sym, subst, arith}
use Rattle.rb_cr.specs.Calls.{Said}
use Rattle.rb_cr.specs.Clauses.{Spends}
use Rattle.rb_cr.specs.Visible.{ActiveIs}
use Rattle.rb_cr.specs.Scratches.{scratch_home}
use Rattle.rb_itl.specs.Entries.{free_entry as zero_entry}
use Rattle.law_blocks.specs.Says.{walk_entry}
use Rattle.law_home.specs.Kinds.{Entry}
use Rattle.law_home.specs.Walk.{entry_at}
use Rattle.rb_cr.proofs.Rebuilding.{goes_spent, passed_quiet, passed_back}
use Rattle.rb_cr.proofs.Tops.{entry_is}
use Rattle.rb_cr.proofs.restore.undo_entry.Goals as goal

pub returns-then-not-branch-clause-told : goal.returns-then-not-branch-clause-told
returns-then-not-branch-clause-told g c = λ told base rows list lives r d f start first distinct alone run is few.
    let said = g.S.Segments.says c.args.segments.now in
    let snap = c.args.snapshot.now in
    let es = c.args.scratch.now.entries in
    let b = scratch_home said.shape c.args.scratch.now in
    let eight : length es ≡ 8 = search rules in
    let quiet : ActiveIs said.env (entry_at b c.args.i) false = subst (λ (z : Entry). ActiveIs said.env z false) (sym (entry_is said.shape es c.args.i (omega (arith, eight, c.requires.there)))) (subst (λ (z : Bool). ActiveIs said.env (walk_entry said.shape (get_or es c.args.i zero_entry)) z) c.if-not-branch.true (c.in_ok-is_active.ensures.told told)) in
    passed_quiet said.env base rows list lives distinct r snap.own snap.upto snap.scn start alone first few c.args.i d f b c.args.scratch.now.kept c.args.steps.now run is quiet

pub returns-clause-told : goal.returns-clause-told
returns-clause-told g c = λ told base rows list lives r d f start first distinct alone run is few.
    let said = g.S.Segments.says c.args.segments.now in
    let snap = c.args.snapshot.now in
    let es = c.args.scratch.now.entries in
    let b = scratch_home said.shape c.args.scratch.now in
    let eight : length es ≡ 8 = search rules in
    let active : ActiveIs said.env (entry_at b c.args.i) true = subst (λ (z : Entry). ActiveIs said.env z true) (sym (entry_is said.shape es c.args.i (omega (arith, eight, c.requires.there)))) (subst (λ (z : Bool). ActiveIs said.env (walk_entry said.shape (get_or es c.args.i zero_entry)) z) c.if-not-branch.false (c.in_ok-is_active.ensures.told told)) in
    let same = c.in_ok-is_active.ensures.reads.same told refl in
    let spent : Spends said snap c.args.i c.args.scratch.now c.args.steps.now c.unwind_at.result c.unwind_at.new.scratch c.unwind_at.new.steps = subst (λ (z : Said). Spends z snap c.args.i c.args.scratch.now c.args.steps.now c.unwind_at.result c.unwind_at.new.scratch c.unwind_at.new.steps) same (c.unwind_at.ensures.told told) in
    passed_back said.env base rows list lives distinct r snap.own snap.upto snap.scn start alone first few c.args.i d f b c.args.scratch.now.kept c.args.steps.now run is active c.unwind_at.result (scratch_home said.shape c.unwind_at.new.scratch) c.unwind_at.new.scratch.kept c.unwind_at.new.steps spent (c.unwind_at.ensures.most said.shape) (c.unwind_at.ensures.steps said.shape)

pub returns-clause-goes : goal.returns-clause-goes
returns-clause-goes g c = λ told.
    let said = g.S.Segments.says c.args.segments.now in
    let snap = c.args.snapshot.now in
    let same = c.in_ok-is_active.ensures.reads.same told refl in
    let spent : Spends said snap c.args.i c.args.scratch.now c.args.steps.now c.unwind_at.result c.unwind_at.new.scratch c.unwind_at.new.steps = subst (λ (z : Said). Spends z snap c.args.i c.args.scratch.now c.args.steps.now c.unwind_at.result c.unwind_at.new.scratch c.unwind_at.new.steps) same (c.unwind_at.ensures.told told) in
    goes_spent said.env snap.own snap.upto snap.scn c.args.i (scratch_home said.shape c.args.scratch.now) c.args.scratch.now.kept c.args.steps.now c.unwind_at.result (scratch_home said.shape c.unwind_at.new.scratch) c.unwind_at.new.scratch.kept c.unwind_at.new.steps spent (c.unwind_at.ensures.steps said.shape)
