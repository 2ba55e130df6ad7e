use Rattle.std.proofs.Common.{rules, ◌≡◌, ◌∙◌, length, Result, Ok, Err, refl, sym, arith, true}
use Rattle.std.proofs.Common.{subst}
use Rattle.std.proofs.lemmas.List.{length-map}
use Rattle.rb_cr.specs.Calls.{Said}
use Rattle.rb_cr.specs.Clauses.{GoesOn, UndoesEntry}
use Rattle.rb_cr.specs.Parts.{Undone}
use Rattle.rb_cr.specs.Reads.{more_reads, no_read}
use Rattle.rb_cr.specs.Scratches.{scratch_home}
use Rattle.rb_cr.specs.declared.faults.CrFault.{CrFault}
use Rattle.law_blocks.specs.Says.{walk_entry}
use Rattle.rb_cr.proofs.Erring.{handed_on}
use Rattle.rb_cr.proofs.Rebuilding.{goes_after, goes_nowhere, one_more, undone_failed, undone_all}
use Rattle.law_read.proofs.Undoing.{starts_running}
use Rattle.rb_cr.proofs.restore.undo_active.Goals as goal

pub loop-i-init : goal.loop-i-init
loop-i-init g c =
    let s = g.S.Segments in
    let said = s.says c.args.segments.now in
    let snap = c.args.snapshot.now in
    record {
      reads = no_read s c.args.segments.now c.requires (g.met.S.Segments.no_call c.args.segments.now c.requires);
      block = refl;
      stays = (refl, refl);
      eight = search rules;
      so_far = λ told base rows list m lives r runs alone few. (0, λ kept. kept, omega arith, refl, starts_running said.env base rows list lives r snap.own snap.upto snap.scn (scratch_home said.shape c.args.scratch.now) m runs);
      goes = λ told. goes_nowhere said.env (scratch_home said.shape c.args.scratch.now) c.args.steps.now;
    }

pub returns-in_err-undo_entry-clause-told : goal.returns-in_err-undo_entry-clause-told
returns-in_err-undo_entry-clause-told g c = λ told base rows list m lives r runs alone few.
    let s = g.S.Segments in
    let said = s.says c.args.segments.now in
    let snap = c.args.snapshot.now in
    let start = scratch_home said.shape c.args.scratch.now in
    let first = c.args.scratch.now.kept in
    let b = scratch_home said.shape c.loop-i.scratch in
    let after = c.undo_entry.new.scratch in
    let inv = c.loop-i.invariant in
    let so = inv.so_far told base rows list m lives r runs alone few in
    let undoes : UndoesEntry said snap c.loop-i.i c.loop-i.scratch c.loop-i.steps (Err c.in_err-undo_entry.field-0.0) after c.undo_entry.new.steps = subst (λ (z : Said). UndoesEntry z snap c.loop-i.i c.loop-i.scratch c.loop-i.steps (Err c.in_err-undo_entry.field-0.0) after c.undo_entry.new.steps) (inv.reads.same told refl) (c.in_err-undo_entry.ensures.told told) in
    subst (λ (z : Result (Unit {0}) CrFault). Undone said.env base rows list lives r snap.own snap.upto snap.scn start first c.args.steps.now z (scratch_home said.shape after) after.kept c.undo_entry.new.steps)
    (sym (handed_on c.in_err-undo_entry.field-0.0 c.from_residual.result c.from_residual.ensures.1))
    (undone_failed said.env base rows list lives runs.distinct r snap.own snap.upto snap.scn start alone first few c.loop-i.i c.args.steps.now b c.loop-i.scratch.kept c.loop-i.steps so c.in_err-undo_entry.field-0.0 (scratch_home said.shape after) after.kept c.undo_entry.new.steps
    (undoes base rows list lives r so.0 so.1 start first runs.distinct alone so.4 so.3 few))

pub loop-i-preserved : goal.loop-i-preserved
loop-i-preserved g c =
    let s = g.S.Segments in
    let said = s.says c.args.segments.now in
    let snap = c.args.snapshot.now in
    let start = scratch_home said.shape c.args.scratch.now in
    let first = c.args.scratch.now.kept in
    let b = scratch_home said.shape c.loop-i.scratch in
    let after = c.undo_entry.new.scratch in
    let inv = c.loop-i.invariant in
    record {
      reads = more_reads s c.args.segments.now c.loop-i.segments c.undo_entry.new.segments true g.met.S.Segments.more_calls inv.reads c.in_ok-undo_entry.ensures.reads;
      block = c.in_ok-undo_entry.ensures.block ∙ inv.block;
      stays = (c.in_ok-undo_entry.ensures.stays.0 ∙ inv.stays.0, c.in_ok-undo_entry.ensures.stays.1 ∙ inv.stays.1);
      eight = inv.eight;
      so_far = λ told base rows list m lives r runs alone few.
          let so = inv.so_far told base rows list m lives r runs alone few in
          let undoes : UndoesEntry said snap c.loop-i.i c.loop-i.scratch c.loop-i.steps (Ok (tt {0})) after c.undo_entry.new.steps = subst (λ (z : Said). UndoesEntry z snap c.loop-i.i c.loop-i.scratch c.loop-i.steps (Ok (tt {0})) after c.undo_entry.new.steps) (inv.reads.same told refl) (c.in_ok-undo_entry.ensures.told told) in
          one_more said.env base rows list lives runs.distinct r snap.own snap.upto snap.scn start alone first few c.loop-i.i c.args.steps.now b c.loop-i.scratch.kept c.loop-i.steps so (scratch_home said.shape after) after.kept c.undo_entry.new.steps
          (undoes base rows list lives r so.0 so.1 start first runs.distinct alone so.4 so.3 few);
      goes = λ told.
          let more : GoesOn said c.loop-i.scratch c.loop-i.steps after c.undo_entry.new.steps = subst (λ (z : Said). GoesOn z c.loop-i.scratch c.loop-i.steps after c.undo_entry.new.steps) (inv.reads.same told refl) (c.in_ok-undo_entry.ensures.goes told) in
          goes_after said.env start b (scratch_home said.shape after) c.args.steps.now c.loop-i.steps c.undo_entry.new.steps (inv.goes told) more;
    }

pub returns-clause-told : goal.returns-clause-told
returns-clause-told g c = λ told base rows list m lives r runs alone few.
    let said = g.S.Segments.says c.args.segments.now in
    let snap = c.args.snapshot.now in
    let es = c.args.scratch.now.entries in
    let b = scratch_home said.shape c.loop-i.scratch in
    let so = c.loop-i.invariant.so_far told base rows list m lives r runs alone few in
    let long : length (scratch_home said.shape c.args.scratch.now).entries ≡ length es = length-map es (walk_entry said.shape) in
    undone_all said.env base rows list lives runs.distinct r snap.own snap.upto snap.scn (scratch_home said.shape c.args.scratch.now) alone c.args.scratch.now.kept few c.loop-i.i c.args.steps.now b c.loop-i.scratch.kept c.loop-i.steps so (omega (arith, long, so.4.long, c.loop-i.invariant.eight, c.loop-i-test.false))

pub returns-clause-goes : goal.returns-clause-goes
returns-clause-goes g c = c.loop-i.invariant.goes
