use Rattle.std.proofs.Common.{◌<◌, ◌∙◌, ℕ, arith, Option, Result, Ok, Err, refl, sym, ap, subst, true}
use Rattle.rb_cr.specs.Calls.{Said}
use Rattle.rb_cr.specs.Clauses.{Spends}
use Rattle.rb_cr.specs.Late.{SeesChain}
use Rattle.rb_cr.specs.Parts.{Highest, Rewound}
use Rattle.rb_cr.specs.Reads.{more_reads, no_read}
use Rattle.rb_cr.specs.Scratches.{scratch_home}
use Rattle.rb_cr.specs.declared.faults.CrFault.{CrFault}
use Rattle.law_read.specs.Late.{seen_at}
use Rattle.rb_cr.proofs.Erring.{handed_on}
use Rattle.rb_cr.proofs.Rebuilding.{at_first, falls, goes_after, goes_nowhere, goes_spent, rewound_done, rewound_over, rewound_worn, goes_on}
use Rattle.rb_cr.proofs.Seeing.{seen_done, seen_first, seen_on}
use Rattle.rb_cr.proofs.restore.rewind.Goals as goal

pub loop-top-init : goal.loop-top-init
loop-top-init g c =
    let s = g.S.Segments in
    let said = s.says c.args.segments.now in
    let snap = c.args.snapshot.now in
    record {
      reads = no_read s c.args.segments.now c.requires (g.met.S.Segments.no_call c.args.segments.now c.requires);
      block = refl;
      key = refl;
      so_far = λ told base rows list st few. at_first said.env base rows list snap.own snap.upto snap.scn (scratch_home said.shape c.args.scratch.now) c.args.scratch.now.kept c.args.steps.now st few;
      goes = λ told. goes_nowhere said.env (scratch_home said.shape c.args.scratch.now) c.args.steps.now;
      watched = λ told key base rows list fresh st. seen_first said.env base rows list snap.scn key (scratch_home said.shape c.args.scratch.now) st c.args.scratch.now.watch.first fresh.1;
    }

pub returns-in_err-top-clause-told : goal.returns-in_err-top-clause-told
returns-in_err-top-clause-told g c = λ told base rows list st few.
    let said = g.S.Segments.says c.args.segments.now in
    let snap = c.args.snapshot.now in
    let b = scratch_home said.shape c.loop-top.scratch in
    let top : Highest said.env snap.scn b (Err c.in_err-top.field-0.0) = subst (λ (z : Said). Highest z.env snap.scn (scratch_home z.shape c.loop-top.scratch) (Err c.in_err-top.field-0.0)) (c.loop-top.invariant.reads.same told refl) (c.in_err-top.ensures.told told) in
    subst (λ (z : Result (Unit {0}) CrFault). Rewound said.env base rows list snap.own snap.upto snap.scn (scratch_home said.shape c.args.scratch.now) c.args.scratch.now.kept c.args.steps.now z b c.loop-top.scratch.kept c.loop-top.steps) (sym (handed_on c.in_err-top.field-0.0 c.from_residual.result c.from_residual.ensures.1))
    (rewound_over said.env base rows list snap.own snap.upto snap.scn (scratch_home said.shape c.args.scratch.now) c.args.scratch.now.kept c.args.steps.now st few c.loop-top.limit b c.loop-top.scratch.kept c.loop-top.steps (c.loop-top.invariant.so_far told base rows list st few) c.in_err-top.field-0.0 top (c.loop-top.invariant.goes told))

pub returns-then-top-snapshot-clause-told : goal.returns-then-top-snapshot-clause-told
returns-then-top-snapshot-clause-told g c = λ told base rows list st few.
    let said = g.S.Segments.says c.args.segments.now in
    let snap = c.args.snapshot.now in
    let b = scratch_home said.shape c.loop-top.scratch in
    let top : Highest said.env snap.scn b (Ok c.in_ok-top.top) = subst (λ (z : Said). Highest z.env snap.scn (scratch_home z.shape c.loop-top.scratch) (Ok c.in_ok-top.top)) (c.loop-top.invariant.reads.same told refl) (c.in_ok-top.ensures.told told) in
    rewound_done said.env base rows list snap.own snap.upto snap.scn (scratch_home said.shape c.args.scratch.now) c.args.scratch.now.kept c.args.steps.now st few c.loop-top.limit b c.loop-top.scratch.kept c.loop-top.steps (c.loop-top.invariant.so_far told base rows list st few) c.in_ok-top.top c.if-top-snapshot.true top

pub returns-in_err-unwind_at-clause-told : goal.returns-in_err-unwind_at-clause-told
returns-in_err-unwind_at-clause-told g c = λ told base rows list st few.
    let said = g.S.Segments.says c.args.segments.now in
    let snap = c.args.snapshot.now in
    let b = scratch_home said.shape c.loop-top.scratch in
    let after = c.unwind_at.new.scratch in
    let i = c.in_ok-top.top.entry in
    let fault = c.in_err-unwind_at.field-0.0 in
    let at_peel = c.loop-top.invariant.reads.same told refl in
    let at_top = c.in_ok-top.ensures.reads.same told refl ∙ at_peel in
    let top : Highest said.env snap.scn b (Ok c.in_ok-top.top) = subst (λ (z : Said). Highest z.env snap.scn (scratch_home z.shape c.loop-top.scratch) (Ok c.in_ok-top.top)) at_peel (c.in_ok-top.ensures.told told) in
    let spent : Spends said snap i c.loop-top.scratch c.loop-top.steps (Err fault) after c.unwind_at.new.steps = subst (λ (z : Said). Spends z snap i c.loop-top.scratch c.loop-top.steps (Err fault) after c.unwind_at.new.steps) at_top (c.in_err-unwind_at.ensures.told told) in
    subst (λ (z : Result (Unit {0}) CrFault). Rewound said.env base rows list snap.own snap.upto snap.scn (scratch_home said.shape c.args.scratch.now) c.args.scratch.now.kept c.args.steps.now z (scratch_home said.shape after) after.kept c.unwind_at.new.steps) (sym (handed_on fault c.from_residual-in_err-unwind_at.result c.from_residual-in_err-unwind_at.ensures.1))
    (rewound_worn said.env base rows list snap.own snap.upto snap.scn (scratch_home said.shape c.args.scratch.now) c.args.scratch.now.kept c.args.steps.now st few c.loop-top.limit b c.loop-top.scratch.kept c.loop-top.steps (c.loop-top.invariant.so_far told base rows list st few)
    i c.in_ok-top.top.number c.if-top-snapshot.false top fault (scratch_home said.shape after) after.kept c.unwind_at.new.steps spent (c.in_err-unwind_at.ensures.most said.shape) (c.loop-top.invariant.goes told))

pub loop-top-preserved : goal.loop-top-preserved
loop-top-preserved g c =
    let s = g.S.Segments in
    let said = s.says c.args.segments.now in
    let snap = c.args.snapshot.now in
    let b = scratch_home said.shape c.loop-top.scratch in
    let after = c.unwind_at.new.scratch in
    let i = c.in_ok-top.top.entry in
    record {
      reads = more_reads s c.args.segments.now c.highest.new.segments c.unwind_at.new.segments true g.met.S.Segments.more_calls (more_reads s c.args.segments.now c.loop-top.segments c.highest.new.segments true g.met.S.Segments.more_calls c.loop-top.invariant.reads c.in_ok-top.ensures.reads) c.in_ok-unwind_at.ensures.reads;
      block = c.in_ok-unwind_at.ensures.block ∙ c.loop-top.invariant.block;
      key = c.end.ensures.key ∙ c.in_ok-unwind_at.ensures.stays.0 ∙ c.loop-top.invariant.key;
      so_far = λ told base rows list st few.
          let at_peel = c.loop-top.invariant.reads.same told refl in
          let at_top = c.in_ok-top.ensures.reads.same told refl ∙ at_peel in
          let top : Highest said.env snap.scn b (Ok c.in_ok-top.top) = subst (λ (z : Said). Highest z.env snap.scn (scratch_home z.shape c.loop-top.scratch) (Ok c.in_ok-top.top)) at_peel (c.in_ok-top.ensures.told told) in
          let spent : Spends said snap i c.loop-top.scratch c.loop-top.steps (Ok (tt {0})) after c.unwind_at.new.steps = subst (λ (z : Said). Spends z snap i c.loop-top.scratch c.loop-top.steps (Ok (tt {0})) after c.unwind_at.new.steps) at_top (c.in_ok-unwind_at.ensures.told told) in
          goes_on said.env base rows list snap.own snap.upto snap.scn (scratch_home said.shape c.args.scratch.now) c.args.scratch.now.kept c.args.steps.now st few c.loop-top.limit b c.loop-top.scratch.kept c.loop-top.steps (c.loop-top.invariant.so_far told base rows list st few)
          i c.in_ok-top.top.number c.if-top-snapshot.false top (scratch_home said.shape after) after.kept c.unwind_at.new.steps spent (c.in_ok-unwind_at.ensures.steps said.shape);
      goes = λ told.
          let at_top = c.in_ok-top.ensures.reads.same told refl ∙ c.loop-top.invariant.reads.same told refl in
          let spent : Spends said snap i c.loop-top.scratch c.loop-top.steps (Ok (tt {0})) after c.unwind_at.new.steps = subst (λ (z : Said). Spends z snap i c.loop-top.scratch c.loop-top.steps (Ok (tt {0})) after c.unwind_at.new.steps) at_top (c.in_ok-unwind_at.ensures.told told) in
          goes_after said.env (scratch_home said.shape c.args.scratch.now) b (scratch_home said.shape after) c.args.steps.now c.loop-top.steps c.unwind_at.new.steps (c.loop-top.invariant.goes told)
          (goes_spent said.env snap.own snap.upto snap.scn i b c.loop-top.scratch.kept c.loop-top.steps (Ok (tt {0})) (scratch_home said.shape after) after.kept c.unwind_at.new.steps spent (c.in_ok-unwind_at.ensures.steps said.shape));
      watched = λ told key base rows list fresh st.
          let at_peel = c.loop-top.invariant.reads.same told refl in
          let at_top = c.in_ok-top.ensures.reads.same told refl ∙ at_peel in
          let top : Highest said.env snap.scn b (Ok c.in_ok-top.top) = subst (λ (z : Said). Highest z.env snap.scn (scratch_home z.shape c.loop-top.scratch) (Ok c.in_ok-top.top)) at_peel (c.in_ok-top.ensures.told told) in
          let spent : Spends said snap i c.loop-top.scratch c.loop-top.steps (Ok (tt {0})) after c.unwind_at.new.steps = subst (λ (z : Said). Spends z snap i c.loop-top.scratch c.loop-top.steps (Ok (tt {0})) after c.unwind_at.new.steps) at_top (c.in_ok-unwind_at.ensures.told told) in
          let sees : SeesChain said i c.loop-top.scratch (Ok (tt {0})) after = subst (λ (z : Said). SeesChain z i c.loop-top.scratch (Ok (tt {0})) after) at_top (c.in_ok-unwind_at.ensures.seen told) in
          seen_on said.env base rows list snap.scn key (scratch_home said.shape c.args.scratch.now) st c.loop-top.limit c.loop-top.scratch.watch.first b (c.loop-top.invariant.watched told key base rows list fresh st) c.in_ok-top.top top c.if-top-snapshot.false
          (scratch_home said.shape after) after.watch.seen c.end.new.self.first spent.ok.0 (sees key (c.loop-top.invariant.key ∙ fresh.0))
          (c.end.ensures.first ∙ ap (λ (z : Option ℕ). seen_at c.in_ok-top.top.number after.watch.seen z) c.in_ok-unwind_at.ensures.stays.1);
    }

pub returns-then-top-snapshot-clause-first : goal.returns-then-top-snapshot-clause-first
returns-then-top-snapshot-clause-first g c = λ told key base rows list fresh st.
    let said = g.S.Segments.says c.args.segments.now in
    let snap = c.args.snapshot.now in
    let b = scratch_home said.shape c.loop-top.scratch in
    let top : Highest said.env snap.scn b (Ok c.in_ok-top.top) = subst (λ (z : Said). Highest z.env snap.scn (scratch_home z.shape c.loop-top.scratch) (Ok c.in_ok-top.top)) (c.loop-top.invariant.reads.same told refl) (c.in_ok-top.ensures.told told) in
    seen_done said.env base rows list snap.scn key (scratch_home said.shape c.args.scratch.now) st c.loop-top.limit c.loop-top.scratch.watch.first b (c.loop-top.invariant.watched told key base rows list fresh st) c.in_ok-top.top top c.if-top-snapshot.true

-- it never comes: each turn's number is below the one before
pub returns-then-limit-top-clause-told : goal.returns-then-limit-top-clause-told
returns-then-limit-top-clause-told g c = λ told base rows list st few.
    let said = g.S.Segments.says c.args.segments.now in
    let snap = c.args.snapshot.now in
    let b = scratch_home said.shape c.loop-top.scratch in
    let top : Highest said.env snap.scn b (Ok c.in_ok-top.top) = subst (λ (z : Said). Highest z.env snap.scn (scratch_home z.shape c.loop-top.scratch) (Ok c.in_ok-top.top)) (c.loop-top.invariant.reads.same told refl) (c.in_ok-top.ensures.told told) in
    let below : c.in_ok-top.top.number < c.loop-top.limit = falls said.env base rows list snap.own snap.upto snap.scn (scratch_home said.shape c.args.scratch.now) c.args.scratch.now.kept c.args.steps.now st few c.loop-top.limit b c.loop-top.scratch.kept c.loop-top.steps (c.loop-top.invariant.so_far told base rows list st few) c.in_ok-top.top.entry c.in_ok-top.top.number c.if-top-snapshot.false top in
    absurd (omega (arith, below, c.if-limit-top.true))
