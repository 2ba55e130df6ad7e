use Rattle.std.proofs.Common.{◌-◌, ◌^◌, Bool, Result, Ok, Err, refl, sym, subst}
use Rattle.rb_cr.specs.Calls.{Said}
use Rattle.rb_cr.specs.Clauses.{Rewinds}
use Rattle.rb_cr.specs.Going.{WentOn}
use Rattle.rb_cr.specs.Visible.{IsTop}
use Rattle.rb_cr.specs.Scratches.{scratch_home}
use Rattle.rb_cr.specs.declared.faults.CrFault.{CrFault}
use Rattle.rb_cr.specs.declared.faults.CrFault.TheVariants as faults
use Rattle.rb_cr.specs.declared.visible.Top.{Top}
use Rattle.rb_cr.specs.declared.visible.Top.TheVariants as tops
use Rattle.law_read.specs.Reading.{up_to}
use Rattle.rb_cr.proofs.Erring.{handed_on}
use Rattle.rb_cr.proofs.Further.{room, went_failed, went_nowhere, went_on, went_worn}
use Rattle.law_read.proofs.Copying.{copy_begins}
use Rattle.rb_cr.proofs.going.go_on.Goals as goal

pub returns-in_err-greatest-clause-told : goal.returns-in_err-greatest-clause-told
returns-in_err-greatest-clause-told g c = λ told h m copy.
    let said = g.S.Segments.says c.args.segments.now in
    let snap = c.args.snapshot.now in
    let b = scratch_home said.shape c.args.scratch.now in
    subst (λ (z : Result Bool CrFault). WentOn said.env h snap.own snap.upto snap.scn m c.args.steps.now z b c.args.scratch.now.kept c.args.steps.now) (sym (handed_on faults.Failed c.from_residual.result c.from_residual.ensures.1))
    (went_failed said.env h snap.own snap.upto snap.scn m copy.below copy.unseen c.args.steps.now c.args.steps.now b c.args.scratch.now.kept faults.Failed refl refl)

pub returns-in-Over-clause-told : goal.returns-in-Over-clause-told
returns-in-Over-clause-told g c = λ told h m copy.
    let said = g.S.Segments.says c.args.segments.now in
    let snap = c.args.snapshot.now in
    went_nowhere said.env h snap.own snap.upto snap.scn m copy.below copy.unseen c.args.steps.now c.args.steps.now (scratch_home said.shape c.args.scratch.now) c.args.scratch.now.kept refl

pub returns-in_err-rewind-in-At-clause-told : goal.returns-in_err-rewind-in-At-clause-told
returns-in_err-rewind-in-At-clause-told g c = λ told h m copy.
    let said = g.S.Segments.says c.args.segments.now in
    let snap = c.args.snapshot.now in
    let start = scratch_home said.shape c.args.scratch.now in
    let after = c.rewind.new.scratch in
    let fault = c.in_err-rewind-in-At.field-0.0 in
    let rewinds : Rewinds said snap c.args.scratch.now c.args.steps.now (Err fault) after c.rewind.new.steps = subst (λ (z : Said). Rewinds z snap c.args.scratch.now c.args.steps.now (Err fault) after c.rewind.new.steps) (c.in_ok-greatest.ensures.reads.same told refl) (c.in_err-rewind-in-At.ensures.told told) in
    let top : IsTop said.env snap.scn start (tops.At c.in-At.field-0) = subst (λ (z : Top). IsTop said.env snap.scn start z) c.in-At.is (c.in_ok-greatest.ensures.told told) in
    let st = copy_begins said.env h.base h.rows h.list snap.scn m (2 ^ 64 - 1) start copy.honest copy.low copy.lower copy.copied in
    let few = room said.env h snap.own snap.upto snap.scn m copy.below copy.unseen c.args.scratch.now.kept c.requires.none in
    subst (λ (z : Result Bool CrFault). WentOn said.env h snap.own snap.upto snap.scn m c.args.steps.now z (scratch_home said.shape after) after.kept c.rewind.new.steps) (sym (handed_on fault c.from_residual-in_err-rewind-in-At.result c.from_residual-in_err-rewind-in-At.ensures.1))
    (went_worn said.env h snap.own snap.upto snap.scn m copy.below copy.unseen start copy.low copy.copied c.in-At.field-0.number top.1 c.args.steps.now c.args.scratch.now.kept fault (scratch_home said.shape after) after.kept c.rewind.new.steps (rewinds h.base h.rows (up_to m h.list) st few))

pub returns-in_ok-rewind-in-At-clause-told : goal.returns-in_ok-rewind-in-At-clause-told
returns-in_ok-rewind-in-At-clause-told g c = λ told h m copy.
    let said = g.S.Segments.says c.args.segments.now in
    let snap = c.args.snapshot.now in
    let start = scratch_home said.shape c.args.scratch.now in
    let after = c.rewind.new.scratch in
    let rewinds : Rewinds said snap c.args.scratch.now c.args.steps.now (Ok (tt {0})) after c.rewind.new.steps = subst (λ (z : Said). Rewinds z snap c.args.scratch.now c.args.steps.now (Ok (tt {0})) after c.rewind.new.steps) (c.in_ok-greatest.ensures.reads.same told refl) (c.in_ok-rewind-in-At.ensures.told told) in
    let top : IsTop said.env snap.scn start (tops.At c.in-At.field-0) = subst (λ (z : Top). IsTop said.env snap.scn start z) c.in-At.is (c.in_ok-greatest.ensures.told told) in
    let st = copy_begins said.env h.base h.rows h.list snap.scn m (2 ^ 64 - 1) start copy.honest copy.low copy.lower copy.copied in
    let few = room said.env h snap.own snap.upto snap.scn m copy.below copy.unseen c.args.scratch.now.kept c.requires.none in
    went_on said.env h snap.own snap.upto snap.scn m copy.below copy.unseen start copy.low copy.copied c.in-At.field-0.number top.1 c.args.steps.now c.args.scratch.now.kept c.requires.none (scratch_home said.shape after) after.kept c.rewind.new.steps (rewinds h.base h.rows (up_to m h.list) st few)
