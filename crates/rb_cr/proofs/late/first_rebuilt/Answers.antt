use Rattle.std.proofs.Common.{◌∙◌, Option, Result, IfErr, ℕ, sym, ap, subst}
use Rattle.rb_cr.specs.Builds.{IsHomeOld}
use Rattle.rb_cr.specs.declared.faults.CrFault.{CrFault}
use Rattle.rb_cr.specs.declared.watch.Watch.{Watch}
use Rattle.law_blocks.specs.Standing.{env_of, homes_of}
use Rattle.rb_cr.proofs.Erring.{handed_on}
use Rattle.rb_cr.proofs.Seeing.{by_nobody}
use Rattle.rb_cr.proofs.late.first_rebuilt.Goals as goal

pub returns-in_err-built-clause-old : goal.returns-in_err-built-clause-old
returns-in_err-built-clause-old g c = λ told h reading.
    let s = g.S.Store in
    let shape = s.shape_of c.args.store.now in
    let blocks = s.blocks c.args.store.now in
    let snap = c.args.snapshot.now in
    let b = c.args.block in
    subst (λ (z : Result (Option ℕ) CrFault). IfErr z (IsHomeOld shape blocks b h snap)) (sym (handed_on c.in_err-built.field-0.0 c.from_residual.result c.from_residual.ensures.1))
    (c.in_err-built.ensures.old told h (by_nobody (env_of shape blocks) h snap.own snap.upto snap.scn (homes_of shape blocks b) reading))

pub returns-clause-late : goal.returns-clause-late
returns-clause-late g c = λ told h reading.
    let s = g.S.Store in
    let shape = s.shape_of c.args.store.now in
    let blocks = s.blocks c.args.store.now in
    let snap = c.args.snapshot.now in
    ap (λ (w : Watch). w.first) c.replace-watch.ensures.value
    ∙ c.in_ok-built.ensures.first told h c.args.key (by_nobody (env_of shape blocks) h snap.own snap.upto snap.scn (homes_of shape blocks c.args.block) reading) (c.of-scratch.ensures.key, c.of-scratch.ensures.first)
