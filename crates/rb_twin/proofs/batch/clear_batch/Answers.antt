use Rattle.std.proofs.Common.{◌<◌, ◌∙◌, length, refl, sym, arith}
use Rattle.std.proofs.lemmas.List.{length-take-le, get_or_append_left}
use Rattle.rb_base.specs.declared.sizes.TheConstants.{UNIT}
use Rattle.rb_twin.proofs.Spares.{all_zero}
use Rattle.rb_twin.proofs.batch.clear_batch.Goals as goal

pub slice_bounds-fill-end-2 : goal.slice_bounds-fill-end-2
slice_bounds-fill-end-2 c = sym (length-take-le _ c.args.area.now (omega (arith, c.requires.whole)))

pub returns-clause-spare : goal.returns-clause-spare
returns-clause-spare c = all_zero _ (λ k lt.
    let short : k < length c.fill.new.self = omega (arith, lt, c.fill.ensures.len, length-take-le UNIT c.args.area.now (omega (arith, c.requires.whole))) in
    get_or_append_left c.fill.new.self _ 0 k short ∙ c.fill.ensures.clones k 0 (omega (arith, short, c.fill.ensures.len)) refl)
