use Rattle.std.proofs.Common.{ap, sym, ◌∙◌, ℕ}
use Rattle.rb_cell.specs.Cells.{cell_at}
use Rattle.rb_heap.specs.Homes.{is_keyed}
use Rattle.rb_sound.proofs.Keys.{found_is_first}
use Rattle.rb_sound.proofs.home.key_is_first.Goals as goal

pub returns-else-not-has_own_key : goal.returns-else-not-has_own_key
returns-else-not-has_own_key c =
    let key = c.front.result.key in
    let own = c.front.ensures.key in
    let has = ap (λ (k : ℕ). is_keyed k (cell_at c.args.block.now c.args.c)) own ∙ sym c.has_own_key.ensures ∙ c.if-not-has_own_key.false in
    let is = found_is_first c.args.block.now c.args.c key c.find.result c.requires.place own has c.find.ensures.found c.find.ensures.none in
    (λ e. is.0 (sym c.eq.ensures ∙ e), λ first. c.eq.ensures ∙ is.1 first)
