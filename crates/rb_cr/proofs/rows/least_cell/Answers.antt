use Rattle.std.proofs.Common.{◌≡◌, ◌∙◌, inl, inr, ℕ, get_or, sym, ap, subst, arith}
use Rattle.std.proofs.lemmas.Bool.{cases_eq}
use Rattle.std.proofs.lemmas.List.{get_or_default}
use Rattle.rb_cell.specs.declared.cell.Cell as cells
use Rattle.rb_cr.specs.Rows.{IsFound, Reaches}
use Rattle.rb_cr.specs.Scratches.{shown_over}
use Rattle.rb_heap.specs.Homes.{empty_cell}
use Rattle.rb_cr.proofs.rows.least_cell.Goals as goal

pub loop-i-preserved : goal.loop-i-preserved
loop-i-preserved c =
    let xs = c.args.cells.now in
    let rows = shown_over xs c.args.kept.now in
    let w = c.args.wanted in
    let inv = c.loop-i.invariant in
    let call = c.lesser-least.ensures in
    let at : cells.Cell = get_or xs c.loop-i.i c.index-cells-i.result in
    let here : (get_or xs c.loop-i.i empty_cell).key ≡ at.key =
    ap (λ (z : cells.Cell). z.key) (get_or_default xs c.loop-i.i empty_cell c.index-cells-i.result (omega (arith, c.loop-i-test.true))) in
    record {
      found = call.found inv.found;
      reached = λ j lt is. elim (cases_eq j c.loop-i.i) [
        | inl same ↦
            let key : (get_or xs j empty_cell).key ≡ at.key = ap (λ (z : ℕ). (get_or xs z empty_cell).key) same ∙ here in
            subst (λ (z : ℕ). Reaches c.lesser-least.result z) (sym key) (call.lower (subst (λ (z : ℕ). IsFound w.after w.lo w.hi rows z) key is))
        | inr ne ↦ call.stays (get_or xs j empty_cell).key (inv.reached j (omega (arith, lt, ne)) is)
      ];
    }
