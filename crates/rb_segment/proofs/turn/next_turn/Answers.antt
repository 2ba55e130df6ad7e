use Rattle.std.proofs.Common.{◌≡◌, ap, sym, ◌∙◌, arith}
use Rattle.rb_ring.specs.Ring.{extent_ord}
use Rattle.rb_ring.specs.declared.extents.Extent.{Extent}
use Rattle.rb_segment.proofs.Parts.{extent_read}
use Rattle.rb_segment.specs.Header.{header_of, head_turn}
use Rattle.rb_segment.proofs.turn.next_turn.Goals as goal

pub returns : goal.returns
returns c few young =
    let h = header_of c.args.header.now in
    let head : c.from.result ≡ h.head = c.from.ensures ∙ c.head.ensures.head few in
    let ord : c.extent_ord.result ≡ head_turn h = c.extent_ord.ensures ∙ ap (extent_ord c.args.header.now) head ∙ ap (λ (x : Extent). x.ord) (sym (extent_read c.args.header.now h.head few)) in
    omega (arith, young, ord, c.saturating_add.ensures)
