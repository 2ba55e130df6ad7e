use Rattle.std.proofs.Common.{◌≡◌, ◌≢◌, ℕ, true, refl, sym, ◌∙◌, ap}
use borrow.Author.Count.{below_more}
use Rattle.rb_ring.specs.declared.extents.Extent.{Extent}
use Rattle.rb_segment.proofs.Parts.{extent_read}
use Rattle.rb_segment.specs.Header.{header_of, ord_in}
use Rattle.rb_sound.proofs.active.has_turn.Goals as goal

pub returns-then-extent_ord-turn : goal.returns-then-extent_ord-turn
returns-then-extent_ord-turn c =
    let ord = ap (λ (x : Extent). x.ord) (extent_read c.args.header.now c.loop-e.e c.loop-e-test.true) in
    ((λ (e : true ≡ true). (c.loop-e.e, c.loop-e-test.true, ord ∙ sym c.extent_ord.ensures ∙ c.if-extent_ord-turn.true)), λ _. refl)

pub loop-e-preserved : goal.loop-e-preserved
loop-e-preserved c =
    let ord = ap (λ (x : Extent). x.ord) (extent_read c.args.header.now c.loop-e.e c.loop-e-test.true) in
    below_more (λ (k : ℕ). ord_in (header_of c.args.header.now) k ≢ c.args.turn) c.loop-e.e c.loop-e.invariant (λ is. c.if-extent_ord-turn.false (c.extent_ord.ensures ∙ sym ord ∙ is))
