use Rattle.std.proofs.Common.{◌≡◌, false, true, eqb-true, eq-eqb, sym, ◌∙◌, ap, arith}
use Rattle.std.proofs.lemmas.Bool.{false≢true}
use Rattle.rb_ring.specs.declared.extents.Extent.{Extent}
use Rattle.rb_segment.proofs.Parts.{extent_read, ring_read}
use Rattle.rb_segment.specs.Header.{header_of}
use Rattle.rb_sound.proofs.active.has_record.Goals.{else-e-head_extent-via-then-e-head_extent+else-position-head_records, else-e-head_extent-via-else-e-head_extent}
use Rattle.rb_sound.proofs.active.has_record.Goals as goal

pub returns-then-position-head_records : goal.returns-then-position-head_records
returns-then-position-head_records c =
    let read = ring_read c.args.header.now in
    let at : c.args.e ≡ (header_of c.args.header.now).head = c.if-e-head_extent.true ∙ c.head_extent.ensures ∙ sym read.0 in (
      λ (e : false ≡ true). absurd (false≢true e),
      λ has. let before = has.1 at in absurd (omega (arith, before, read.1, c.head_records.ensures, c.if-position-head_records.true)),
    )

pub returns : goal.returns
returns c =
    let read = ring_read c.args.header.now in
    let ord = ap (λ (x : Extent). x.ord) (extent_read c.args.header.now c.args.e c.requires.place) in (
      λ is.
          let turn = eqb-true c.extent_ord.result c.args.turn is in (
            ord ∙ sym c.extent_ord.ensures ∙ turn,
            λ at. elim c.else-e-head_extent.branch [
              | else-e-head_extent-via-then-e-head_extent+else-position-head_records w ↦ omega (arith, read.1, w.head_records.ensures, w.if-position-head_records.false)
              | else-e-head_extent-via-else-e-head_extent w ↦ absurd (w.if-e-head_extent.false (at ∙ read.0 ∙ sym c.head_extent.ensures))
            ],
          ),
      λ has. eq-eqb c.extent_ord.result c.args.turn (c.extent_ord.ensures ∙ sym ord ∙ has.0),
    )
