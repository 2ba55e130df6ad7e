use Rattle.std.proofs.Common.{refl, ap, sym, ◌∙◌, arith}
use Rattle.rb_ring.specs.Ring.{extent_ord}
use Rattle.rb_ring.specs.declared.extents.Extent.{Extent}
use Rattle.rb_segment.proofs.Parts.{extent_read, ring_read}
use Rattle.rb_segment.specs.Header.{header_of}
use Rattle.rb_segment.proofs.record.next_address.Goals as goal

pub returns-clause-place : goal.returns-clause-place
returns-clause-place c shape g is few =
    let h = header_of c.args.header.now in
    let records = c.head_records.ensures ∙ sym (ring_read c.args.header.now).1 in
    let head = c.head-head.ensures.head few in
    let ord = c.extent_ord.ensures ∙ ap (extent_ord c.args.header.now) head ∙ ap (λ (x : Extent). x.ord) (sym (extent_read c.args.header.now h.head few)) in
    rw (head, records, ord, is) refl

pub overflow_add-place : goal.overflow_add-place
overflow_add-place c =
    let records = c.head_records.ensures ∙ sym (ring_read c.args.header.now).1 in
    omega (arith, records, c.head-head.ensures.there, c.requires.room)

pub returns-clause-turn : goal.returns-clause-turn
returns-clause-turn c few =
    let h = header_of c.args.header.now in
    c.extent_ord.ensures ∙ ap (extent_ord c.args.header.now) (c.head-head.ensures.head few) ∙ ap (λ (x : Extent). x.ord) (sym (extent_read c.args.header.now h.head few))

pub returns-clause-within : goal.returns-clause-within
returns-clause-within c =
    let records = c.head_records.ensures ∙ sym (ring_read c.args.header.now).1 in
    omega (arith, records, c.head-head.ensures.there, c.requires.room)
