use Rattle.std.proofs.Common.{ℕ, List, [], ◌∷◌, ◌++◌, set, ap, sym, ◌∙◌}
use Rattle.std.proofs.lemmas.List.{append_assoc}
use Rattle.std.specs.List.{flat_map, range_with_len}
use Rattle.rb_base.specs.Blocks.{written_to}
use Rattle.rb_base.specs.Groups.{Patch}
use Rattle.rb_segment.specs.Calls.{stamp_patch}
use Rattle.rb_txntable.specs.Slots.{slot_patch}
use Rattle.rb_segment.proofs.Parts.{slot_read}
use Rattle.rb_segment.specs.Header.{Header, header_of, slot_in}
use Rattle.rb_segment.specs.Moves.{stamped}
use Rattle.rb_txntable.specs.declared.slots.TableSlot.{TableSlot}
use Rattle.rb_segment.proofs.finish.commit.Goals as goal

pub returns-clause-patches : goal.returns-clause-patches
returns-clause-patches c =
    let i = c.args.xid.slot in
    let now = header_of c.stamp.new.header in
    let touched = c.slot_at-slot.result.touched in
    let slot = ap (λ (h : Header). slot_in h i) c.stamp.ensures.means ∙ c.set_slot.ensures.read in
    let b = c.header_block-block.result in
    let done : TableSlot = record c.slot_at-slot.result { state = 2; newest = c.args.scn } in
    let stamps = flat_map (stamp_patch b touched now) (range_with_len 0 8) in
    rw (slot, sym c.header_block-block.ensures.number)
    (c.stamp.ensures.patches ∙ ap (λ (l : List Patch). l ++ stamps) c.set_slot.ensures.patch ∙ append_assoc c.args.group.now (slot_patch b i done ∷ []) stamps)

pub returns-clause-copy : goal.returns-clause-copy
returns-clause-copy c =
    let i = c.args.xid.slot in
    let now = header_of c.stamp.new.header in
    let touched = c.slot_at-slot.result.touched in
    let slot = ap (λ (h : Header). slot_in h i) c.stamp.ensures.means ∙ c.set_slot.ensures.read in
    let b = c.header_block-block.result in
    let stamps = flat_map (stamp_patch b touched now) (range_with_len 0 8) in
    rw (slot, sym c.header_block-block.ensures.number) (c.stamp.ensures.copy ∙ ap (λ (l : List ℕ). written_to b stamps l) c.set_slot.ensures.copy)

pub returns-clause-moved : goal.returns-clause-moved
returns-clause-moved c =
    let h = header_of c.args.header.now in
    let slot = c.slot_at-slot.ensures ∙ sym (slot_read c.args.header.now c.args.xid.slot c.requires.runs.slot) in
    c.stamp.ensures.means ∙ ap (λ (g : Header). let k : Header = record g { extents = stamped c.args.scn c.slot_at-slot.result.touched 0 g.extents } in k) c.set_slot.ensures.means
    ∙ ap (λ (s : TableSlot). let g : Header = record h { slots = set h.slots c.args.xid.slot (record s { state = 2; newest = c.args.scn }); extents = stamped c.args.scn s.touched 0 h.extents } in g) slot
