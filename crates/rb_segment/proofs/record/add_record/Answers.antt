use Rattle.std.proofs.Common.{◌≡◌, ℕ, ◌<◌, ◌^◌, List, ◌++◌, ⊎_elim, refl, ap, sym, subst, ◌∙◌, arith}
use Rattle.std.proofs.lemmas.List.{append_assoc}
use Rattle.rb_ring.specs.declared.extents.TheConstants.{EXTENTS}
use Rattle.rb_base.specs.Blocks.{shape_blocks, written_to}
use Rattle.rb_base.specs.Groups.{Patch}
use Rattle.rb_segment.proofs.Stamps.{written_on}
use Rattle.rb_segment.specs.Calls.{HasTurned, record_patches}
use Rattle.rb_segment.specs.Header.{Header, header_of, slot_in}
use Rattle.rb_segment.proofs.record.add_record.Goals as goal

pub returns-clause-patches : goal.returns-clause-patches
returns-clause-patches c =
    let b = c.header_block-block.result in
    let t = c.in_ok-make_room.ensures.turned in
    let made = record_patches b c.args.xid.slot (header_of c.append.new.header) c.append.result c.args.undo.now in
    rw (sym c.header_block-block.ensures.number) (
      t.0 ++ made,
      record {
        copy = c.append.ensures.copy ∙ ap (λ (l : List ℕ). written_to b made l) t.1.copy ∙ sym (written_on b t.0 made c.args.header.now);
        group = c.append.ensures.patches ∙ ap (λ (l : List Patch). l ++ made) t.1.group ∙ append_assoc c.args.group.now t.0 made;
      },
    )

-- the header with room for a record has the slots and the number of records of before, and a head that there is
head_there : (block : ℕ) (h room : Header) (patches : List Patch) → h.head < EXTENTS → HasTurned block h room patches → (room.head < EXTENTS) × (room.writes ≡ h.writes)
head_there block h room patches few turned = ⊎_elim
    (λ same. let r = sym same.1 in subst (λ (k : Header). (k.head < EXTENTS) × (k.writes ≡ h.writes)) r (few, refl))
    (λ turn. let r = sym turn.2 in subst (λ (k : Header). (k.head < EXTENTS) × (k.writes ≡ h.writes)) r (turn.1.within, refl)) turned

pub returns-clause-recorded : goal.returns-clause-recorded
returns-clause-recorded c young =
    let b = c.header_block-block.result in
    let i = c.args.xid.slot in
    let h = header_of c.args.header.now in
    let room = header_of c.make_room.new.header in
    let t = c.in_ok-make_room.ensures.turned in
    let made = record_patches b i (header_of c.append.new.header) c.append.result c.args.undo.now in
    let turned : HasTurned b h room t.0 = t.2 young.head young.turn in
    let there = head_there b h room t.0 young.head turned in
    let writes : room.writes < 2 ^ 63 = subst (λ (n : ℕ). n < 2 ^ 63) (sym there.1) young.writes in
    let lives : (slot_in room i).live < 2 ^ 31 = rw c.in_ok-make_room.ensures.slots young.live in
    let at = c.append.ensures.address c.args.shape.now c.args.xid.seg c.header_block-block.ensures.number there.0 in
    rw (sym c.header_block-block.ensures.number) (
      t.0 ++ made,
      record {
        copy = c.append.ensures.copy ∙ ap (λ (l : List ℕ). written_to b made l) t.1.copy ∙ sym (written_on b t.0 made c.args.header.now);
        group = c.append.ensures.patches ∙ ap (λ (l : List Patch). l ++ made) t.1.group ∙ append_assoc c.args.group.now t.0 made;
      },
      record {
        room = room;
        before = t.0;
        has_turned = subst (λ (k : ℕ). HasTurned k h room t.0) c.header_block-block.ensures.number turned;
        at = at;
        added_as = c.append.ensures.added there.0 writes lives;
        patched = ap (λ (k : ℕ). t.0 ++ record_patches k i (header_of c.append.new.header) c.append.result c.args.undo.now) c.header_block-block.ensures.number;
      },
    )

pub returns-clause-within : goal.returns-clause-within
returns-clause-within c before =
    let shape = c.args.shape.now in
    let number = c.header_block-block.ensures.number in
    c.append.ensures.within (shape_blocks shape) (omega (arith, number, c.requires.there))
    (c.make_room.ensures.within (shape_blocks shape) (omega (arith, number, c.requires.there)) before)
