use Rattle.std.proofs.Common.{refl, ap, sym, ◌∙◌, arith}
use Rattle.rb_segment.proofs.Parts.{slot_read}
use Rattle.rb_txntable.specs.declared.slots.TableSlot.{TableSlot}
use Rattle.rb_write.proofs.undo.undo_for.Goals as goal

pub returns : goal.returns
returns c =
    let read = c.slot_at-slot.ensures ∙ sym (slot_read c.args.header.now c.args.xid.slot c.requires.slot) in
    record {
      wrap = refl;
      slot = refl;
      number = λ few. omega (arith, few, ap (λ (s : TableSlot). s.live) read, c.saturating_add.ensures);
      previous = ap (λ (s : TableSlot). s.newest_at) read;
      table = refl;
      key = refl;
      sort = c.kind.ensures;
      home = refl;
      entry = refl;
      cell = refl;
      entry_before = c.entry_bytes.ensures;
      cell_before = c.cell_bytes.ensures;
    }
