use Rattle.std.proofs.Common.{◌%◌, sym, subst, arith}
use Rattle.rb_cell.specs.declared.cell.Cell.{Cell}
use Rattle.rb_heap.specs.Soundness.{IsCellSound, IsEntrySound}
use Rattle.rb_itl.specs.declared.slots.Entry.{Entry}
use Rattle.rb_segment.specs.Segments.{wrap_in}
use Rattle.rb_sound.proofs.active.could_stand.Goals as goal

pub returns-then-entry_sound : goal.returns-then-entry_sound
returns-then-entry_sound c =
    let limits = c.args.limits.now in (
      λ yes. record {
        entry = subst (λ (e : Entry). IsEntrySound limits.shape limits.commit (wrap_in limits.wraps) e) c.entry_from.ensures (c.entry_sound.ensures.0 c.if-entry_sound.true);
        cell = subst (λ (x : Cell). IsCellSound limits.shape (c.args.undo.now.home % limits.shape.blocks) x) c.cell_from.ensures (c.cell_sound.ensures.0 yes);
        value = let read = c.u16_at.ensures in let few = c.if-u16_at-gt-VALUE_BYTES.false in omega (arith, read, few);
      },
      λ fits. c.cell_sound.ensures.1 (subst (λ (x : Cell). IsCellSound limits.shape (c.args.undo.now.home % limits.shape.blocks) x) (sym c.cell_from.ensures) fits.cell),
    )
