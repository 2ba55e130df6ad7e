use Rattle.std.proofs.Common.{◌≡◌, ◌<◌, ◌^◌, ◌++◌, ℕ, List, length, length-append, ap, sym, subst, ◌∙◌, arith}
use Rattle.rb_write.specs.Asks.{kind_of}
use Rattle.rb_base.specs.Blocks.{shape_blocks, table_blocks, AreWithin}
use Rattle.rb_base.specs.Groups.{Patch}
use Rattle.rb_base.specs.declared.shape.Shape.{Shape}
use Rattle.rb_cleanout.proofs.Copies.{all_joined}
use Rattle.rb_heap.proofs.Reading.{cell_read, entry_read}
use Rattle.rb_heap.specs.Homes.{empty_cell, home_patches}
use Rattle.rb_itl.specs.Entries.{free_entry}
use Rattle.rb_itl.specs.declared.slots.Entry.{Entry}
use Rattle.law_blocks.specs.Writing.{cell_after, entry_after}
use Rattle.rb_write.proofs.undo.put_change.Goals as goal

home_within : (shape : Shape) (block : ℕ) → block < table_blocks shape → block < shape_blocks shape
home_within shape block there = omega (arith, there)

some_joined : (front back all : List Patch) → all ≡ front ++ back → 0 < length back → 0 < length all
some_joined front back all joined some = omega (arith, ap length joined, length-append front back, some)

pub returns-clause-some : goal.returns-clause-some
returns-clause-some c =
    let place = c.args.place in
    some_joined c.add_record.new.group (home_patches place.block place.cell c.new_cell-cell.result place.entry c.new_entry-entry.result) c.change.new.group c.change.ensures.patches (omega arith)

pub returns-clause-within : goal.returns-clause-within
returns-clause-within c within =
    let shape = c.args.shape.now in
    let place = c.args.place in
    let here = home_within shape place.block c.requires.block in
    subst (AreWithin shape) (sym c.change.ensures.patches)
    (all_joined (λ (p : Patch). p.block < shape_blocks shape) c.add_record.new.group (home_patches place.block place.cell c.new_cell-cell.result place.entry c.new_entry-entry.result) (c.in-Ok.ensures.within within) (here, (here, tt)))

pub returns-clause-made : goal.returns-clause-made
returns-clause-made c young chain =
    let home = c.args.home.now in
    let place = c.args.place in
    let added = c.in-Ok.ensures.recorded young in
    let cell_was = c.cells.ensures.cell ∙ sym (cell_read home place.cell empty_cell c.requires.cell) in
    let entry_was = c.entry.ensures ∙ sym (entry_read home place.entry free_entry c.requires.entry) in
    let few : c.entry.result.kind ≡ 1 → c.entry.result.length < 2 ^ 31 = λ is. let P : Entry → Type 0 = λ e. e.kind ≡ 1 → e.length < 2 ^ 31 in subst P (sym entry_was) chain is in
    record {
      address = c.in-Ok.address;
      undo = c.undo_for-undo.result;
      patches = added.0;
      undo_of = c.undo_for-undo.ensures;
      sound = c.in-Ok.ensures.sound;
      same = added.1.copy;
      recorded = added.2;
      cell = c.new_cell-cell.result;
      cell_is = c.new_cell-cell.ensures ∙ ap (cell_after (kind_of c.args.ask.now.op) c.args.ask.now.key place.entry) cell_was;
      cell_sound = c.change.ensures.cell_sound;
      entry = c.new_entry-entry.result;
      entry_is = c.new_entry-entry.ensures few ∙ ap (entry_after c.args.xid c.in-Ok.address) entry_was;
      entry_sound = c.change.ensures.entry_sound;
      group = c.change.ensures.patches ∙ ap (λ (l : List Patch). l ++ home_patches place.block place.cell c.new_cell-cell.result place.entry c.new_entry-entry.result) added.1.group;
    }
