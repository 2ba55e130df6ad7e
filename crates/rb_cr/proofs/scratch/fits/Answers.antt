use Rattle.std.proofs.Common.{rules, ◌≡◌, ◌==◌, ◌&&◌, ◌∙◌, ℕ, Bool, nat_lt, length, get_or, false, sym, ap, arith}
use Rattle.std.proofs.lemmas.List.{length-map}
use Rattle.rb_cell.specs.declared.cell.TheConstants.{CELLS}
use Rattle.rb_base.specs.declared.shape.Shape.{Shape}
use Rattle.rb_base.specs.declared.ids.Xid.{Xid}
use Rattle.rb_cr.specs.Records.{maker_of, names_at, record_of}
use Rattle.rb_cr.specs.Scratches.{scratch_home}
use Rattle.rb_cr.specs.declared.records.SegmentRecord.{SegmentRecord}
use Rattle.rb_cr.specs.declared.scratch.Scratch.{Scratch}
use Rattle.law_read.specs.Chains.{fits, leads_back, names, same_xid}
use Rattle.law_blocks.specs.Says.{walk_cell, walk_entry}
use Rattle.law_home.specs.Kinds.{Entry}
use Rattle.law_home.specs.Walk.{entry_at}
use Rattle.rb_cr.proofs.Tops.{entry_is}
use Rattle.rb_itl.specs.declared.slots.Entry as entries
use Rattle.rb_itl.specs.Entries.{entry_of, free_entry as zero_entry}
use Rattle.rb_cr.proofs.scratch.fits.Goals as goal

-- a decoded home has sixteen cells
names_is : (shape : Shape) (s : Scratch) (i : ℕ) (xid : Xid) (found : SegmentRecord) → length s.cells ≡ CELLS → names i xid (scratch_home shape s) (record_of shape found) ≡ names_at i s.block xid found
names_is shape s i xid found sixteen = ap (λ (n : ℕ). found.undo.entry == i && (same_xid (maker_of found) xid && (found.undo.home == s.block && nat_lt found.undo.cell n))) (length-map s.cells walk_cell ∙ sixteen)

pub returns-then-names-clause-told : goal.returns-then-names-clause-told
returns-then-names-clause-told c = λ shape.
    let s = c.args.scratch.now in
    let found = c.args.found.now in
    let eight : length s.entries ≡ 8 = search rules in
    let sixteen : length s.cells ≡ CELLS = c.requires.cells in
    let test = names_is shape s c.args.i c.args.xid found sixteen ∙ sym c.names.ensures ∙ c.if-names.true in
    let before = walk_entry shape (entry_of found.undo.entry_before) in
    c.leads_back.ensures shape
    ∙ ap (λ (e : entries.Entry). leads_back c.args.xid (walk_entry shape (get_or s.entries c.args.i zero_entry)) (walk_entry shape e)) c.entry_from.ensures
    ∙ ap (λ (e : Entry). leads_back c.args.xid e before) (sym (entry_is shape s.entries c.args.i (omega (arith, eight, c.requires.there))))
    ∙ ap (λ (t : Bool). t && leads_back c.args.xid (entry_at (scratch_home shape s) c.args.i) before) (sym test)

pub returns-else-names-clause-told : goal.returns-else-names-clause-told
returns-else-names-clause-told c = λ shape.
    let s = c.args.scratch.now in
    let found = c.args.found.now in
    let sixteen : length s.cells ≡ CELLS = c.requires.cells in
    let test = names_is shape s c.args.i c.args.xid found sixteen ∙ sym c.names.ensures ∙ c.if-names.false in
    let none : fits c.args.i c.args.xid (scratch_home shape s) (record_of shape found) ≡ false = ap (λ (t : Bool). t && leads_back c.args.xid (entry_at (scratch_home shape s) c.args.i) (walk_entry shape (entry_of found.undo.entry_before))) test in
    rw none c.if-names.false
