use Rattle.std.proofs.Common.{ap, sym, ◌∙◌, arith}
use Rattle.rb_heap.proofs.Reading.{entry_read}
use Rattle.rb_itl.specs.Entries.{free_entry}
use Rattle.rb_itl.specs.declared.slots.Entry.{Entry}
use Rattle.rb_write.proofs.home.are_open.Goals as goal

pub returns-then-entry-ne-OPEN-clause-other : goal.returns-then-entry-ne-OPEN-clause-other
returns-then-entry-ne-OPEN-clause-other c is all =
    let i = c.loop-i.i in
    let lt = c.loop-i-test.true in
    c.if-entry-ne-OPEN.true (ap (λ (e : Entry). e.kind) (c.entry.ensures ∙ sym (entry_read c.args.home.now i free_entry lt)) ∙ all i lt)

pub returns-clause-open : goal.returns-clause-open
returns-clause-open c is j lt =
    ap (λ (e : Entry). e.kind) (entry_read c.args.home.now j free_entry lt) ∙ c.loop-i.invariant j (omega (arith, lt, c.loop-i-test.false))
