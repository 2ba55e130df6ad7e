use Rattle.std.proofs.Common.{◌<◌, sym, subst, arith}
use Rattle.rb_itl.specs.declared.slots.Entry.{Entry}
use Rattle.law_read.specs.Heights.{AtMost}
use Rattle.law_blocks.specs.Says.{walk_entry}
use Rattle.rb_cr.proofs.EntryBytes.{of_home}
use Rattle.rb_cr.proofs.visible.any_told_hidden.Goals as goal

pub returns-then-is_told_hidden : goal.returns-then-is_told_hidden
returns-then-is_told_hidden c = λ yes shape env b most.
    let lt : c.loop-index.index < 8 = (let lt = c.loop-index-test.true in omega arith) in
    c.is_told_hidden.ensures c.if-is_told_hidden.true shape env
    (subst (λ (e : Entry). AtMost env c.args.scn c.args.scn (walk_entry shape e)) (sym c.entry.ensures)
    (subst (AtMost env c.args.scn c.args.scn) (of_home c.args.block.now c.loop-index.index shape b lt) (most c.loop-index.index)))
