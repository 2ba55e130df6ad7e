use Rattle.std.proofs.Common.{sym, ◌∙◌, ap}
use Rattle.rb_write.proofs.Held.{names_entry, names_none, then_open}
use Rattle.rb_write.specs.Holding.{locker, open_xid}
use Rattle.rb_heap.specs.Homes.{home_of}
use Rattle.rb_write.proofs.holder.locker.Goals as goal
use Rattle.rb_write.proofs.holder.locker.Goals.{then-lock-eq0-via-then-lock-eq0, then-lock-eq0-via-else-lock-eq0+then-lock-gt-ENTRIES}

pub returns-then-lock-eq0 : goal.returns-then-lock-eq0
returns-then-lock-eq0 c = elim c.then-lock-eq0.branch [
  | then-lock-eq0-via-then-lock-eq0 w ↦ ap (locker (home_of c.args.block.now)) (sym w.if-lock-eq0.true)
  | then-lock-eq0-via-else-lock-eq0+then-lock-gt-ENTRIES w ↦ sym (names_none c.args.block.now c.args.lock w.if-lock-gt-ENTRIES.true)
]

pub returns : goal.returns
returns c = c.then_some.ensures ∙ (then_open c.entry-entry.result ∙ ap open_xid c.entry-entry.ensures ∙ sym (names_entry c.args.block.now c.args.lock c.if-lock-eq0.false c.if-lock-gt-ENTRIES.false))
