use Rattle.std.proofs.Common.{◌+◌, ◌*◌, [], true, false, arith, ◌∙◌}
use Rattle.std.proofs.lemmas.List.{length-set}
use Rattle.rb_itl.specs.declared.slots.TheConstants.{ENTRIES, ENTRY_BYTES}
use Rattle.rb_base.specs.Logs.{more_logs}
use Rattle.rb_cleanout.proofs.Cleaning.{next_seen}
use Rattle.rb_cleanout.proofs.Copies.{more_cleans}
use Rattle.rb_cleanout.proofs.Looking.{looks, same_looks}
use Rattle.rb_heap.proofs.Reading.{entries_counted}
use Rattle.rb_heap.specs.Homes.{home_of}
use Rattle.rb_cleanout.proofs.entries.clean_entries.Goals as goal

pub returns-in_err-cleaned-clause-made : goal.returns-in_err-cleaned-clause-made
returns-in_err-cleaned-clause-made g c =
    let i = c.loop-i.i in
    let call = c.clean_entry.new in
    more_cleans c.args.no c.args.copy.now c.loop-i.copy call.copy c.args.group.now c.loop-i.group call.group i (i * (8 + ENTRY_BYTES)) 1 (8 + ENTRY_BYTES) ENTRIES (ENTRIES * (8 + ENTRY_BYTES)) c.loop-i.invariant.made c.clean_entry.ensures.made (omega arith) (omega arith)

pub returns-in_err-cleaned-clause-logs : goal.returns-in_err-cleaned-clause-logs
returns-in_err-cleaned-clause-logs g c =
    rw c.from_residual.ensures.0 (more_logs g.S.Store c.args.store.now c.loop-i.store c.clean_entry.new.store [] [] false c.loop-i.invariant.logs c.in_err-cleaned.ensures.logs)

pub loop-i-preserved : goal.loop-i-preserved
loop-i-preserved g c =
    let s = g.S.Store in
    let i = c.loop-i.i in
    let so_far = c.loop-i.invariant in
    let call = c.in_ok-cleaned.ensures in
    let new = c.clean_entry.new in
    record {
      logs = more_logs s c.args.store.now c.loop-i.store new.store [] [] true so_far.logs call.logs;
      long = call.length;
      many = length-set c.loop-i.cleaned i c.in_ok-cleaned.field-0 ∙ so_far.many;
      made = more_cleans c.args.no c.args.copy.now c.loop-i.copy new.copy c.args.group.now c.loop-i.group new.group i (i * (8 + ENTRY_BYTES)) 1 (8 + ENTRY_BYTES) (i + 1) ((i + 1) * (8 + ENTRY_BYTES)) so_far.made call.made (omega arith) (omega arith);
      cleaned = λ told.
          next_seen (looks s c.args.store.now) (looks s c.loop-i.store) (same_looks s c.args.store.now c.loop-i.store so_far.logs told) i (home_of c.args.copy.now) (home_of c.loop-i.copy) (home_of new.copy) c.loop-i.cleaned c.in_ok-cleaned.field-0
          (omega (arith, so_far.many, c.loop-i-test.true)) (omega (arith, entries_counted c.loop-i.copy, c.loop-i-test.true)) (so_far.cleaned told) (call.told told) (call.cleaned told);
    }
