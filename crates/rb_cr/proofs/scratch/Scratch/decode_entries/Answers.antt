use Rattle.std.proofs.Common.{rules, ◌+◌, set, refl, sym, subst, arith, ◌∙◌}
use Rattle.std.proofs.lemmas.List.{length-set}
use Rattle.rb_itl.specs.Entries.{entry_at}
use Rattle.rb_itl.specs.Entries.{free_entry}
use Rattle.rb_cr.proofs.Decoded.{EntriesFilled, entries_all, filled_more}
use Rattle.rb_cr.proofs.scratch.Scratch.decode_entries.Goals as goal

pub loop-i-init : goal.loop-i-init
loop-i-init c = record { long = search rules; filled = λ j lt. absurd (omega (arith, lt)); cells = refl; number = refl; watch = refl }

pub loop-i-preserved : goal.loop-i-preserved
loop-i-preserved c =
    let inv = c.loop-i.invariant in
    let block = c.args.block.now in
    let more : EntriesFilled block (c.loop-i.i + 1) (set c.loop-i.self.entries c.loop-i.i (entry_at block c.loop-i.i)) = filled_more (entry_at block) free_entry c.loop-i.self.entries c.loop-i.i (omega (arith, inv.long, c.loop-i-test.true)) inv.filled in
    record {
      long = length-set c.loop-i.self.entries c.loop-i.i c.entry.result ∙ inv.long;
      filled = subst (λ z. EntriesFilled block (c.loop-i.i + 1) (set c.loop-i.self.entries c.loop-i.i z)) (sym c.entry.ensures) more;
      cells = inv.cells;
      number = inv.number;
      watch = inv.watch;
    }

pub returns-clause-entries : goal.returns-clause-entries
returns-clause-entries c = entries_all c.args.block.now c.loop-i.i c.loop-i.self.entries c.loop-i-test.false c.loop-i.invariant.long c.loop-i.invariant.filled

pub returns-clause-cells : goal.returns-clause-cells
returns-clause-cells c = c.loop-i.invariant.cells

pub returns-clause-number : goal.returns-clause-number
returns-clause-number c = c.loop-i.invariant.number

pub returns-clause-watch : goal.returns-clause-watch
returns-clause-watch c = c.loop-i.invariant.watch
