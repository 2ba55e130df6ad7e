use Rattle.std.proofs.Common.{◌≡◌, length}
use Rattle.rb_cr.proofs.Decoded.{EntriesFilled}
use Rattle.rb_cr.proofs.scratch.Scratch.decode_entries.Given as goal

abbrev pub invariant-loop-i : goal.invariant-loop-i
invariant-loop-i l = record {
  long : length l.self.entries ≡ 8;
  filled : EntriesFilled l.block l.i l.self.entries;
  cells : l.self.cells ≡ l.initial.self.cells;
  number : l.self.block ≡ l.initial.self.block;
  watch : l.self.watch ≡ l.initial.self.watch;
}
