use Rattle.std.proofs.Common.{sym}
use Rattle.rb_cr.proofs.Shown.{sixteen}
use Rattle.rb_cr.proofs.plain.BlockCellsPlainCells.count.Goals as goal

pub returns : goal.returns
returns c = sym (sixteen c.args.self.now.block.now)
