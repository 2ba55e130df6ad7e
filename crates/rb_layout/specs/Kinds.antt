-- The numbers by which blocks name their kinds.
use Rattle.std.specs.Prelude.{ℕ}
use Rattle.rb_layout.specs.declared.fresh.BlockKind.{BlockKind}
use Rattle.rb_layout.specs.declared.fresh.BlockKind.TheVariants.{Rows, Segment, Undo}

abbrev pub kind_number : BlockKind → ℕ
kind_number Rows = 1
kind_number Segment = 2
kind_number Undo = 3
