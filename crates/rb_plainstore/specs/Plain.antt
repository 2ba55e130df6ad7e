-- What a store in memory holds.
use Rattle.std.specs.Prelude.{ℕ, ◌<◌, List, Option, IfSome}
use Rattle.rb_base.specs.Blocks.{IsShape, AreBlocks, shape_blocks}
use Rattle.rb_base.specs.declared.shape.Shape.{Shape}

-- The blocks of a file, the last log number given, and the block that was loaded.
pub record PlainState : Type 0 where
  pub shape : Shape
  pub blocks : List (List ℕ)
  pub lsn : ℕ
  pub loaded : Option ℕ

-- a file's shape, its blocks, and one of them
pub record IsPlain (shape : Shape) (blocks : List (List ℕ)) (loaded : Option ℕ) : Type 0 where
  pub shape_fits : IsShape shape
  pub are_blocks : AreBlocks shape blocks
  pub loaded_there : IfSome loaded (λ no. no < shape_blocks shape)
