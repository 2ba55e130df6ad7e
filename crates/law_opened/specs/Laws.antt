-- That sound blocks stand for the state that they open to.
use Rattle.std.specs.Prelude.{ℕ, List, []}
use Rattle.rb_base.specs.Blocks.{IsShape}
use Rattle.rb_base.specs.declared.shape.Shape.{Shape}
use Rattle.rb_model.specs.Rows.{TableRow}
use Rattle.law_blocks.specs.Standing.{SoundAs}
use Rattle.law_blocks.specs.States.{BlocksStand}
use Rattle.law_opened.specs.Opened.{opened_with, owned_books}

-- Sound blocks stand for the state that they open to, with the number and the rows that they are sound as.
abbrev pub SoundStands : Type 0
SoundStands = (shape : Shape) (blocks : List (List ℕ)) (number : ℕ) (rows : List TableRow) → IsShape shape
    → (sound : SoundAs shape blocks number rows)
    → BlocksStand (opened_with shape number rows (owned_books shape blocks) sound.lives) [] blocks
