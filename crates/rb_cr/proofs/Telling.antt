-- A block that tells that a snapshot sees each change of it shows the rows as they were at the snapshot.
use Rattle.std.proofs.Common.{◌≡◌, ℕ, List}
use Rattle.rb_base.specs.Blocks.{block_of}
use Rattle.rb_base.specs.declared.shape.Shape.{Shape}
use Rattle.rb_cr.specs.Builds.{IsHomeRead}
use Rattle.rb_cr.specs.Clauses.{answer_to}
use Rattle.rb_cr.specs.Copies.{IsQuiet}
use Rattle.rb_cr.specs.Pages.{TellsAll}
use Rattle.rb_cr.specs.Rows.{block_rows}
use Rattle.rb_cr.specs.declared.scratch.Snapshot.{Snapshot}
use Rattle.law_read.specs.Reading.{History}
use Rattle.law_read.proofs.Quiet.{quiet_reads}
use Rattle.law_blocks.specs.Standing.{env_of, homes_of}

pub told_rows : (shape : Shape) (blocks : List (List ℕ)) (b : ℕ) (snap : Snapshot) (h : History) → TellsAll (block_of blocks b) snap.scn
    → IsHomeRead shape blocks b h snap → (k : ℕ) → block_rows (block_of blocks b) k ≡ answer_to h snap k
told_rows shape blocks b snap h told reading k =
    let env = env_of shape blocks in
    let quiet : IsQuiet shape blocks b snap.scn = λ j. told.most shape env b j in
    let plain = quiet_reads env h snap.own snap.upto snap.scn (homes_of shape blocks b) reading quiet in
    plain.0 k
