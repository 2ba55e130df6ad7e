-- The committed cells of each home of a file have the file's rows.
use Rattle.std.proofs.Common.{◌≡◌, inl, inr, ◌<◌, ◌≤◌, ◌==◌, ◌+◌, ◌/◌, ◌%◌, ℕ, List, [], map, None, Some, sym, ◌∙◌}
use Rattle.std.proofs.lemmas.Bool.{cases_Bool, cond-false, cond-true}
use Rattle.rb_base.specs.Blocks.{IsShape, home_block, table_blocks}
use Rattle.rb_base.specs.declared.shape.Shape.{Shape}
use Rattle.law_committed.proofs.Cells.{cells_show, is_one}
use Rattle.law_committed.proofs.Chains.{told_by_blocks, tells_blocks}
use Rattle.law_committed.proofs.Numbers.{standing_falls}
use Rattle.law_committed.proofs.Same.{in_range}
use Rattle.law_committed.specs.Files.{AreCommitted, CommittedAt}
use Rattle.law_committed.specs.First.{CommittedCell, CommittedRows}
use Rattle.rb_model.specs.Rows.{TableRow, value_of}
use Rattle.rb_segment.specs.Header.{Segment}
use Rattle.rb_segment.specs.Segments.{commit_scn}
use Rattle.law_blocks.proofs.Seen.{distinct}
use Rattle.law_blocks.specs.Says.{says}
use Rattle.law_blocks.specs.Standing.{SoundAs, env_of, homes_of, logged_of, segments_of}
use Rattle.law_blocks.specs.Values.{Past, StandingAs, rows_here}
use Rattle.law_write.proofs.Homes.{rows_here_is}
use Rattle.law_write.proofs.Sites.{row_block}
use Rattle.law_home.specs.Homes.{here, narrow}
use Rattle.law_home.specs.Kinds.{Cell}
use Rattle.law_home.specs.Walk.{Change, Home, Walk, rows_of}

pub home_shows : (shape : Shape) (commit logged : ℕ) (segments : ℕ → Segment) (homes : ℕ → Home) (past : Past) (lives : List (List Change))
    → StandingAs shape commit logged segments homes past lives → (b : ℕ) → b < table_blocks shape
    → CommittedRows (says shape segments) (map (here b) lives) (homes b) (rows_of (rows_here shape b past.rows) (map (narrow b) past.list))
home_shows shape commit logged segments homes past lives stand b there =
    let home = stand.homes_stand b there in
    cells_show (says shape segments) past.base (rows_here shape b past.rows) (map (narrow b) past.list) home.m (map (here b) lives) (homes b)
    (standing_falls shape commit logged segments homes past lives stand b) (distinct shape segments) home.tree

module _ (shape : Shape) (blocks : List (List ℕ)) (number : ℕ) (rows : List TableRow) (shaped : IsShape shape) (sound : SoundAs shape blocks number rows) where
  some : 1 ≤ shape.blocks
  some = shaped.few_blocks.0

  shows : (b : ℕ) → b < table_blocks shape → CommittedRows (env_of shape blocks) (map (here b) sound.lives) (homes_of shape blocks b) (rows_here shape b rows)
  shows b there = home_shows shape (commit_scn shape blocks) (logged_of shape blocks) (segments_of shape blocks) (homes_of shape blocks)
      (record { base = number; rows = rows; list = [] }) sound.lives sound.standing.stands b there

  of_home : (b k : ℕ) (v : List ℕ) → rows_here shape b rows k ≡ Some v → value_of (b / shape.blocks + 1) k rows ≡ Some v
  of_home b k v has = elim (cases_Bool (k % shape.blocks == b % shape.blocks)) [
    | inl alike ↦ sym (cond-true (k % shape.blocks == b % shape.blocks) (value_of (b / shape.blocks + 1) k rows) None alike) ∙ has
    | inr other ↦
        let none : rows_here shape b rows k ≡ None = cond-false (k % shape.blocks == b % shape.blocks) (value_of (b / shape.blocks + 1) k rows) None other in
        absurd (cc)
  ]

  told : (b j : ℕ) (x : Cell) → CommittedCell (env_of shape blocks) (map (here b) sound.lives) (homes_of shape blocks b) j x → CommittedAt shape blocks b j x
  told b = told_by_blocks shape blocks (record { base = number; rows = rows; list = [] }) sound.lives sound.standing b

  tells : (b j : ℕ) (x : Cell) → CommittedAt shape blocks b j x → CommittedCell (env_of shape blocks) (map (here b) sound.lives) (homes_of shape blocks b) j x
  tells b = tells_blocks shape blocks (record { base = number; rows = rows; list = [] }) sound.lives sound.standing b

  committed : AreCommitted shape blocks rows
  committed = record {
    order = sound.standing.order;
    tables = sound.standing.tables;
    sound = λ t k v has.
        let range : (1 ≤ t) × (t ≤ shape.tables) = in_range shape t k rows v sound.standing.tables has in
        let b : ℕ = home_block shape t k in
        let here_is : rows_here shape b rows k ≡ value_of t k rows = rows_here_is shape t k some range.0 rows in
        let f = (shows b (row_block shape t k some range.0 range.1)).complete k v (here_is ∙ has) in
        (f.0, f.1, told b f.0 f.1 f.2, f.3);
    complete = λ b k v there cell.
        let has : rows_here shape b rows k ≡ Some v = (shows b there).sound cell.0 k cell.1 v (tells b cell.0 cell.1 cell.2) cell.3 in
        of_home b k v has;
  }

  pub sound_committed : (number ≡ commit_scn shape blocks) × AreCommitted shape blocks rows
  sound_committed = (sym sound.standing.stands.number, committed)

pub at_one : (shape : Shape) (blocks : List (List ℕ)) (number : ℕ) (rows : List TableRow) → SoundAs shape blocks number rows → (b j : ℕ)
    → b < table_blocks shape → (x : Cell) × CommittedAt shape blocks b j x × ((y : Cell) → CommittedAt shape blocks b j y → x ≡ y)
at_one shape blocks number rows sound b j there =
    let past : Past = record { base = number; rows = rows; list = [] } in
    let home = sound.standing.stands.homes_stand b there in
    let one : (x : Cell) × CommittedCell (env_of shape blocks) (map (here b) sound.lives) (homes_of shape blocks b) j x
    × ((y : Cell) → CommittedCell (env_of shape blocks) (map (here b) sound.lives) (homes_of shape blocks b) j y → x ≡ y) =
    is_one (env_of shape blocks) (Walk (env_of shape blocks) number (rows_here shape b rows) []) home.m (map (here b) sound.lives) (homes_of shape blocks b)
    (standing_falls shape (commit_scn shape blocks) (logged_of shape blocks) (segments_of shape blocks) (homes_of shape blocks) past sound.lives sound.standing.stands b)
    (distinct shape (segments_of shape blocks)) home.tree j in (
      one.0,
      told_by_blocks shape blocks past sound.lives sound.standing b j one.0 one.1,
      λ y is. one.2 y (tells_blocks shape blocks past sound.lives sound.standing b j y is),
    )
