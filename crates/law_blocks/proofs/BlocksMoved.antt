-- From what segments and homes stand for after a group to what its blocks do.
use Rattle.std.proofs.Common.{◌≡◌, ◌<◌, ◌≤◌, ◌+◌, ◌^◌, ◌%◌, ℕ, List, map, sym, subst, arith}
use Rattle.std.specs.List.{AllByRecursion}
use Rattle.rb_base.specs.Blocks.{block_of, shape_blocks, table_blocks}
use Rattle.rb_base.specs.declared.shape.Shape.{Shape}
use Rattle.rb_heap.specs.Soundness.{IsHomeSound}
use Rattle.rb_model.specs.Rows.{InOrder}
use Rattle.rb_segment.specs.Header.{Segment}
use Rattle.rb_segment.specs.Segments.{commit_scn}
use Rattle.law_blocks.specs.Groups.{GroupOn}
use Rattle.law_blocks.specs.Standing.{Standing, logged_of, segments_of, homes_of}
use Rattle.law_blocks.specs.Values.{HomeStands, Past, StandingAs, made_by, owed, rows_here, wraps_of}
use Rattle.law_blocks.specs.Says.{says}
use Rattle.law_home.specs.Homes.{here, narrow}
use Rattle.law_home.specs.Walk.{Change, Home}
use Rattle.law_blocks.proofs.Group.{block_stays, blocks_stay, logged_next}
use Rattle.law_blocks.proofs.Listed.{home_later}

-- homes that agree where there are blocks of rows
pub homes_agree : (shape : Shape) (commit logged : ℕ) (segments : ℕ → Segment) (homes homes2 : ℕ → Home) (past : Past) (lives : List (List Change)) → ((b : ℕ) → b < table_blocks shape → homes2 b ≡ homes b) → StandingAs shape commit logged segments homes past lives → StandingAs shape commit logged segments homes2 past lives
homes_agree shape commit logged segments homes homes2 past lives same stand = record {
  slots_counted = stand.slots_counted;
  number = stand.number;
  in_order = stand.in_order;
  apart = stand.apart;
  slots = stand.slots;
  homes_stand = λ b b_in. subst (HomeStands (says shape segments) (made_by segments) past.base (rows_here shape b past.rows) (map (narrow b) past.list) (map (here b) lives)) (sym (same b b_in)) (stand.homes_stand b b_in);
}

-- a group of blocks of the file, which stood
module _ (shape : Shape) (Is : ℕ → Type 0) (before now : List (List ℕ)) (group : GroupOn shape Is before now) (within : (b : ℕ) → Is b → b < shape_blocks shape) (past : Past) (lives : List (List Change)) (stand : Standing shape before past lives) where
  -- a block of rows that it doesn't patch is sound still
  pub stays_sound : (c : ℕ) (after : ℕ → Segment) → commit_scn shape before ≤ c → ((g i : ℕ) → wraps_of (segments_of shape before) g i ≤ wraps_of after g i) → (b : ℕ) → b < table_blocks shape → (Is b → ⊥) → IsHomeSound shape c (wraps_of after) (b % shape.blocks) (block_of now b)
  stays_sound c after le up b b_in not = subst (IsHomeSound shape c (wraps_of after) (b % shape.blocks)) (sym (block_stays shape Is before now group b not)) (home_later shape (commit_scn shape before) c (wraps_of (segments_of shape before)) (wraps_of after) (b % shape.blocks) (block_of before b) le up (stand.homes_sound b b_in))

  -- What stands as values, with the commit number, the segments and the homes of the blocks, does in the blocks.
  pub moved_stands : (c : ℕ) (after : ℕ → Segment) (homes : ℕ → Home) (past2 : Past) (lives2 : List (List Change)) → commit_scn shape now ≡ c → segments_of shape now ≡ after → ((b : ℕ) → b < table_blocks shape → homes_of shape now b ≡ homes b)
      → ((b : ℕ) → b < table_blocks shape → IsHomeSound shape c (wraps_of after) (b % shape.blocks) (block_of now b)) → logged_of shape before + 1 + owed shape after ≤ 2 ^ 60 + 2 ^ 13 → past2.rows ≡ past.rows → StandingAs shape c (logged_of shape before + 1) after homes past2 lives2 → Standing shape now past2 lives2
  moved_stands c after homes past2 lives2 scn segs same sound ahead rows stands =
      let logs : logged_of shape now ≡ logged_of shape before + 1 = logged_next shape Is before now group stand.whole within (omega (arith, ahead)) in
      record {
        whole = blocks_stay shape Is before now group stand.whole;
        homes_sound = λ b b_in. subst (λ (z : ℕ → Segment). IsHomeSound shape (commit_scn shape now) (wraps_of z) (b % shape.blocks) (block_of now b)) (sym segs) (subst (λ (z : ℕ). IsHomeSound shape z (wraps_of after) (b % shape.blocks) (block_of now b)) (sym scn) (sound b b_in));
        ahead = subst (λ (z : ℕ → Segment). logged_of shape now + owed shape z ≤ 2 ^ 60 + 2 ^ 13) (sym segs) (omega (arith, logs, ahead));
        order = subst (InOrder shape.blocks) (sym rows) stand.order;
        tables = subst (AllByRecursion (λ row. (1 ≤ row.table) × (row.table ≤ shape.tables))) (sym rows) stand.tables;
        stands = subst (λ (z : ℕ → Segment). StandingAs shape (commit_scn shape now) (logged_of shape now) z (homes_of shape now) past2 lives2) (sym segs) (subst (λ (z : ℕ). StandingAs shape (commit_scn shape now) z after (homes_of shape now) past2 lives2) (sym logs) (subst (λ (z : ℕ). StandingAs shape z (logged_of shape before + 1) after (homes_of shape now) past2 lives2) (sym scn) (homes_agree shape c (logged_of shape before + 1) after homes (homes_of shape now) past2 lives2 same stands)));
      }
