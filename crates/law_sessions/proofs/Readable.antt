-- A home can be read at each number since the file was opened, by who has few changes there; a write has none.
use Rattle.std.proofs.Common.{◌≡◌, ◌<◌, ◌≤◌, ◌+◌, ◌-◌, ◌^◌, ℕ, List, [], ◌∷◌, map, Option, None, refl, arith}
use Rattle.rb_base.specs.Blocks.{home_block, table_blocks}
use Rattle.rb_base.specs.declared.ids.Xid.{Xid}
use Rattle.rb_model.specs.State.{State}
use Rattle.law_read.specs.Keeping.{first_count, kept_room}
use Rattle.law_read.specs.Reading.{Reading, flat}
use Rattle.law_blocks.specs.Standing.{env_of, homes_of, segments_of}
use Rattle.law_blocks.specs.States.{BlocksStand, lives_of, past_of}
use Rattle.law_blocks.proofs.BlocksAs.{commit_logged}
use Rattle.law_blocks.proofs.Seen.{distinct}
use Rattle.law_write.proofs.Presence.{some_blocks}
use Rattle.law_write.proofs.Sites.{row_block}
use Rattle.law_write.proofs.StoodBlocks.{stood_of}
use Rattle.law_sessions.specs.Views.{history, reader_slot}
use Rattle.law_sessions.proofs.Honest.{honest_says, reader_is}
use Rattle.law_home.specs.Homes.{here, narrow}
use Rattle.law_home.specs.Walk.{Change, last, own}
use Rattle.law_home.proofs.Homes.{last_here}

-- of no transaction there is a first change
none_first : (upto : ℕ) (chs : List Change) → first_count None upto chs ≡ 0
none_first upto [] = refl
none_first upto (ch ∷ more) = none_first upto more

module _ (h : State) (xids : List Xid) (blocks : List (List ℕ)) (stand : BlocksStand h xids blocks) where
  -- a commit number is at most the log's
  last_low : (b : ℕ) → last h.commits.base (map (narrow b) (past_of h xids).list) < 2 ^ 64 - 1
  last_low b =
      let a = last_here b h.commits.base (past_of h xids).list in
      let n = stand.standing.stands.number in
      let l = commit_logged h.shape blocks (past_of h xids) (lives_of h (env_of h.shape blocks)) stand.standing in
      let f = stand.standing.ahead in
      omega (arith, a, n, l, f)

  pub home_read : (b : ℕ) (mine : Option Xid) (upto n : ℕ) → b < table_blocks h.shape → h.commits.base ≤ n
      → first_count mine upto (own (map (here b) (lives_of h (env_of h.shape blocks))) (reader_slot mine)) + first_count mine upto (flat n (map (narrow b) (past_of h xids).list)) ≤ kept_room
      → Reading (env_of h.shape blocks) (history h xids blocks b mine) mine upto n (homes_of h.shape blocks b)
  home_read b mine upto n b_in low few =
      let stands = stand.standing.stands.homes_stand b b_in in
      record {
        m = stands.m;
        runs = record { distinct = distinct h.shape (segments_of h.shape blocks); tree = stands.tree };
        honest = honest_says h.shape (segments_of h.shape blocks);
        low = low;
        lower = last_low b;
        alone = reader_is h.shape (segments_of h.shape blocks) mine;
        few = few;
      }

  -- the home of a key, for a write
  pub write_read : (table key n : ℕ) → 1 ≤ table → table ≤ h.shape.tables → h.commits.base ≤ n
      → Reading (env_of h.shape blocks) (history h xids blocks (home_block h.shape table key) None) None 0 n (homes_of h.shape blocks (home_block h.shape table key))
  write_read table key n first within low =
      let which : ℕ = home_block h.shape table key in
      let some : 1 ≤ h.shape.blocks = some_blocks h xids (segments_of h.shape blocks) (homes_of h.shape blocks) (stood_of h xids blocks stand) in
      let a = none_first 0 (own (map (here which) (lives_of h (env_of h.shape blocks))) (reader_slot None)) in
      let b = none_first 0 (flat n (map (narrow which) (past_of h xids).list)) in
      home_read which None 0 n (row_block h.shape table key some first within) low (omega (arith, a, b))
