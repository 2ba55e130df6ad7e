-- A cleaning and a put back over blocks that stand for the machine's state.
use Rattle.std.proofs.Common.{◌≡◌, ◌<◌, ◌+◌, ◌*◌, ◌/◌, ℕ, List, [], ◌∷◌, ◌++◌, length, set, Some, sym, subst}
use Rattle.rb_base.specs.declared.sizes.TheConstants.{SLOTS}
use Rattle.rb_base.specs.Blocks.{table_blocks}
use Rattle.rb_base.specs.declared.ids.Xid.{Xid}
use Rattle.rb_model.specs.Change as model
use Rattle.rb_model.specs.State.{State, session_own}
use Rattle.rb_segment.specs.Header.{Segment, record_in}
use Rattle.rb_segment.specs.Segments.{commit_scn}
use Rattle.law_blocks.specs.BlockLaws.{HasNext}
use Rattle.law_blocks.specs.Groups.{IsCleaned, IsPutBack}
use Rattle.rb_model.specs.NextState.{with_own}
use Rattle.law_blocks.specs.Says.{says, xid_by}
use Rattle.law_blocks.specs.Standing.{Standing, env_of, homes_of, logged_of, segments_of}
use Rattle.law_blocks.specs.States.{BlocksStand, BlocksStandAs, Owns, SegmentsTell, lives_of, newest_first, past_of, walk_change}
use Rattle.law_blocks.proofs.BlocksAs.{blocks_as}
use Rattle.law_blocks.proofs.BlocksBack as back
use Rattle.law_blocks.proofs.BlocksCleaned.{blocks_cleaned, segments_same}
use Rattle.law_blocks.proofs.MachineBack.{newest_is, stands_back_as}
use Rattle.law_blocks.proofs.BlocksMoved.{homes_agree}
use Rattle.rb_undoblock.specs.declared.record.UndoRecord.{UndoRecord}
use Rattle.law_home.specs.Walk.{Change, Home, own}

pub machine_cleaned : (h : State) (xids : List Xid) (before now : List (List ℕ)) (b : ℕ) → b < table_blocks h.shape → HasNext h.shape before → BlocksStand h xids before → IsCleaned h.shape b before now → BlocksStand h xids now
machine_cleaned h xids before now b b_in next stand clean =
    let lives = lives_of h (env_of h.shape before) in
    let same : segments_of h.shape now ≡ segments_of h.shape before = segments_same h.shape before now (past_of h xids) lives b stand.tell.in_range b_in next stand.standing clean in
    let standing : Standing h.shape now (past_of h xids) lives = blocks_cleaned h.shape before now (past_of h xids) lives b stand.tell.in_range b_in next stand.standing clean in
    record {
      tell = subst (SegmentsTell h xids) (sym same) stand.tell;
      standing = subst (λ (f : ℕ → Segment). Standing h.shape now (past_of h xids) (lives_of h (says h.shape f))) (sym same) standing;
    }

module _ (h : State) (xids : List Xid) (before now : List (List ℕ)) (s t : ℕ) (u : UndoRecord) (front : List model.Change) (c : model.Change) (t_in : t < SLOTS * h.shape.segments) (stand : BlocksStand h xids before) (owns : Owns h s t) (own_is : session_own h s ≡ front ++ c ∷ [])
    (there : record_in (segments_of h.shape before (t / SLOTS)) c.place.index ≡ Some u) (put : IsPutBack h.shape t u before now) where
  abbrev Segs : ℕ → Segment
  Segs = segments_of h.shape before

  abbrev Last : Change
  Last = walk_change h.shape (xid_by Segs t) (1 + length front) c

  abbrev More : List Change
  More = newest_first h.shape (xid_by Segs t) 1 front []

  values : BlocksStandAs h xids (commit_scn h.shape before) (logged_of h.shape before) Segs (homes_of h.shape before)
  values = blocks_as h xids before stand

  mine : own (lives_of h (env_of h.shape before)) t ≡ Last ∷ More
  mine = newest_is h xids (commit_scn h.shape before) (logged_of h.shape before) Segs (homes_of h.shape before) values s t t_in owns front c own_is

  abbrev Homes2 : ℕ → Home
  Homes2 = back.Homes2 h.shape before now (past_of h xids) (lives_of h (env_of h.shape before)) t u Last More stand.tell.in_range t_in stand.standing mine there put

  stands_as : BlocksStandAs (with_own h s front) xids (commit_scn h.shape before) (logged_of h.shape before + 1) (segments_of h.shape now) Homes2
  stands_as = stands_back_as h xids (commit_scn h.shape before) (logged_of h.shape before) Segs (homes_of h.shape before) values s t t_in owns Homes2 (segments_of h.shape now) u
      (back.put_values h.shape before now (past_of h xids) (lives_of h (env_of h.shape before)) t u Last More stand.tell.in_range t_in stand.standing mine there put) front c own_is

  standing : Standing h.shape now (past_of h xids) (set (lives_of h (env_of h.shape before)) t More)
  standing = back.blocks_back h.shape before now (past_of h xids) (lives_of h (env_of h.shape before)) t u Last More stand.tell.in_range t_in stand.standing mine there put

  commit : commit_scn h.shape now ≡ commit_scn h.shape before
  commit = back.commit_same h.shape before now (past_of h xids) (lives_of h (env_of h.shape before)) t u Last More stand.tell.in_range t_in stand.standing mine there put

  logged : logged_of h.shape now ≡ logged_of h.shape before + 1
  logged = back.logged h.shape before now (past_of h xids) (lives_of h (env_of h.shape before)) t u Last More stand.tell.in_range t_in stand.standing mine there put

  pub machine_back : BlocksStand (with_own h s front) xids now
  machine_back = record {
    tell = stands_as.tell;
    standing = record {
      whole = standing.whole;
      homes_sound = standing.homes_sound;
      ahead = standing.ahead;
      order = standing.order;
      tables = standing.tables;
      stands = rw (commit, logged) (homes_agree h.shape (commit_scn h.shape before) (logged_of h.shape before + 1) (segments_of h.shape now) Homes2 (homes_of h.shape now) (past_of (with_own h s front) xids) (lives_of (with_own h s front) (env_of h.shape now))
          (λ b b_in. sym (back.read_rows h.shape before now (past_of h xids) (lives_of h (env_of h.shape before)) t u Last More stand.tell.in_range t_in stand.standing mine there put b b_in)) stands_as.stands);
    };
  }
