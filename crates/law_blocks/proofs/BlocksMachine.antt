-- A commit, and the end of a transaction without a change, keep what the blocks of a file stand for with the machine's state.
use Rattle.std.proofs.Common.{◌≡◌, ◌<◌, ◌+◌, ◌*◌, ◌++◌, ℕ, List, [], ◌∷◌, refl, sym, ◌∙◌, ap, subst, arith}
use Rattle.rb_base.specs.declared.sizes.TheConstants.{SLOTS}
use Rattle.rb_base.specs.declared.ids.Xid.{Xid}
use Rattle.rb_model.specs.State.{State, Cursor, session_own}
use Rattle.rb_segment.specs.Header.{Segment}
use Rattle.rb_segment.specs.Segments.{commit_scn}
use Rattle.law_blocks.specs.Groups.{IsCommitted, IsEnded}
use Rattle.law_blocks.specs.NextStates.{after_commit, after_end}
use Rattle.law_blocks.specs.Says.{says, xid_by}
use Rattle.law_blocks.specs.Standing.{Standing, env_of, logged_of, segments_of, homes_of}
use Rattle.law_blocks.specs.States.{BlocksStand, BlocksStandAs, Owns, SegmentsTell, newest_first, past_of, lives_of}
use Rattle.law_blocks.specs.Values.{slot_of}
use Rattle.law_blocks.specs.Writes.{committed_segments, ended_segments}
use Rattle.law_home.specs.Walk.{Change, own}
use Rattle.law_blocks.proofs.BlocksAs.{blocks_as, commit_logged}
use Rattle.law_blocks.proofs.BlocksDone.{commit_moves, end_moves}
use Rattle.law_blocks.proofs.Ids.{active_of}
use Rattle.law_blocks.proofs.MachineBack.{stands_ended, wrap_still}
use Rattle.law_blocks.proofs.MachineDone.{stands_committed, xid_same}
use Rattle.law_blocks.proofs.SegmentRead.{segments_committed, segments_ended}
use Rattle.law_blocks.proofs.States.{lives_owned}
use Rattle.rb_model.specs.Change as model

-- What stands in blocks for a state may be told by the segments that are read from them.
pub told_blocks : (h : State) (xids : List Xid) (blocks : List (List ℕ)) (segments : ℕ → Segment) → segments_of h.shape blocks ≡ segments → SegmentsTell h xids segments → Standing h.shape blocks (past_of h xids) (lives_of h (says h.shape segments)) → BlocksStand h xids blocks
told_blocks h xids blocks segments are tell standing = record {
  tell = subst (SegmentsTell h xids) (sym are) tell;
  standing = subst (λ (z : ℕ → Segment). Standing h.shape blocks (past_of h xids) (lives_of h (says h.shape z))) (sym are) standing;
}

module _ (h : State) (xids : List Xid) (before now : List (List ℕ)) (stand : BlocksStand h xids before) (s t : ℕ) (t_in : t < SLOTS * h.shape.segments) (owns : Owns h s t) where
  abbrev Segs : ℕ → Segment
  Segs = segments_of h.shape before

  abbrev N : ℕ
  N = commit_scn h.shape before

  abbrev L : ℕ
  L = logged_of h.shape before

  abbrev Lives : List (List Change)
  Lives = lives_of h (env_of h.shape before)

  active : (slot_of Segs t).state ≡ 1
  active = active_of h Segs stand.tell.books t t_in owns.owner owns.at

  pub commit_keeps_machine : (cursors : List Cursor) → IsCommitted h.shape t (N + 1) before now → BlocksStand (after_commit h s t (N + 1) cursors) (xids ++ xid_by Segs t ∷ []) now
  commit_keeps_machine cursors is =
      let next = after_commit h s t (N + 1) cursors in
      let ids = xids ++ xid_by Segs t ∷ [] in
      let done = committed_segments (N + 1) t Segs in
      let values : BlocksStandAs next ids (N + 1) (L + 1) done (homes_of h.shape before) = stands_committed h xids N L Segs (homes_of h.shape before) (blocks_as h xids before stand) s t t_in owns (commit_logged h.shape before (past_of h xids) Lives stand.standing) cursors in
      told_blocks next ids now done (segments_committed h.shape t (N + 1) before now is) values.tell
      (commit_moves h.shape before now (past_of h xids) Lives stand.standing t t_in (N + 1) (omega arith) is active (past_of next ids) (lives_of next (says h.shape done)) refl values.stands)

  -- each slot keeps its id,
  pub ids_committed : IsCommitted h.shape t (N + 1) before now → (v : ℕ) → (env_of h.shape now).xid v ≡ (env_of h.shape before).xid v
  ids_committed is v =
      ap (λ (z : ℕ → Segment). xid_by z v) (segments_committed h.shape t (N + 1) before now is)
      ∙ xid_same h xids N L Segs (homes_of h.shape before) (blocks_as h xids before stand) s t t_in owns (commit_logged h.shape before (past_of h xids) Lives stand.standing) [] v

  pub end_keeps_machine : session_own h s ≡ [] → IsEnded h.shape t before now → BlocksStand (after_end h t) xids now
  end_keeps_machine empty is =
      let next = after_end h t in
      let ended = ended_segments t Segs in
      let values : BlocksStandAs next xids N (L + 1) ended (homes_of h.shape before) = stands_ended h xids N L Segs (homes_of h.shape before) (blocks_as h xids before stand) s t t_in owns empty in
      let none : own Lives t ≡ [] = lives_owned h (env_of h.shape before) s t t_in owns ∙ ap (λ (z : List model.Change). newest_first h.shape (xid_by Segs t) 1 z []) empty in
      told_blocks next xids now ended (segments_ended h.shape t before now is) values.tell
      (end_moves h.shape before now (past_of h xids) Lives stand.standing t t_in active none is (past_of next xids) (lives_of next (says h.shape ended)) refl values.stands)

  -- as it does then
  pub ids_ended : session_own h s ≡ [] → IsEnded h.shape t before now → (v : ℕ) → (env_of h.shape now).xid v ≡ (env_of h.shape before).xid v
  ids_ended empty is v =
      ap (λ (z : ℕ → Segment). xid_by z v) (segments_ended h.shape t before now is)
      ∙ wrap_still h xids N L Segs (homes_of h.shape before) (blocks_as h xids before stand) s t t_in owns empty v
