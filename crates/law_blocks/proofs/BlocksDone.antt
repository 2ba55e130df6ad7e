-- A commit, and the end of a slot without live changes, keep what the blocks of a file stand for.
use Rattle.std.proofs.Common.{◌≡◌, inl, inr, ◌<◌, ◌≤◌, ◌+◌, ◌*◌, ◌/◌, ◌%◌, ℕ, List, [], length, set, refl, sym, ◌∙◌, ap, subst, arith}
use Rattle.std.proofs.lemmas.Bool.{cases_eq}
use Rattle.std.proofs.Math.Nat.{div-add-mod}
use Rattle.rb_base.specs.declared.sizes.TheConstants.{SLOTS}
use Rattle.rb_base.specs.Blocks.{header_block, shape_blocks, table_blocks}
use Rattle.rb_base.specs.declared.shape.Shape.{Shape}
use Rattle.rb_segment.specs.Header.{Segment, slot_in}
use Rattle.rb_segment.specs.Moves.{with_header, committed, ended}
use Rattle.rb_segment.specs.Segments.{commit_scn}
use Rattle.law_blocks.specs.Groups.{IsCommitted, IsEnded}
use Rattle.law_blocks.specs.Standing.{Standing, logged_of, segments_of, homes_of}
use Rattle.law_blocks.specs.Values.{Past, Running, StandingAs, slot_of, wraps_of}
use Rattle.law_blocks.specs.Writes.{committed_past, committed_segments, ended_segments}
use Rattle.rb_txntable.specs.declared.slots.TableSlot.{TableSlot}
use Rattle.law_home.specs.Walk.{Change, own}
use Rattle.rb_segment.proofs.Ended.{ended_slot, ended_other, ended_wrap}
use Rattle.law_blocks.proofs.BlocksMoved.{stays_sound, moved_stands}
use Rattle.law_blocks.proofs.Group.{block_stays}
use Rattle.law_blocks.proofs.OwedMoves.{owed_ended, owed_committed}
use Rattle.law_blocks.proofs.SegmentRead.{scn_above, scn_least, scn_same, home_stays, segments_committed, segments_ended}
use Rattle.law_blocks.proofs.SlotsMoved.{slot_after, slot_other, newest_same, wraps_same, committed_own, committed_other}
use Rattle.law_blocks.proofs.StandingDone.{standing_committed, running_committed, standing_ended, running_ended}

module _ (shape : Shape) (before now : List (List ℕ)) (past : Past) (lives : List (List Change)) (stand : Standing shape before past lives) (t : ℕ) (t_in : t < SLOTS * shape.segments) where
  abbrev Segs : ℕ → Segment
  Segs = segments_of shape before

  abbrev S : Segment
  S = Segs (t / SLOTS)

  -- the one block that such a group patches
  abbrev Head : ℕ → Type 0
  Head x = x ≡ header_block shape (t / SLOTS)

  g_in : t / SLOTS < shape.segments
  g_in = let a = div-add-mod t SLOTS in omega (arith, a, t_in)

  slot_within : t % SLOTS < length S.header.slots
  slot_within = let a = (stand.stands.in_order (t / SLOTS) g_in).header.slots_counted in omega (arith, a)

  head_within : (b : ℕ) → Head b → b < shape_blocks shape
  head_within b at = omega (arith, at, g_in)

  no_rows : (b : ℕ) → b < table_blocks shape → Head b → ⊥
  no_rows b b_in at = omega (arith, at, b_in)

  module _ (c : ℕ) (next : commit_scn shape before < c) (is : IsCommitted shape t c before now) where
    abbrev Done : ℕ → Segment
    Done = committed_segments c t Segs

    segs : segments_of shape now ≡ Done
    segs = segments_committed shape t c before now is

    own_done : slot_of Done t ≡ (let x = slot_in S.header (t % SLOTS) in record x { state = 2; newest = c })
    own_done = slot_after Segs Done t (with_header (committed c (t % SLOTS) S.header) S) (λ g. refl) ∙ committed_own S (t % SLOTS) c slot_within

    newest_done : (v : ℕ) → v < SLOTS * shape.segments → (slot_of (segments_of shape now) v).newest ≤ c
    newest_done v v_in = subst (λ (z : ℕ → Segment). (slot_of z v).newest ≤ c) (sym segs) (elim (cases_eq v t) [
      | inl at ↦ let a : (slot_of Done v).newest ≡ c = ap (λ (z : ℕ). (slot_of Done z).newest) at ∙ ap (λ (z : TableSlot). z.newest) own_done in omega (arith, a)
      | inr ne ↦
          let a : (slot_of Done v).newest ≡ (slot_of Segs v).newest = ap (λ (z : TableSlot). z.newest) (slot_other Segs Done t (with_header (committed c (t % SLOTS) S.header) S) (λ g. refl) (committed_other S (t % SLOTS) c) v ne) in
          let b = scn_above shape before v v_in in
          omega (arith, a, b, next)
    ])

    -- the commit's number is the file's
    pub scn_committed : commit_scn shape now ≡ c
    scn_committed =
        let low = scn_least shape now c newest_done in
        let own : (slot_of (segments_of shape now) t).newest ≡ c = ap (λ (z : ℕ → Segment). (slot_of z t).newest) segs ∙ ap (λ (z : TableSlot). z.newest) own_done in
        let high = scn_above shape now t t_in in
        omega (arith, low, own, high)

    wraps_done : (g i : ℕ) → wraps_of Segs g i ≤ wraps_of Done g i
    wraps_done g i = let a = wraps_same Segs Done t (with_header (committed c (t % SLOTS) S.header) S) (λ g. refl) (committed_other S (t % SLOTS) c) (ap (λ (z : TableSlot). z.wrap) (committed_own S (t % SLOTS) c slot_within)) g i in omega (arith, a)

    pub commit_moves : (slot_of Segs t).state ≡ 1 → (past2 : Past) (lives2 : List (List Change)) → past2.rows ≡ past.rows → StandingAs shape c (logged_of shape before + 1) Done (homes_of shape before) past2 lives2 → Standing shape now past2 lives2
    commit_moves active past2 lives2 rows stands =
        let fall = owed_committed shape (commit_scn shape before) (logged_of shape before) Segs (homes_of shape before) past lives stand.stands t t_in active c in
        moved_stands shape Head before now is.group head_within past lives stand c Done (homes_of shape before) past2 lives2 scn_committed segs
        (λ b b_in. home_stays shape before now b (block_stays shape Head before now is.group b (no_rows b b_in)))
        (λ b b_in. stays_sound shape Head before now is.group head_within past lives stand c Done (omega (arith, next)) wraps_done b b_in (no_rows b b_in))
        (omega (arith, fall, stand.ahead)) rows stands

    pub commit_keeps : Running shape Segs → (slot_of Segs t).state ≡ 1 → c ≤ logged_of shape before + 1 → Standing shape now (committed_past Segs t c past lives) (set lives t []) × Running shape (segments_of shape now)
    commit_keeps running active logs = (
      commit_moves active (committed_past Segs t c past lives) (set lives t []) refl (standing_committed shape (commit_scn shape before) (logged_of shape before) Segs (homes_of shape before) past lives stand.stands t t_in active running c next logs),
      subst (Running shape) (sym segs) (running_committed shape (commit_scn shape before) (logged_of shape before) Segs (homes_of shape before) past lives stand.stands t t_in active running c next logs),
    )

  module _ (active : (slot_of Segs t).state ≡ 1) (empty : own lives t ≡ []) (is : IsEnded shape t before now) where
    abbrev Ended : ℕ → Segment
    Ended = ended_segments t Segs

    segs_ended : segments_of shape now ≡ Ended
    segs_ended = segments_ended shape t before now is

    pub scn_ended : commit_scn shape now ≡ commit_scn shape before
    scn_ended = scn_same shape before now (λ v v_in.
        ap (λ (z : ℕ → Segment). (slot_of z v).newest) segs_ended
        ∙ newest_same Segs Ended t (with_header (ended (t % SLOTS) S.header) S) (λ g. refl) (ended_other S (t % SLOTS) slot_within active) (ap (λ (z : TableSlot). z.newest) (ended_slot S (t % SLOTS) slot_within active)) v)

    wraps_ended : (g i : ℕ) → wraps_of Segs g i ≤ wraps_of Ended g i
    wraps_ended g i = let a = wraps_same Segs Ended t (with_header (ended (t % SLOTS) S.header) S) (λ g. refl) (ended_other S (t % SLOTS) slot_within active) (ended_wrap S (t % SLOTS) slot_within active (t % SLOTS)) g i in omega (arith, a)

    pub end_moves : (past2 : Past) (lives2 : List (List Change)) → past2.rows ≡ past.rows → StandingAs shape (commit_scn shape before) (logged_of shape before + 1) Ended (homes_of shape before) past2 lives2 → Standing shape now past2 lives2
    end_moves past2 lives2 rows stands =
        let fall = owed_ended shape (commit_scn shape before) (logged_of shape before) Segs (homes_of shape before) past lives stand.stands t t_in active empty in
        moved_stands shape Head before now is.group head_within past lives stand (commit_scn shape before) Ended (homes_of shape before) past2 lives2 scn_ended segs_ended
        (λ b b_in. home_stays shape before now b (block_stays shape Head before now is.group b (no_rows b b_in)))
        (λ b b_in. stays_sound shape Head before now is.group head_within past lives stand (commit_scn shape before) Ended (omega arith) wraps_ended b b_in (no_rows b b_in))
        (omega (arith, fall, stand.ahead)) rows stands

    pub end_keeps : Standing shape now past (set lives t []) × (Running shape Segs → Running shape (segments_of shape now))
    end_keeps = (
      end_moves past (set lives t []) refl (standing_ended shape (commit_scn shape before) (logged_of shape before) Segs (homes_of shape before) past lives stand.stands t t_in active empty),
      λ running. subst (Running shape) (sym segs_ended) (running_ended shape (commit_scn shape before) (logged_of shape before) Segs (homes_of shape before) past lives stand.stands t t_in active empty running),
    )
