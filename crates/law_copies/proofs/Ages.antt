-- Each kind of group leaves the segments that the blocks of a file hold older, by the record of the call that made it.
use Rattle.std.proofs.Common.{◌≡◌, ◌⊎◌, inl, inr, ◌<◌, ◌≤◌, ◌*◌, ◌/◌, ◌%◌, ◌+◌, [], ℕ, Bool, List, length, ◌∙◌, ap, refl, sym, subst, arith}
use Rattle.std.proofs.Math.Nat.{div-add-mod}
use Rattle.rb_base.specs.declared.sizes.TheConstants.{SLOTS}
use Rattle.law_aging.specs.Kept.{SegmentsAge}
use Rattle.rb_base.specs.Blocks.{header_block, table_blocks}
use Rattle.rb_base.specs.declared.ids.Uba.{Uba}
use Rattle.rb_base.specs.declared.ids.Xid.{Xid}
use Rattle.law_crash.specs.Made.{BackMade, CommitMade, EndMade, WriteMade}
use Rattle.rb_model.specs.Calls.{Action, Owned, adds_now}
use Rattle.rb_model.specs.Change as model
use Rattle.rb_model.specs.Change.{Kind}
use Rattle.rb_model.specs.NextState.{change_in, kind_by, written}
use Rattle.rb_model.specs.Rows.{last_scn}
use Rattle.rb_model.specs.State.{State}
use Rattle.rb_segment.specs.Header.{Segment, SegmentInOrder, slot_in}
use Rattle.rb_segment.specs.Moves.{SegmentAges}
use Rattle.rb_segment.specs.Segments.{commit_scn}
use Rattle.law_blocks.specs.Says.{xid_by}
use Rattle.law_blocks.specs.Standing.{env_of, homes_of, logged_of, segments_of}
use Rattle.law_blocks.specs.StandingLaws.{RunningAs}
use Rattle.law_blocks.specs.States.{BlocksStand, Owns, lives_of, newest_first, past_of, walk_change}
use Rattle.law_blocks.specs.Values.{slot_of}
use Rattle.law_blocks.specs.Writing.{IsWritten}
use Rattle.rb_undoblock.specs.declared.record.UndoRecord.{UndoRecord}
use Rattle.law_home.specs.Walk.{Change, Home}
use Rattle.law_aging.proofs.Aging.{anyway, at_one, done, over, put_back}
use Rattle.law_crash.proofs.Owners.{OwnedBy, owned_by, owns_of}
use Rattle.rb_segment.proofs.SegmentWritten.{written_ages}
use Rattle.law_blocks.proofs.BlocksAs.{blocks_as, commit_logged}
use Rattle.law_blocks.proofs.BlocksBack as back
use Rattle.law_blocks.proofs.Group.{block_stays}
use Rattle.law_blocks.proofs.Ids.{active_of}
use Rattle.law_blocks.proofs.MachineBack.{newest_is}
use Rattle.law_blocks.proofs.MachineDone.{last_commits}
use Rattle.law_blocks.proofs.SegmentRead.{segments_committed, segments_ended}
use Rattle.law_blocks.proofs.SegmentRecorded as segment
use Rattle.law_blocks.proofs.StandingWritten.{keeps_of, running_of, slot_few}
use Rattle.law_write.proofs.Presence.{owner_within}
use Rattle.law_write.proofs.Sites.{row_block}
use Rattle.law_write.proofs.StoodBlocks.{stood_of}

module _ (h : State) (xids : List Xid) (before now : List (List ℕ)) (stand : BlocksStand h xids before) where
  abbrev Segments : ℕ → Segment
  Segments = segments_of h.shape before

  abbrev Homes : ℕ → Home
  Homes = homes_of h.shape before

  abbrev Number : ℕ
  Number = commit_scn h.shape before

  abbrev Logged : ℕ
  Logged = logged_of h.shape before

  abbrev Lives : List (List Change)
  Lives = lives_of h (env_of h.shape before)

  abbrev Older : Type 0
  Older = SegmentsAge Segments (segments_of h.shape now)

  runs : RunningAs h.shape Number Logged Segments Homes (past_of h xids) Lives
  runs = record { stands = stand.standing.stands; running = stand.tell.running }

  -- the number of the blocks is that of the state's last commit
  number_is : Number ≡ last_scn h.commits
  number_is = stand.standing.stands.number ∙ last_commits h.shape h.commits.base h.commits.list xids [] stand.tell.counted refl

  -- the slot that a session has is there, and Active
  within : (s t : ℕ) → Owns h s t → t < SLOTS * h.shape.segments
  within s t owns = owner_within h xids Segments Homes (stood_of h xids before stand) t owns.owner owns.at

  active : (s t : ℕ) → Owns h s t → (slot_of Segments t).state ≡ 1
  active s t owns = active_of h Segments stand.tell.books t (within s t owns) owns.owner owns.at

  pub commit_ages : (s : ℕ) (x : Xid) → Owned h s x.seg x.slot → CommitMade h xids s x before now → Older
  commit_ages s x owned made =
      let t = SLOTS * x.seg + x.slot in
      let owns : Owns h s t = owns_of h s x.seg x.slot owned in
      subst (SegmentsAge Segments) (sym (segments_committed h.shape t (last_scn h.commits + 1) before now made.group))
      (done h.shape Number Logged t (last_scn h.commits + 1) Segments Homes (past_of h xids) Lives (within s t owns) runs (active s t owns)
      (let a = number_is in omega (arith, a)) (let a = number_is in let b = commit_logged h.shape before (past_of h xids) Lives stand.standing in omega (arith, a, b)))

  pub end_ages : (s : ℕ) (x : Xid) → Owned h s x.seg x.slot → EndMade h xids s x before now → Older
  end_ages s x owned made =
      let t = SLOTS * x.seg + x.slot in
      let owns : Owns h s t = owns_of h s x.seg x.slot owned in
      subst (SegmentsAge Segments) (sym (segments_ended h.shape t before now made.group))
      (over h.shape Number Logged t Segments Homes (past_of h xids) Lives (within s t owns) stand.standing.stands (active s t owns))

  pub back_ages : (s : ℕ) (front : List model.Change) → BackMade h xids s front before now → Older
  back_ages s front made =
      let t = made.slot in
      let u = made.undo in
      let t_in : t < SLOTS * h.shape.segments = within s t made.owns in
      let last = walk_change h.shape (xid_by Segments t) (1 + length front) made.change in
      let more = newest_first h.shape (xid_by Segments t) 1 front [] in
      let mine = newest_is h xids Number Logged Segments Homes (blocks_as h xids before stand) s t t_in made.owns front made.change made.own in
      put_back h.shape Number Logged t Segments (segments_of h.shape now) Homes (back.Homes2 h.shape before now (past_of h xids) Lives t u last more stand.tell.in_range t_in stand.standing mine made.there made.group) (past_of h xids) Lives u t_in stand.standing.stands
      (back.put_values h.shape before now (past_of h xids) Lives t u last more stand.tell.in_range t_in stand.standing mine made.there made.group)

  -- a write into slot t, by its record
  recorded_ages : (t : ℕ) → t < SLOTS * h.shape.segments → (more : Bool) (kind : Kind) (address : Uba) (u : UndoRecord) → u.home < table_blocks h.shape → IsWritten h.shape t more kind address u before now → Older
  recorded_ages t t_in more kind address u home_in is =
      let g = t / SLOTS in
      let g_in : g < h.shape.segments = let a = div-add-mod t SLOTS in omega (arith, a, t_in) in
      let order : SegmentInOrder Number Logged (Segments g) = stand.standing.stands.in_order g g_in in
      let made : Segment = segment.Made h.shape t address u before now Number Logged order is.recorded in
      let moved = segment.segments_recorded h.shape t address u before now Number Logged order is.recorded (λ b behind no_head no_undo. block_stays h.shape (λ k. (k ≡ u.home) ⊎ (k ≡ header_block h.shape g) ⊎ (k ≡ address.block)) before now is.group b (λ at. elim at [
        | inl home ↦ omega (arith, home, home_in, behind)
        | inr other ↦ elim other [ inl head ↦ no_head head | inr undo ↦ no_undo undo ]
      ])) in
      let ages : SegmentAges (λ j. (slot_in (Segments g).header j).state ≡ 1) (Segments g) made =
      written_ages (Segments g) (t % SLOTS) address u made (segment.recorded h.shape t address u before now Number Logged order is.recorded) Number Logged order (slot_few t)
      (keeps_of h.shape Number Logged Segments Homes (past_of h xids) Lives stand.standing.stands stand.tell.running g g_in)
      (running_of h.shape Number Logged Segments Homes (past_of h xids) Lives stand.standing.stands stand.tell.running g g_in) is.recorded.slot (segment.made_wrap h.shape t address u before now Number Logged order is.recorded) in
      at_one Segments (segments_of h.shape now) g made (λ k. ap (λ (f : ℕ → Segment). f k) moved) (anyway (λ j. (slot_in (Segments g).header j).state ≡ 1) (Segments g) made ages)

  pub write_ages : (s table key : ℕ) (action : Action) (x : Xid) → 1 ≤ table → table ≤ h.shape.tables → WriteMade h xids s table key action x before now → Older
  write_ages s table key action x first few made =
      let after : State = written h s x.seg x.slot (change_in h x.seg table key action) in
      let id : OwnedBy after now s x = owned_by after xids now s x made.stand made.id in
      let there : x.seg < h.shape.segments = id.there in
      let low : x.slot < SLOTS = id.few in
      let home_in : made.undo.home < table_blocks h.shape = subst (λ (b : ℕ). b < table_blocks h.shape) (sym made.of_home) (row_block h.shape table key stand.tell.in_range.few_blocks.0 first few) in
      recorded_ages (SLOTS * x.seg + x.slot) (omega (arith, there, low)) (adds_now h s table key action) (kind_by action) made.address made.undo home_in made.group
