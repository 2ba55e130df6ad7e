-- A write keeps what the blocks of a file stand for with the machine's state.
use Rattle.std.proofs.Common.{◌≡◌, ◌<◌, ◌≤◌, ◌==◌, ◌+◌, ◌-◌, ◌*◌, ◌/◌, ◌%◌, ℕ, Bool, if◌then◌else◌, List, length, Some, refl, sym, ◌∙◌, ap, arith}
use Rattle.std.proofs.Math.Nat.{mod-lt}
use Rattle.std.proofs.lemmas.Nat.{mod-mul-add}
use Rattle.rb_base.specs.declared.sizes.TheConstants.{SLOTS}
use Rattle.rb_base.specs.Blocks.{block_of, table_blocks}
use Rattle.rb_base.specs.declared.ids.Uba.{Uba}
use Rattle.rb_base.specs.declared.ids.Xid.{Xid}
use Rattle.rb_heap.specs.Cleaning.{cleaned_home}
use Rattle.rb_heap.specs.Homes.{home_of}
use Rattle.rb_model.specs.Book.{Owner}
use Rattle.rb_model.specs.Change as model
use Rattle.rb_model.specs.Change.{Kind}
use Rattle.rb_model.specs.State.{State, owner_at}
use Rattle.rb_segment.specs.Header.{Segment}
use Rattle.rb_segment.specs.Segments.{commit_scn}
use Rattle.law_blocks.specs.BlockLaws.{HasRoomFor}
use Rattle.law_blocks.specs.NextStates.{SameChange, Takes, after_write}
use Rattle.law_blocks.specs.Says.{says, xid_by}
use Rattle.law_blocks.specs.Standing.{env_of, homes_of, logged_of, segments_of}
use Rattle.law_blocks.specs.States.{BlocksStand, BlocksStandAs, Owns, lives_of, past_of}
use Rattle.law_blocks.specs.Values.{slot_of}
use Rattle.law_blocks.specs.Writing.{IsNotHeld, IsWritten}
use Rattle.law_blocks.proofs.BlocksAs.{blocks_as}
use Rattle.law_blocks.proofs.BlocksMachine.{told_blocks}
use Rattle.law_blocks.proofs.BlocksWritten.{xid_after}
use Rattle.law_blocks.proofs.MachineWritten.{owner_own, stands_written, xid_stays}
use Rattle.law_blocks.proofs.WriteMoves as write
use Rattle.rb_undoblock.specs.declared.record.UndoRecord.{UndoRecord}
use Rattle.law_home.specs.Walk.{Change, Home}

module _ (h : State) (xids : List Xid) (before now : List (List ℕ)) (s t : ℕ) (adds : Bool) (c : model.Change) (kind : Kind) (address : Uba) (u : UndoRecord) (t_in : t < SLOTS * h.shape.segments) (s_in : (1 ≤ s) × (s ≤ length h.sessions)) (stand : BlocksStand h xids before) (takes : Takes h (segments_of h.shape before) s t) (home_in : u.home < table_blocks h.shape)
    (free : IsNotHeld (cleaned_home (env_of h.shape before).look (home_of (block_of before u.home))) (record { seg = t / SLOTS; slot = t % SLOTS; wrap = u.wrap }) u.key) (is : IsWritten h.shape t adds kind address u before now) (same : SameChange h.shape c kind address u) (room : HasRoomFor h.shape before t) where
  abbrev Segs : ℕ → Segment
  Segs = segments_of h.shape before

  abbrev Lives : List (List Change)
  Lives = lives_of h (env_of h.shape before)

  abbrev Next : State
  Next = after_write h s t (slot_of Segs t).state c

  -- the key is one of this home
  key_here : u.key % h.shape.blocks ≡ u.home % h.shape.blocks
  key_here =
      let some : 0 < h.shape.blocks = let a = stand.tell.in_range.few_blocks.0 in omega (arith, a) in
      ap (λ (z : ℕ). z % h.shape.blocks) same.key
      ∙ (sym (mod-mul-add (c.table - 1) h.shape.blocks (c.key % h.shape.blocks) (mod-lt c.key some)) ∙ ap (λ (z : ℕ). z % h.shape.blocks) (sym same.home))

  abbrev After : ℕ → Segment
  After = write.After h.shape before now (past_of h xids) Lives stand.standing stand.tell.running t t_in adds kind address u home_in is free key_here

  abbrev Homes2 : ℕ → Home
  Homes2 = write.Homes2 h.shape before now (past_of h xids) Lives stand.standing stand.tell.running t t_in adds kind address u home_in is free key_here

  values : BlocksStandAs Next xids (commit_scn h.shape before) (logged_of h.shape before + 1) After Homes2
  values = stands_written h xids (commit_scn h.shape before) (logged_of h.shape before) Segs (homes_of h.shape before) (blocks_as h xids before stand) After Homes2 s t c kind address u t_in s_in takes
      (write.values h.shape before now (past_of h xids) Lives stand.standing stand.tell.running t t_in adds kind address u home_in is free key_here) same

  pub write_keeps_machine : BlocksStand Next xids now
  write_keeps_machine = told_blocks Next xids now After
      (write.moved h.shape before now (past_of h xids) Lives stand.standing stand.tell.running t t_in adds kind address u home_in is free key_here) values.tell
      (write.write_moves h.shape before now (past_of h xids) Lives stand.standing stand.tell.running t t_in adds kind address u home_in is free key_here room (past_of Next xids) (lives_of Next (says h.shape After)) refl values.stands)

  -- the session owns the slot then,
  pub owns_after : Owns Next s t
  owns_after =
      let own = owner_own h xids (commit_scn h.shape before) (logged_of h.shape before) Segs (homes_of h.shape before) (blocks_as h xids before stand) After Homes2 s t c kind address u t_in s_in takes
      (write.values h.shape before now (past_of h xids) Lives stand.standing stand.tell.running t t_in adds kind address u home_in is free key_here) same in
      record { owner = own.0; at = own.1; session = own.2 }

  -- under the id of the record,
  pub id_after : xid_by (segments_of h.shape now) t ≡ record { seg = t / SLOTS; slot = t % SLOTS; wrap = u.wrap }
  id_after =
      ap (λ (z : ℕ → Segment). xid_by z t) (write.moved h.shape before now (past_of h xids) Lives stand.standing stand.tell.running t t_in adds kind address u home_in is free key_here)
      ∙ xid_after h.shape before now (past_of h xids) Lives stand.standing stand.tell.running t t_in adds kind address u home_in is

  -- and each slot that was owned keeps its own,
  pub ids_after : (v : ℕ) (o : Owner) → v < SLOTS * h.shape.segments → owner_at h v ≡ Some o → xid_by (segments_of h.shape now) v ≡ xid_by Segs v
  ids_after v o v_in at =
      ap (λ (z : ℕ → Segment). xid_by z v) (write.moved h.shape before now (past_of h xids) Lives stand.standing stand.tell.running t t_in adds kind address u home_in is free key_here)
      ∙ xid_stays h xids (commit_scn h.shape before) (logged_of h.shape before) Segs (homes_of h.shape before) (blocks_as h xids before stand) After Homes2 s t c kind address u t_in s_in takes
      (write.values h.shape before now (past_of h xids) Lives stand.standing stand.tell.running t t_in adds kind address u home_in is free key_here) same v o v_in at
