-- The put back of a session's newest live change: in blocks that stand for the machine's state it can be done, and they
-- then stand with that change less.
use Rattle.std.proofs.Common.{◌≡◌, inl, inr, ◌<◌, ◌≤◌, ◌+◌, ◌*◌, ◌/◌, ◌%◌, ◌++◌, ℕ, List, [], ◌∷◌, length, Some, refl, sym, ◌∙◌, ap, subst, arith}
use Rattle.std.proofs.Math.Nat.{div-add-mod}
use Rattle.rb_undoblock.specs.declared.record.TheConstants.{UNDO_RECORDS}
use Rattle.rb_itl.specs.declared.slots.TheConstants.{ENTRIES}
use Rattle.rb_cell.specs.declared.cell.TheConstants.{CELLS}
use Rattle.rb_write.specs.Asks.{header_in}
use Rattle.rb_base.specs.Blocks.{after_group, block_of, shape_blocks, table_blocks}
use Rattle.rb_base.specs.Groups.{IsGroup}
use Rattle.rb_base.specs.declared.ids.Uba.{Uba}
use Rattle.rb_base.specs.declared.ids.Xid.{Xid}
use Rattle.rb_base.specs.declared.sizes.TheConstants.{ACTIVE, SLOTS}
use Rattle.law_crash.proofs.Owners.{owns_of}
use Rattle.rb_model.specs.Calls.{Owned}
use Rattle.rb_model.specs.Change as model
use Rattle.rb_model.specs.State.{State, session_own}
use Rattle.rb_restart.proofs.Backs.{back_group, patches_back}
use Rattle.rb_restart.proofs.Slots.{slot_is, xid_is, xid_of}
use Rattle.rb_segment.specs.Calls.{Runs}
use Rattle.rb_segment.specs.Header.{Segment, record_in}
use Rattle.rb_segment.specs.Segments.{commit_scn}
use Rattle.law_blocks.specs.Groups.{IsPutBack, last_record}
use Rattle.law_blocks.proofs.StandingBack.{xid_back}
use Rattle.law_crash.specs.Made.{BackMade}
use Rattle.rb_model.specs.NextState.{with_own}
use Rattle.law_blocks.specs.Says.{xid_by}
use Rattle.law_blocks.specs.Standing.{env_of, homes_of, logged_of, segments_of}
use Rattle.law_blocks.specs.States.{BlocksStand, Owns, lives_of, newest_first, past_of, walk_change}
use Rattle.law_blocks.specs.Values.{IsSaved, Listed, slot_of, wraps_of, xid_in}
use Rattle.law_blocks.proofs.Addresses.{listed_reads}
use Rattle.law_blocks.proofs.BlocksAs.{blocks_as}
use Rattle.law_blocks.proofs.BlocksBack as back
use Rattle.law_blocks.proofs.Ids.{active_of}
use Rattle.law_blocks.proofs.MachineBack.{newest_is}
use Rattle.law_blocks.proofs.MachineBlocks.{machine_back}
use Rattle.rb_txntable.specs.declared.slots.TableSlot.{TableSlot}
use Rattle.rb_undo.specs.Backs.{newest_of, newest_record, CanBack, TakesBack}
use Rattle.rb_undoblock.specs.Undo.{undo_at}
use Rattle.rb_undoblock.specs.declared.record.UndoRecord.{UndoRecord}
use Rattle.law_home.specs.Walk.{Change, own}

-- The record of a session's last change c, whose slot is t.
record Newest (h : State) (blocks : List (List ℕ)) (t wrap : ℕ) (c : model.Change) : Type 0 where
  u : UndoRecord
  there : record_in (segments_of h.shape blocks (t / SLOTS)) c.place.index ≡ Some u
  can : CanBack h.shape blocks (xid_of t wrap)
  read : newest_record h.shape blocks (xid_of t wrap) ≡ u
  reads : last_record h.shape blocks t ≡ u

module _ (h : State) (xids : List Xid) (before : List (List ℕ)) (stand : BlocksStand h xids before) (s t wrap : ℕ) (t_in : t < SLOTS * h.shape.segments) (owns : Owns h s t) (front : List model.Change) (c : model.Change) (runs : Runs (header_in h.shape before (t / SLOTS)) (xid_of t wrap)) (own_is : session_own h s ≡ front ++ c ∷ []) where
  abbrev Segs : ℕ → Segment
  Segs = segments_of h.shape before

  abbrev S : Segment
  S = Segs (t / SLOTS)

  abbrev X : Xid
  X = xid_of t wrap

  abbrev Lives : List (List Change)
  Lives = lives_of h (env_of h.shape before)

  abbrev Last : Change
  Last = walk_change h.shape (xid_by Segs t) (1 + length front) c

  abbrev More : List Change
  More = newest_first h.shape (xid_by Segs t) 1 front []

  has : own Lives t ≡ Last ∷ More
  has = newest_is h xids (commit_scn h.shape before) (logged_of h.shape before) Segs (homes_of h.shape before) (blocks_as h xids before stand) s t t_in owns front c own_is

  active : (slot_of Segs t).state ≡ ACTIVE
  active = active_of h Segs stand.tell.books t t_in owns.owner owns.at

  newest : Newest h before t wrap c
  newest =
      let Saved : UndoRecord → Type 0 = IsSaved h.shape (commit_scn h.shape before) (wraps_of Segs) in
      let at = (slot_of Segs t).newest_at in
      let listed : Listed h.shape S (xid_in (t / SLOTS) S (t % SLOTS)) Saved at (Last ∷ More) =
      subst (λ (z : List Change). Listed h.shape S (xid_in (t / SLOTS) S (t % SLOTS)) Saved at z) has ((stand.standing.stands.slots t t_in).active active).listed in
      let u = listed.4.0 in
      let same : at ≡ newest_of h.shape before X = ap (λ (z : TableSlot). z.newest_at) (slot_is h.shape before t wrap) in
      let reads : undo_at (block_of before at.block) at.rec ≡ u = listed_reads h.shape before (xid_in (t / SLOTS) S (t % SLOTS)) Saved at Last More u listed listed.4.1 in
      let read : newest_record h.shape before X ≡ u = ap (λ (z : Uba). undo_at (block_of before z.block) z.rec) (sym same) ∙ reads in
      let g_in = div-add-mod t SLOTS in
      record {
        u = u;
        there = listed.4.1;
        can = record {
          runs = runs;
          live = let count = ((stand.standing.stands.slots t t_in).active active).count in let l = ap length has in let at = ap (λ (z : TableSlot). z.live) (slot_is h.shape before t wrap) in omega (arith, count, l, at);
          some = subst (λ (z : Uba). 1 ≤ z.ord) same listed.0;
          block = subst (λ (z : Uba). z.block < shape_blocks h.shape) same (omega (arith, listed.1.within, g_in, t_in));
          place = subst (λ (z : Uba). z.rec < UNDO_RECORDS) same listed.1.rec;
          home = subst (λ (z : UndoRecord). z.home < table_blocks h.shape) (sym read) listed.4.6.there;
          entry = subst (λ (z : UndoRecord). z.entry < ENTRIES) (sym read) listed.4.6.entry;
          cell = subst (λ (z : UndoRecord). z.cell < CELLS) (sym read) listed.4.6.cell;
        };
        read = read;
        reads = reads;
      }

  can_at : CanBack h.shape before X
  can_at = newest.can

  module _ (now : List (List ℕ)) (valid : IsGroup (back_group h.shape before X)) (made : now ≡ after_group (logged_of h.shape before + 1) (back_group h.shape before X) before) (takes : TakesBack h.shape X (newest_record h.shape before X) before now) where
    at_home : (newest_record h.shape before X).home ≡ newest.u.home
    at_home = ap (λ (u : UndoRecord). u.home) newest.read

    puts : IsPutBack h.shape t newest.u before now
    puts =
        let taken = subst (λ (u : UndoRecord). TakesBack h.shape X u before now) newest.read takes in
        record {
          group = record {
            patches = back_group h.shape before X;
            some = omega arith;
            each = valid.each;
            only = (inl at_home, (inl at_home, (inr refl, tt)));
            made = made;
          };
          home = taken.home;
          short = taken.short;
          header = taken.header;
          patches = patches_back h.shape t wrap newest.u before now newest.read taken.header;
        }

    stands_at : BlocksStand (with_own h s front) xids now
    stands_at = machine_back h xids before now s t newest.u front c t_in stand owns own_is newest.there puts

    ids_at : (v : ℕ) → (env_of h.shape now).xid v ≡ (env_of h.shape before).xid v
    ids_at v = xid_back h.shape (commit_scn h.shape before) (logged_of h.shape before) Segs (homes_of h.shape before) (past_of h xids) Lives stand.standing.stands (back.Homes2 h.shape before now (past_of h xids) Lives t newest.u Last More stand.tell.in_range t_in stand.standing has newest.there puts) t newest.u t_in (segments_of h.shape now) (back.put_values h.shape before now (past_of h xids) Lives t newest.u Last More stand.tell.in_range t_in stand.standing has newest.there puts) Last More has v

    logged_at : logged_of h.shape now ≡ logged_of h.shape before + 1
    logged_at = back.logged h.shape before now (past_of h xids) Lives t newest.u Last More stand.tell.in_range t_in stand.standing has newest.there puts

-- What the put back of a transaction's newest change is, where the session's changes are then those.
pub record BackIs (h : State) (xids : List Xid) (before : List (List ℕ)) (s : ℕ) (front : List model.Change) (x : Xid) : Type 0 where
  pub can : CanBack h.shape before x
  pub after : (now : List (List ℕ)) → IsGroup (back_group h.shape before x) → now ≡ after_group (logged_of h.shape before + 1) (back_group h.shape before x) before → TakesBack h.shape x (newest_record h.shape before x) before now
      → BackMade h xids s front before now

pub back_is : (h : State) (xids : List Xid) (before : List (List ℕ)) → BlocksStand h xids before → (s : ℕ) (x : Xid) → x.seg < h.shape.segments → x.slot < SLOTS → Owned h s x.seg x.slot → Runs (header_in h.shape before x.seg) x → (front : List model.Change) (c : model.Change) → session_own h s ≡ front ++ c ∷ [] → BackIs h xids before s front x
back_is h xids before stand s x there few owned runs front c own_is =
    let t = SLOTS * x.seg + x.slot in
    let t_in : t < SLOTS * h.shape.segments = omega (arith, there, few) in
    let owns : Owns h s t = owns_of h s x.seg x.slot owned in
    let running : Runs (header_in h.shape before (t / SLOTS)) (xid_of t x.wrap) = subst (λ (z : Xid). Runs (header_in h.shape before z.seg) z) (xid_is x few) runs in
    subst (BackIs h xids before s front) (sym (xid_is x few)) (record {
      can = can_at h xids before stand s t x.wrap t_in owns front c running own_is;
      after = λ now valid made takes. record {
        stand = stands_at h xids before stand s t x.wrap t_in owns front c running own_is now valid made takes;
        last = logged_at h xids before stand s t x.wrap t_in owns front c running own_is now valid made takes;
        ids = λ r v mine. ids_at h xids before stand s t x.wrap t_in owns front c running own_is now valid made takes v;
        slot = t;
        owns = owns;
        change = c;
        own = own_is;
        undo = (newest h xids before stand s t x.wrap t_in owns front c running own_is).u;
        there = (newest h xids before stand s t x.wrap t_in owns front c running own_is).there;
        newest = (newest h xids before stand s t x.wrap t_in owns front c running own_is).reads;
        group = puts h xids before stand s t x.wrap t_in owns front c running own_is now valid made takes;
      };
    })
