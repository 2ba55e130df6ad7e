-- A write keeps what segments and homes stand for, with one live change more.
use Rattle.std.proofs.Common.{◌≡◌, ◌≢◌, inl, inr, ◌<◌, ◌≤◌, ◌==◌, ◌+◌, ◌*◌, ◌/◌, ◌%◌, ℕ, suc, true, false, nat_lt, List, [], ◌∷◌, length, set, Some, refl, sym, ◌∙◌, ap, subst, arith}
use Rattle.std.proofs.lemmas.Bool.{cases_eq, cases_lt}
use Rattle.std.proofs.lemmas.Bool.Decides.{nat_tests}
use Rattle.std.proofs.lemmas.List.{get_or-set_same, get_or-set_other, length-set, get_or_past}
use Rattle.std.proofs.Math.Nat.{div-add-mod, mod-lt}
use Rattle.rb_base.specs.declared.sizes.TheConstants.{SLOTS}
use Rattle.rb_base.specs.Addresses.{no_uba}
use Rattle.rb_base.specs.declared.ids.Uba.{Uba}
use Rattle.rb_base.specs.declared.ids.Xid.{Xid}
use Rattle.rb_base.specs.declared.shape.Shape.{Shape}
use Rattle.rb_model.specs.Change.{Kind, Place}
use Rattle.rb_segment.specs.Header.{Segment, slot_in, head_turn, record_in, SegmentInOrder}
use Rattle.rb_segment.specs.Moves.{SegmentAges, IsAddress, added_slot}
use Rattle.rb_segment.specs.Running.{KeepsRecords, RunningSlot}
use Rattle.law_blocks.specs.Says.{says, walk_record, walk_undo, place_of}
use Rattle.law_blocks.specs.Seen.{Goes}
use Rattle.law_blocks.specs.Values.{Past, HomesStand, SlotStands, IsSaved, Listed, xid_in, StandingAs, Running, slot_of, wraps_of}
use Rattle.law_blocks.specs.Writes.{Written, change_made}
use Rattle.rb_txntable.specs.Looks.{slot_look}
use Rattle.rb_txntable.specs.Slots.{no_slot}
use Rattle.rb_txntable.specs.declared.slots.TableSlot.{TableSlot}
use Rattle.rb_undoblock.specs.declared.record.UndoRecord.{UndoRecord}
use Rattle.law_home.specs.Walk.{Change, Home, own}
use Rattle.rb_segment.proofs.Later.{numbers_later}
use Rattle.rb_segment.proofs.Moments.{ages_fewer, ages_same}
use Rattle.rb_segment.proofs.SegmentWritten.{written_addresses, written_ages, written_found, written_order, other_slot_same, own_slot, keeps_other, keeps_own, state_own, wraps_up, newest_same, slot_claimed, running_own, running_other}
use Rattle.rb_segment.proofs.WithSegment.{one_ages, at_segment, off_segment}
use Rattle.law_blocks.proofs.HomesWritten.{homes_write}
use Rattle.law_blocks.proofs.Listed.{saved_later, listed_later}
use Rattle.law_blocks.proofs.Seen.{one_slot, one_xid}
use Rattle.law_home.proofs.Lives.{own_within}
use Rattle.rb_txntable.specs.declared.looks.Look.TheVariants as looks

-- the slots of a segment, counted over all
pub slot_number : (g i : ℕ) → i < SLOTS → ((SLOTS * g + i) / SLOTS ≡ g) × ((SLOTS * g + i) % SLOTS ≡ i)
slot_number g i few = let a = div-add-mod (SLOTS * g + i) SLOTS in let b = mod-lt (SLOTS * g + i) (sixteen) in (omega (arith, a, b, few), omega (arith, a, b, few))
  where
    sixteen : 0 < SLOTS
    sixteen = omega arith

pub slot_few : (t : ℕ) → t % SLOTS < SLOTS
slot_few t = mod-lt t (sixteen)
  where
    sixteen : 0 < SLOTS
    sixteen = omega arith

-- a look of a slot's own wrap while it is Active
pub own_look : (slot : TableSlot) → slot.state ≡ 1 → slot_look slot slot.wrap ≡ looks.Active
own_look slot is = let a : nat_lt slot.wrap slot.wrap ≡ false = grind (arith, nat_tests) in let b : (slot.wrap == slot.wrap) ≡ true = grind (arith, nat_tests) in let c : (slot.state == 1) ≡ true = grind (arith, nat_tests) in rw (a, b, c) refl

module _ (shape : Shape) (commit logged : ℕ) (segments : ℕ → Segment) (homes : ℕ → Home) (past : Past) (lives : List (List Change)) (stand : StandingAs shape commit logged segments homes past lives) (running : Running shape segments) where
  -- the facts of a slot, by its segment
  slot_stands : (g i : ℕ) → g < shape.segments → i < SLOTS → SlotStands shape commit (wraps_of segments) g (segments g) i (own lives (SLOTS * g + i))
  slot_stands g i g_in few =
      let n = slot_number g i few in
      let at : SlotStands shape commit (wraps_of segments) ((SLOTS * g + i) / SLOTS) (segments ((SLOTS * g + i) / SLOTS)) ((SLOTS * g + i) % SLOTS) (own lives (SLOTS * g + i)) = stand.slots (SLOTS * g + i) (omega (arith, g_in, few)) in
      subst (λ (z : ℕ). SlotStands shape commit (wraps_of segments) g (segments g) z (own lives (SLOTS * g + i))) n.1 (subst (λ (z : ℕ). SlotStands shape commit (wraps_of segments) z (segments z) ((SLOTS * g + i) % SLOTS) (own lives (SLOTS * g + i))) n.0 at)

  active_few : (g j : ℕ) → g < shape.segments → (slot_in (segments g).header j).state ≡ 1 → j < SLOTS
  active_few g j g_in active = elim (cases_lt j SLOTS) [
    | inl few ↦ few
    | inr past ↦ let none : (slot_in (segments g).header j).state ≡ 0 = ap (λ (z : TableSlot). z.state) (get_or_past (segments g).header.slots j no_slot (omega (arith, past, (stand.in_order g g_in).header.slots_counted))) in absurd (omega (arith, none, active))
  ]

  pub keeps_of : (g : ℕ) → g < shape.segments → (j : ℕ) → (slot_in (segments g).header j).state ≡ 1 → KeepsRecords (segments g) j
  keeps_of g g_in j active = ((slot_stands g j g_in (active_few g j g_in active)).active active).keeps

  pub running_of : (g : ℕ) → g < shape.segments → (j : ℕ) → (slot_in (segments g).header j).state ≡ 1 → RunningSlot (segments g).header (slot_in (segments g).header j)
  running_of g g_in j active =
      let few = active_few g j g_in active in
      let n = slot_number g j few in
      let is : (slot_of segments (SLOTS * g + j)).state ≡ 1 = ap (λ (z : ℕ). (slot_in (segments z).header ((SLOTS * g + j) % SLOTS)).state) n.0 ∙ (ap (λ (z : ℕ). (slot_in (segments g).header z).state) n.1 ∙ active) in
      let at : RunningSlot (segments ((SLOTS * g + j) / SLOTS)).header (slot_in (segments ((SLOTS * g + j) / SLOTS)).header ((SLOTS * g + j) % SLOTS)) = running (SLOTS * g + j) (omega (arith, g_in, few)) is in
      subst (λ (z : ℕ). RunningSlot (segments g).header (slot_in (segments g).header z)) n.1 (subst (λ (z : ℕ). RunningSlot (segments z).header (slot_in (segments z).header ((SLOTS * g + j) % SLOTS))) n.0 at)

  -- what has live changes is Active
  pub goes_active : (g j : ℕ) → Goes lives g j → (slot_in (segments g).header j).state ≡ 1
  goes_active g j goes =
      let t_in : goes.0 < SLOTS * shape.segments = let a = own_within lives goes.0 goes.3.0 goes.3.1 goes.3.2 in omega (arith, a, stand.slots_counted) in
      let at = stand.slots goes.0 t_in in
      let is : (slot_of segments goes.0).state ≡ 1 = elim (cases_eq (slot_of segments goes.0).state 1) [
        | inl one ↦ one
        | inr ne ↦ let none : own lives goes.0 ≡ [] = at.idle ne in let some : own lives goes.0 ≡ goes.3.0 ∷ goes.3.1 = goes.3.2 in absurd (cc)
      ] in
      subst (λ (z : ℕ). (slot_in (segments g).header z).state ≡ 1) goes.2 (subst (λ (z : ℕ). (slot_in (segments z).header (goes.0 % SLOTS)).state ≡ 1) goes.1 is)

  module _ (homes2 : ℕ → Home) (t : ℕ) (kind : Kind) (address : Uba) (u : UndoRecord) (t_in : t < SLOTS * shape.segments) (after : ℕ → Segment) (w : Written shape commit segments after homes homes2 lives t kind address u) where
    abbrev G : ℕ
    G = t / SLOTS

    abbrev I : ℕ
    I = t % SLOTS

    abbrev S : Segment
    S = segments G

    abbrev S2 : Segment
    S2 = w.segment

    g_in : G < shape.segments
    g_in = let a = div-add-mod t SLOTS in omega (arith, a, t_in)

    i_few : I < SLOTS
    i_few = slot_few t

    order : SegmentInOrder commit logged S
    order = stand.in_order G g_in

    abbrev Longer : List (List Change)
    Longer = set lives t (change_made shape t kind address u ∷ own lives t)

    after_at : after G ≡ S2
    after_at = w.others G ∙ at_segment G S2 segments

    after_off : (k : ℕ) → k ≢ G → after k ≡ segments k
    after_off k ne = w.others k ∙ off_segment G k S2 segments ne

    ages : SegmentAges (λ j. (slot_in S.header j).state ≡ 1) S S2
    ages = written_ages S I address u S2 w.records commit logged order i_few (keeps_of G g_in) (running_of G g_in) w.slot w.wrap

    each : (k : ℕ) → SegmentAges (Goes lives k) (segments k) (after k)
    each k = subst (λ (z : Segment). SegmentAges (Goes lives k) (segments k) z) (sym (w.others k)) (one_ages (Goes lives) segments G S2 (ages_fewer (λ j. (slot_in S.header j).state ≡ 1) (Goes lives G) S S2 (goes_active G) ages) k)

    found : record_in S2 (S.header.writes + 1) ≡ Some u
    found = written_found S I address u S2 w.records commit logged order i_few (keeps_of G g_in) (running_of G g_in) w.slot w.wrap

    is_active : (slot_in S2.header I).state ≡ 1
    is_active = state_own S I address u S2 w.records commit logged order i_few (keeps_of G g_in) (running_of G g_in) w.slot w.wrap

    -- every home stands
    homes_after : HomesStand shape after homes2 past Longer
    homes_after = homes_write shape segments after past lives each homes homes2 t kind (walk_undo shape G u) (place_of shape address) (omega (arith, t_in, stand.slots_counted))
        (subst (λ (z : Segment). slot_look (slot_in z.header I) (slot_in z.header I).wrap ≡ looks.Active) (sym after_at) (own_look (slot_in S2.header I) is_active))
        (subst (λ (z : Place). (says shape after).store z ≡ Some (walk_undo shape G u)) (sym w.place) (subst (λ (z : Segment). walk_record shape G (record_in z (S.header.writes + 1)) ≡ Some (walk_undo shape G u)) (sym after_at) (ap (walk_record shape G) found)))
        (ap (λ (z : Place). z.seg) w.place) w.reads w.home w.homes_same stand.homes_stand

    -- wraps rise
    pub wraps_rise : (k j : ℕ) → wraps_of segments k j ≤ wraps_of after k j
    wraps_rise k j = elim (cases_eq k G) [
      | inl at ↦ subst (λ (z : ℕ). wraps_of segments z j ≤ wraps_of after z j) (sym at) (subst (λ (z : Segment). (slot_in S.header j).wrap ≤ (slot_in z.header j).wrap) (sym after_at) (wraps_up S I address u S2 w.records commit logged order i_few (keeps_of G g_in) (running_of G g_in) w.slot w.wrap j))
      | inr ne ↦ let a : wraps_of after k j ≡ wraps_of segments k j = ap (λ (z : Segment). (slot_in z.header j).wrap) (after_off k ne) in omega (arith, a)
    ]

    up : (q : UndoRecord) → IsSaved shape commit (wraps_of segments) q → IsSaved shape commit (wraps_of after) q
    up q saved = saved_later shape commit commit (wraps_of segments) (wraps_of after) q (omega arith) wraps_rise saved

    stay : (v : Uba) → IsAddress shape G S.header v → IsAddress shape G S2.header v
    stay v a = written_addresses S I address u S2 w.records commit logged order i_few (keeps_of G g_in) (running_of G g_in) w.slot w.wrap shape G v a

    -- the writer's slot
    own_stands : SlotStands shape commit (wraps_of after) G S2 I (change_made shape t kind address u ∷ own lives t)
    own_stands = record {
      active = λ is. record {
        count = ap (λ (z : TableSlot). z.live) the_slot ∙ live;
        start = let a = (running_own S I address u S2 w.records commit logged order i_few (keeps_of G g_in) (running_of G g_in) w.slot w.wrap).started in omega (arith, a);
        listed = subst (λ (z : Uba). Listed shape S2 (xid_in G S2 I) (IsSaved shape commit (wraps_of after)) z (change_made shape t kind address u ∷ own lives t)) (sym (ap (λ (z : TableSlot). z.newest_at) the_slot)) (
          w.there,
          w.given,
          refl,
          ap (λ (z : Place). z.seg) w.place,
          (u, ap (λ (z : Place). record_in S2 z.index) w.place ∙ found, w.slot, w.wrap, w.number, refl, w.saved, subst (λ (z : Uba). Listed shape S2 (xid_in G S2 I) (IsSaved shape commit (wraps_of after)) z (own lives t)) (sym w.previous) tail),
        );
        keeps = keeps_own S I address u S2 w.records commit logged order i_few (keeps_of G g_in) (running_of G g_in) w.slot w.wrap;
      };
      idle = λ ne. absurd (ne is_active);
    }
      where
        the_slot : slot_in S2.header I ≡ added_slot (head_turn w.records.room.header) address w.records.touched (slot_in w.records.ready.header I)
        the_slot = own_slot S I address u S2 w.records commit logged order i_few (keeps_of G g_in) (running_of G g_in) w.slot w.wrap

        before : SlotStands shape commit (wraps_of segments) G S I (own lives t)
        before = stand.slots t t_in

        live : (slot_in w.records.ready.header I).live + 1 ≡ suc (length (own lives t))
        live = elim w.records.is_ready [
          | inl own_one ↦ let a : (slot_in w.records.ready.header I).live ≡ (slot_in S.header I).live = ap (λ (z : Segment). (slot_in z.header I).live) own_one.1 in let b = (before.active own_one.0).count in omega (arith, a, b)
          | inr free ↦ let a : (slot_in w.records.ready.header I).live ≡ 0 = ap (λ (z : TableSlot). z.live) (slot_claimed S I address u S2 w.records commit logged order i_few (keeps_of G g_in) (running_of G g_in) w.slot w.wrap free.0 free.1) in let b : length (own lives t) ≡ 0 = ap length (before.idle free.0) in omega (arith, a, b)
        ]

        tail : Listed shape S2 (xid_in G S2 I) (IsSaved shape commit (wraps_of after)) (slot_in w.records.ready.header I).newest_at (own lives t)
        tail = elim w.records.is_ready [
          | inl own_one ↦
              let at : (slot_in w.records.ready.header I).newest_at ≡ (slot_in S.header I).newest_at = ap (λ (z : Segment). (slot_in z.header I).newest_at) own_one.1 in
              let x : xid_in G S I ≡ xid_in G S2 I = one_xid (xid_in G S I) (xid_in G S2 I) refl refl (sym (ages.wrap I own_one.0)) in
              subst (λ (z : Uba). Listed shape S2 (xid_in G S2 I) (IsSaved shape commit (wraps_of after)) z (own lives t)) (sym at) (subst (λ (z : Xid). Listed shape S2 z (IsSaved shape commit (wraps_of after)) (slot_in S.header I).newest_at (own lives t)) x (listed_later shape (λ j. (slot_in S.header j).state ≡ 1) S S2 (xid_in G S I) (IsSaved shape commit (wraps_of segments)) (IsSaved shape commit (wraps_of after)) ages own_one.0 refl up stay (slot_in S.header I).newest_at (own lives t) (before.active own_one.0).listed))
          | inr free ↦
              let at : (slot_in w.records.ready.header I).newest_at ≡ no_uba = ap (λ (z : TableSlot). z.newest_at) (slot_claimed S I address u S2 w.records commit logged order i_few (keeps_of G g_in) (running_of G g_in) w.slot w.wrap free.0 free.1) in
              subst (λ (z : List Change). Listed shape S2 (xid_in G S2 I) (IsSaved shape commit (wraps_of after)) (slot_in w.records.ready.header I).newest_at z) (sym (before.idle free.0)) (ap (λ (z : Uba). z.ord) at)
        ]

    -- another slot of the segment
    beside_stands : (j : ℕ) (chs : List Change) → j ≢ I → SlotStands shape commit (wraps_of segments) G S j chs → SlotStands shape commit (wraps_of after) G S2 j chs
    beside_stands j chs ne old = record {
      active = λ is.
          let was : (slot_in S.header j).state ≡ 1 = ap (λ (z : TableSlot). z.state) (sym same) ∙ is in
          let a = old.active was in
          let x : xid_in G S j ≡ xid_in G S2 j = one_xid (xid_in G S j) (xid_in G S2 j) refl refl (sym (ages.wrap j was)) in
          record {
            count = ap (λ (z : TableSlot). z.live) same ∙ a.count;
            start = let b : (slot_in S2.header j).start ≡ (slot_in S.header j).start = ap (λ (z : TableSlot). z.start) same in omega (arith, a.start, b, ages.writes);
            listed = subst (λ (z : Uba). Listed shape S2 (xid_in G S2 j) (IsSaved shape commit (wraps_of after)) z chs) (ap (λ (z : TableSlot). z.newest_at) (sym same)) (subst (λ (z : Xid). Listed shape S2 z (IsSaved shape commit (wraps_of after)) (slot_in S.header j).newest_at chs) x (listed_later shape (λ k. (slot_in S.header k).state ≡ 1) S S2 (xid_in G S j) (IsSaved shape commit (wraps_of segments)) (IsSaved shape commit (wraps_of after)) ages was refl up stay (slot_in S.header j).newest_at chs a.listed));
            keeps = keeps_other S I address u S2 w.records commit logged order i_few (keeps_of G g_in) (running_of G g_in) w.slot w.wrap j ne was;
          };
      idle = λ not. old.idle (λ is. not (ap (λ (z : TableSlot). z.state) same ∙ is));
    }
      where
        same : slot_in S2.header j ≡ slot_in S.header j
        same = other_slot_same S I address u S2 w.records commit logged order i_few (keeps_of G g_in) (running_of G g_in) w.slot w.wrap j ne

    -- a slot of another segment
    elsewhere_stands : (g j : ℕ) (s : Segment) (chs : List Change) → SlotStands shape commit (wraps_of segments) g s j chs → SlotStands shape commit (wraps_of after) g s j chs
    elsewhere_stands g j s chs old = record {
      active = λ is. let a = old.active is in record { count = a.count; start = a.start; listed = listed_later shape (λ k. k ≡ j) s s (xid_in g s j) (IsSaved shape commit (wraps_of segments)) (IsSaved shape commit (wraps_of after)) (ages_same (λ k. k ≡ j) s) refl refl up (λ v a. a) (slot_in s.header j).newest_at chs a.listed; keeps = a.keeps };
      idle = old.idle;
    }

    slots_after : (v : ℕ) → v < SLOTS * shape.segments → SlotStands shape commit (wraps_of after) (v / SLOTS) (after (v / SLOTS)) (v % SLOTS) (own Longer v)
    slots_after v v_in = elim (cases_eq v t) [
      | inl at ↦ subst (λ (z : ℕ). SlotStands shape commit (wraps_of after) (z / SLOTS) (after (z / SLOTS)) (z % SLOTS) (own Longer z)) (sym at)
          (subst (λ (z : Segment). SlotStands shape commit (wraps_of after) G z I (own Longer t)) (sym after_at) (subst (λ (z : List Change). SlotStands shape commit (wraps_of after) G S2 I z) (sym (get_or-set_same lives t (change_made shape t kind address u ∷ own lives t) [] (omega (arith, t_in, stand.slots_counted)))) own_stands))
      | inr ne ↦ subst (λ (z : List Change). SlotStands shape commit (wraps_of after) (v / SLOTS) (after (v / SLOTS)) (v % SLOTS) z) (sym (get_or-set_other lives t v (change_made shape t kind address u ∷ own lives t) [] ne)) (elim (cases_eq (v / SLOTS) G) [
        | inl seg ↦
            let old : SlotStands shape commit (wraps_of segments) G S (v % SLOTS) (own lives v) = subst (λ (z : ℕ). SlotStands shape commit (wraps_of segments) z (segments z) (v % SLOTS) (own lives v)) seg (stand.slots v v_in) in
            let nj : v % SLOTS ≢ I = λ is. ne (one_slot v t seg is) in
            subst (λ (z : ℕ). SlotStands shape commit (wraps_of after) z (after z) (v % SLOTS) (own lives v)) (sym seg) (subst (λ (z : Segment). SlotStands shape commit (wraps_of after) G z (v % SLOTS) (own lives v)) (sym after_at) (beside_stands (v % SLOTS) (own lives v) nj old))
        | inr off ↦ subst (λ (z : Segment). SlotStands shape commit (wraps_of after) (v / SLOTS) z (v % SLOTS) (own lives v)) (sym (after_off (v / SLOTS) off)) (elsewhere_stands (v / SLOTS) (v % SLOTS) (segments (v / SLOTS)) (own lives v) (stand.slots v v_in))
      ])
    ]

    newest_stays : (v : ℕ) → (slot_of after v).newest ≡ (slot_of segments v).newest
    newest_stays v = elim (cases_eq (v / SLOTS) G) [
      | inl seg ↦ ap (λ (z : ℕ). (slot_in (after z).header (v % SLOTS)).newest) seg ∙ (ap (λ (z : Segment). (slot_in z.header (v % SLOTS)).newest) after_at ∙ (newest_same S I address u S2 w.records commit logged order i_few (keeps_of G g_in) (running_of G g_in) w.slot w.wrap (v % SLOTS) ∙ ap (λ (z : ℕ). (slot_in (segments z).header (v % SLOTS)).newest) (sym seg)))
      | inr off ↦ ap (λ (z : Segment). (slot_in z.header (v % SLOTS)).newest) (after_off (v / SLOTS) off)
    ]

    pub standing_written : StandingAs shape commit (logged + 1) after homes2 past Longer
    standing_written = record {
      slots_counted = simp length-set stand.slots_counted;
      number = stand.number;
      in_order = λ g g_few. elim (cases_eq g G) [
        | inl at ↦ subst (λ (z : ℕ). SegmentInOrder commit (logged + 1) (after z)) (sym at) (subst (λ (z : Segment). SegmentInOrder commit (logged + 1) z) (sym after_at) (written_order S I address u S2 w.records commit logged order i_few (keeps_of G g_in) (running_of G g_in) w.slot w.wrap))
        | inr ne ↦ subst (λ (z : Segment). SegmentInOrder commit (logged + 1) z) (sym (after_off g ne)) (let o = stand.in_order g g_few in record { header = o.header; undo_counted = o.undo_counted; numbers = numbers_later logged (logged + 1) (segments g) (omega arith) o.numbers })
      ];
      apart = λ v x v_in x_in some same. stand.apart v x v_in x_in (subst (λ (z : ℕ). 1 ≤ z) (newest_stays v) some) (sym (newest_stays v) ∙ (same ∙ newest_stays x));
      slots = slots_after;
      homes_stand = homes_after;
    }

    pub running_written : Running shape after
    running_written v v_in active = elim (cases_eq (v / SLOTS) G) [
      | inl seg ↦
          let here : (slot_in S2.header (v % SLOTS)).state ≡ 1 = subst (λ (z : Segment). (slot_in z.header (v % SLOTS)).state ≡ 1) after_at (subst (λ (z : ℕ). (slot_in (after z).header (v % SLOTS)).state ≡ 1) seg active) in
          subst (λ (z : ℕ). RunningSlot (after z).header (slot_in (after z).header (v % SLOTS))) (sym seg) (subst (λ (z : Segment). RunningSlot z.header (slot_in z.header (v % SLOTS))) (sym after_at) (elim (cases_eq (v % SLOTS) I) [
            | inl at ↦ subst (λ (z : ℕ). RunningSlot S2.header (slot_in S2.header z)) (sym at) (running_own S I address u S2 w.records commit logged order i_few (keeps_of G g_in) (running_of G g_in) w.slot w.wrap)
            | inr ne ↦ running_other S I address u S2 w.records commit logged order i_few (keeps_of G g_in) (running_of G g_in) w.slot w.wrap (v % SLOTS) ne (ap (λ (z : TableSlot). z.state) (sym (other_slot_same S I address u S2 w.records commit logged order i_few (keeps_of G g_in) (running_of G g_in) w.slot w.wrap (v % SLOTS) ne)) ∙ here)
          ]))
      | inr off ↦
          let same = after_off (v / SLOTS) off in
          let was : (slot_of segments v).state ≡ 1 = ap (λ (z : Segment). (slot_in z.header (v % SLOTS)).state) (sym same) ∙ active in
          subst (λ (z : Segment). RunningSlot z.header (slot_in z.header (v % SLOTS))) (sym same) (running v v_in was)
    ]
