-- Putting back the newest live record of a slot keeps what segments and homes stand for, with that change less.
use Rattle.std.proofs.Common.{◌≡◌, ◌≢◌, inl, inr, ◌<◌, ◌≤◌, ◌+◌, ◌-◌, ◌*◌, ◌/◌, ◌%◌, ℕ, suc, List, [], ◌∷◌, length, set, map, Some, refl, sym, ◌∙◌, ap, subst, arith}
use Rattle.std.proofs.lemmas.Bool.{cases_eq}
use Rattle.std.proofs.lemmas.List.{get_or-set_same, get_or-set_other, length-set, set-get_or}
use Rattle.std.proofs.Math.Nat.{div-add-mod}
use Rattle.rb_base.specs.declared.sizes.TheConstants.{SLOTS}
use Rattle.rb_base.specs.Blocks.{table_blocks}
use Rattle.rb_base.specs.declared.ids.Uba.{Uba}
use Rattle.rb_base.specs.declared.ids.Xid.{Xid}
use Rattle.rb_base.specs.declared.shape.Shape.{Shape}
use Rattle.rb_model.specs.Change.{Place}
use Rattle.rb_segment.specs.Header.{Segment, slot_in, record_in, SegmentInOrder}
use Rattle.rb_segment.specs.Moves.{taken_back, with_header, SegmentAges}
use Rattle.rb_segment.specs.Running.{RunningSlot}
use Rattle.law_blocks.specs.Says.{says, walk_record, walk_undo}
use Rattle.law_blocks.specs.Seen.{Goes}
use Rattle.law_blocks.specs.Values.{Past, HomesStand, ActiveSlot, SlotStands, IsSaved, Listed, xid_in, rows_here, StandingAs, Running, slot_of, wraps_of}
use Rattle.law_blocks.specs.Writes.{PutBack}
use Rattle.rb_txntable.specs.declared.slots.TableSlot.{TableSlot}
use Rattle.rb_undoblock.specs.declared.record.UndoRecord.{UndoRecord}
use Rattle.law_home.specs.Homes.{here, narrow}
use Rattle.law_home.specs.Kinds.{Undo}
use Rattle.law_home.specs.Steps.{Stands}
use Rattle.law_home.specs.Walk.{Change, Home, own, back}
use Rattle.rb_segment.proofs.Addresses.{address_same}
use Rattle.rb_segment.proofs.Moments.{ages_same}
use Rattle.rb_segment.proofs.WithSegment.{one_ages, at_segment, off_segment}
use Rattle.law_blocks.proofs.Commits.{with_laws, without_laws}
use Rattle.law_blocks.proofs.Homes.{own_here}
use Rattle.law_blocks.proofs.HomesWritten.{home_ages}
use Rattle.law_blocks.proofs.Listed.{saved_later, listed_later}
use Rattle.law_blocks.proofs.Seen.{one_slot, one_xid}
use Rattle.rb_segment.proofs.Back.{back_other, back_own, back_like, back_ages, back_keeps, back_running, back_order}
use Rattle.rb_segment.proofs.Later.{numbers_later}
use Rattle.law_blocks.proofs.StandingWritten.{slot_few}
use Rattle.law_home.proofs.Homes.{lives_here, live_here, live_elsewhere}
use Rattle.law_home.proofs.Standing.{stands_back}

module _ (shape : Shape) (commit logged : ℕ) (segments : ℕ → Segment) (homes : ℕ → Home) (past : Past) (lives : List (List Change)) (stand : StandingAs shape commit logged segments homes past lives) (homes2 : ℕ → Home) (t : ℕ) (u : UndoRecord) (t_in : t < SLOTS * shape.segments) (after : ℕ → Segment) (put : PutBack shape segments after homes homes2 t u) (ch : Change) (more : List Change) (has : own lives t ≡ ch ∷ more) where
  abbrev G : ℕ
  G = t / SLOTS

  abbrev I : ℕ
  I = t % SLOTS

  abbrev S : Segment
  S = segments G

  abbrev S2 : Segment
  S2 = with_header (taken_back I u.previous S.header) S

  abbrev Shorter : List (List Change)
  Shorter = set lives t more

  g_in : G < shape.segments
  g_in = let a = div-add-mod t SLOTS in omega (arith, a, t_in)

  within : I < length S.header.slots
  within = let a = slot_few t in omega (arith, a, (stand.in_order G g_in).header.slots_counted)

  after_at : after G ≡ S2
  after_at = put.others G ∙ at_segment G S2 segments

  after_off : (k : ℕ) → k ≢ G → after k ≡ segments k
  after_off k ne = put.others k ∙ off_segment G k S2 segments ne

  each : (goes : ℕ → ℕ → Type 0) (k : ℕ) → SegmentAges (goes k) (segments k) (after k)
  each goes k = subst (λ (z : Segment). SegmentAges (goes k) (segments k) z) (sym (put.others k)) (one_ages goes segments G S2 (back_ages S I u.previous within (goes G)) k)

  before : ActiveSlot shape commit (wraps_of segments) G S I (own lives t)
  before = (stand.slots t t_in).active put.active

  listed : Listed shape S (xid_in G S I) (IsSaved shape commit (wraps_of segments)) (slot_in S.header I).newest_at (ch ∷ more)
  listed = subst (λ (z : List Change). Listed shape S (xid_in G S I) (IsSaved shape commit (wraps_of segments)) (slot_in S.header I).newest_at z) has before.listed

  -- the record that is put back is the newest change's
  is_u : listed.4.0 ≡ u
  is_u =
      let a : record_in S ch.place.index ≡ Some listed.4.0 = listed.4.1 in
      let b : record_in S ch.place.index ≡ Some u = ap (λ (z : Place). record_in S z.index) (sym listed.2) ∙ put.record_there in
      let same : Some listed.4.0 ≡ Some u = sym a ∙ b in
      cc

  home_is : u.home ≡ ch.home
  home_is = ap (λ (z : UndoRecord). z.home) (sym is_u) ∙ listed.4.5

  stored : (says shape segments).store ch.place ≡ Some (walk_undo shape G u)
  stored = subst (λ (g : ℕ). walk_record shape g (record_in (segments g) ch.place.index) ≡ Some (walk_undo shape G u)) (sym listed.3) (ap (walk_record shape G) (listed.4.1 ∙ ap Some is_u))

  abbrev Here : ℕ → (ℕ → Segment) → List (List Change) → Home → Type 0
  Here b segs lists home = Stands (says shape segs) (λ g. (segs g).header.writes) past.base (rows_here shape b past.rows) (map (narrow b) past.list) lists home

  aged : (b : ℕ) (home : Home) → Here b segments (map (here b) Shorter) home → Here b after (map (here b) Shorter) home
  aged b home is = home_ages shape segments after past Shorter (each (Goes Shorter)) b home is

  here_back : (b : ℕ) → b < table_blocks shape → b ≡ u.home → Here b after (map (here b) Shorter) (homes2 b)
  here_back b b_in at =
      let is : Here b segments (map (here b) lives) (homes b) = with_laws shape segments past.base (rows_here shape b past.rows) (map (narrow b) past.list) (map (here b) lives) (homes b) (stand.homes_stand b b_in) in
      let mine : own (map (here b) lives) t ≡ ch ∷ here b more = own_here b lives t ∙ (ap (here b) has ∙ live_here b more ch (sym (at ∙ home_is))) in
      let stepped : (r : Undo) × ((says shape segments).store ch.place ≡ Some r) × Here b segments (set (map (here b) lives) t (here b more)) (back r (homes b)) = stands_back past.base (rows_here shape b past.rows) (map (narrow b) past.list) (λ g. (segments g).header.writes) (says shape segments) (map (here b) lives) (homes b) t ch (here b more) mine is in
      let one : Some stepped.0 ≡ Some (walk_undo shape G u) = sym stepped.1 ∙ stored in
      let same : stepped.0 ≡ walk_undo shape G u = cc in
      let home : back (walk_undo shape G u) (homes b) ≡ homes2 b = ap (λ (z : ℕ). back (walk_undo shape G u) (homes z)) at ∙ (sym put.home ∙ ap homes2 (sym at)) in
      let step : Here b segments (map (here b) Shorter) (back stepped.0 (homes b)) = subst (λ (z : List (List Change)). Here b segments z (back stepped.0 (homes b))) (sym (lives_here b lives t more)) stepped.2 in
      subst (λ (z : Home). Here b after (map (here b) Shorter) z) home (subst (λ (z : Undo). Here b after (map (here b) Shorter) (back z (homes b))) same (aged b (back stepped.0 (homes b)) step))

  here_other : (b : ℕ) → b < table_blocks shape → b ≢ u.home → Here b after (map (here b) Shorter) (homes2 b)
  here_other b b_in ne =
      let is : Here b segments (map (here b) lives) (homes b) = with_laws shape segments past.base (rows_here shape b past.rows) (map (narrow b) past.list) (map (here b) lives) (homes b) (stand.homes_stand b b_in) in
      let mine : own (map (here b) lives) t ≡ here b more = own_here b lives t ∙ (ap (here b) has ∙ live_elsewhere b more ch (λ at. ne (sym (home_is ∙ at)))) in
      let lists : map (here b) lives ≡ map (here b) Shorter = sym (lives_here b lives t more ∙ (ap (set (map (here b) lives) t) (sym mine) ∙ set-get_or (map (here b) lives) t [])) in
      subst (λ (z : Home). Here b after (map (here b) Shorter) z) (sym (put.homes_same b ne)) (aged b (homes b) (subst (λ (z : List (List Change)). Here b segments z (homes b)) lists is))

  homes_after : HomesStand shape after homes2 past Shorter
  homes_after b b_in = without_laws (says shape after) (λ g. (after g).header.writes) (λ g. (after g).header.writes) past.base (rows_here shape b past.rows) (map (narrow b) past.list) (map (here b) Shorter) (homes2 b) (λ g. omega arith) (elim (cases_eq b u.home) [ inl at ↦ here_back b b_in at | inr ne ↦ here_other b b_in ne ])

  wraps_rise : (k j : ℕ) → wraps_of segments k j ≤ wraps_of after k j
  wraps_rise k j = let a : wraps_of after k j ≡ wraps_of segments k j = (each (λ k j. Unit {0}) k).wrap j tt in omega (arith, a)

  up : (q : UndoRecord) → IsSaved shape commit (wraps_of segments) q → IsSaved shape commit (wraps_of after) q
  up q saved = saved_later shape commit commit (wraps_of segments) (wraps_of after) q (omega arith) wraps_rise saved

  abbrev All : ℕ → Type 0
  All j = Unit {0}

  -- any slot whose records are listed from where the header says
  listed_after : (j : ℕ) (uba : Uba) (chs : List Change) → Listed shape S (xid_in G S j) (IsSaved shape commit (wraps_of segments)) uba chs → Listed shape S2 (xid_in G S2 j) (IsSaved shape commit (wraps_of after)) uba chs
  listed_after j uba chs is = subst (λ (z : Xid). Listed shape S2 z (IsSaved shape commit (wraps_of after)) uba chs) (one_xid (xid_in G S j) (xid_in G S2 j) refl refl (sym ((back_ages S I u.previous within All).wrap j tt))) (listed_later shape All S S2 (xid_in G S j) (IsSaved shape commit (wraps_of segments)) (IsSaved shape commit (wraps_of after)) (back_ages S I u.previous within All) tt refl up (λ v a. address_same shape G S.header S2.header v refl refl a) uba chs is)

  own_stands : SlotStands shape commit (wraps_of after) G S2 I more
  own_stands = record {
    active = λ is. record {
      count = let a : (slot_in S2.header I).live ≡ (slot_in S.header I).live - 1 = ap (λ (z : TableSlot). z.live) (back_own S I u.previous within) in let b : (slot_in S.header I).live ≡ suc (length more) = before.count ∙ ap length has in omega (arith, a, b);
      start = let a : (slot_in S2.header I).start ≡ (slot_in S.header I).start = ap (λ (z : TableSlot). z.start) (back_own S I u.previous within) in omega (arith, a, before.start);
      listed = subst (λ (z : Uba). Listed shape S2 (xid_in G S2 I) (IsSaved shape commit (wraps_of after)) z more) (sym (ap (λ (z : TableSlot). z.newest_at) (back_own S I u.previous within))) (listed_after I u.previous more (subst (λ (z : UndoRecord). Listed shape S (xid_in G S I) (IsSaved shape commit (wraps_of segments)) z.previous more) is_u listed.4.7));
      keeps = back_keeps S I u.previous within I before.keeps;
    };
    idle = λ ne. absurd (ne (ap (λ (z : TableSlot). z.state) (back_own S I u.previous within) ∙ put.active));
  }

  beside_stands : (j : ℕ) (chs : List Change) → j ≢ I → SlotStands shape commit (wraps_of segments) G S j chs → SlotStands shape commit (wraps_of after) G S2 j chs
  beside_stands j chs ne old = let same = back_other S I u.previous j ne in record {
    active = λ is. let a = old.active (ap (λ (z : TableSlot). z.state) (sym same) ∙ is) in record {
      count = ap (λ (z : TableSlot). z.live) same ∙ a.count;
      start = let b : (slot_in S2.header j).start ≡ (slot_in S.header j).start = ap (λ (z : TableSlot). z.start) same in omega (arith, a.start, b);
      listed = subst (λ (z : Uba). Listed shape S2 (xid_in G S2 j) (IsSaved shape commit (wraps_of after)) z chs) (ap (λ (z : TableSlot). z.newest_at) (sym same)) (listed_after j (slot_in S.header j).newest_at chs a.listed);
      keeps = back_keeps S I u.previous within j a.keeps;
    };
    idle = λ not. old.idle (λ is. not (ap (λ (z : TableSlot). z.state) same ∙ is));
  }

  elsewhere_stands : (g j : ℕ) (s : Segment) (chs : List Change) → SlotStands shape commit (wraps_of segments) g s j chs → SlotStands shape commit (wraps_of after) g s j chs
  elsewhere_stands g j s chs old = record {
    active = λ is. let a = old.active is in record { count = a.count; start = a.start; listed = listed_later shape All s s (xid_in g s j) (IsSaved shape commit (wraps_of segments)) (IsSaved shape commit (wraps_of after)) (ages_same All s) tt refl up (λ v a. a) (slot_in s.header j).newest_at chs a.listed; keeps = a.keeps };
    idle = old.idle;
  }

  slots_after : (v : ℕ) → v < SLOTS * shape.segments → SlotStands shape commit (wraps_of after) (v / SLOTS) (after (v / SLOTS)) (v % SLOTS) (own Shorter v)
  slots_after v v_in = elim (cases_eq v t) [
    | inl at ↦ subst (λ (z : ℕ). SlotStands shape commit (wraps_of after) (z / SLOTS) (after (z / SLOTS)) (z % SLOTS) (own Shorter z)) (sym at)
        (subst (λ (z : Segment). SlotStands shape commit (wraps_of after) G z I (own Shorter t)) (sym after_at) (subst (λ (z : List Change). SlotStands shape commit (wraps_of after) G S2 I z) (sym (get_or-set_same lives t more [] (omega (arith, t_in, stand.slots_counted)))) own_stands))
    | inr ne ↦ subst (λ (z : List Change). SlotStands shape commit (wraps_of after) (v / SLOTS) (after (v / SLOTS)) (v % SLOTS) z) (sym (get_or-set_other lives t v more [] ne)) (elim (cases_eq (v / SLOTS) G) [
      | inl seg ↦
          let old : SlotStands shape commit (wraps_of segments) G S (v % SLOTS) (own lives v) = subst (λ (z : ℕ). SlotStands shape commit (wraps_of segments) z (segments z) (v % SLOTS) (own lives v)) seg (stand.slots v v_in) in
          let nj : v % SLOTS ≢ I = λ is. ne (one_slot v t seg is) in
          subst (λ (z : ℕ). SlotStands shape commit (wraps_of after) z (after z) (v % SLOTS) (own lives v)) (sym seg) (subst (λ (z : Segment). SlotStands shape commit (wraps_of after) G z (v % SLOTS) (own lives v)) (sym after_at) (beside_stands (v % SLOTS) (own lives v) nj old))
      | inr off ↦ subst (λ (z : Segment). SlotStands shape commit (wraps_of after) (v / SLOTS) z (v % SLOTS) (own lives v)) (sym (after_off (v / SLOTS) off)) (elsewhere_stands (v / SLOTS) (v % SLOTS) (segments (v / SLOTS)) (own lives v) (stand.slots v v_in))
    ])
  ]

  pub newest_stays : (v : ℕ) → (slot_of after v).newest ≡ (slot_of segments v).newest
  newest_stays v = elim (cases_eq (v / SLOTS) G) [
    | inl seg ↦ ap (λ (z : ℕ). (slot_in (after z).header (v % SLOTS)).newest) seg ∙ (ap (λ (z : Segment). (slot_in z.header (v % SLOTS)).newest) after_at ∙ (back_like S I u.previous within (λ x y. x.newest ≡ y.newest) (λ x. refl) (λ x live at. refl) (v % SLOTS) ∙ ap (λ (z : ℕ). (slot_in (segments z).header (v % SLOTS)).newest) (sym seg)))
    | inr off ↦ ap (λ (z : Segment). (slot_in z.header (v % SLOTS)).newest) (after_off (v / SLOTS) off)
  ]

  pub standing_back : StandingAs shape commit (logged + 1) after homes2 past Shorter
  standing_back = record {
    slots_counted = simp length-set stand.slots_counted;
    number = stand.number;
    in_order = λ g g_few. elim (cases_eq g G) [
      | inl at ↦ subst (λ (z : ℕ). SegmentInOrder commit (logged + 1) (after z)) (sym at) (subst (λ (z : Segment). SegmentInOrder commit (logged + 1) z) (sym after_at) (back_order S I u.previous within commit logged (stand.in_order G g_in)))
      | inr ne ↦ subst (λ (z : Segment). SegmentInOrder commit (logged + 1) z) (sym (after_off g ne)) (let o = stand.in_order g g_few in record { header = o.header; undo_counted = o.undo_counted; numbers = numbers_later logged (logged + 1) (segments g) (omega arith) o.numbers })
    ];
    apart = λ v x v_in x_in some same. stand.apart v x v_in x_in (subst (λ (z : ℕ). 1 ≤ z) (newest_stays v) some) (sym (newest_stays v) ∙ (same ∙ newest_stays x));
    slots = slots_after;
    homes_stand = homes_after;
  }

  pub running_back : Running shape segments → Running shape after
  running_back running v v_in active = elim (cases_eq (v / SLOTS) G) [
    | inl seg ↦
        let here : (slot_in S2.header (v % SLOTS)).state ≡ 1 = subst (λ (z : Segment). (slot_in z.header (v % SLOTS)).state ≡ 1) after_at (subst (λ (z : ℕ). (slot_in (after z).header (v % SLOTS)).state ≡ 1) seg active) in
        let was : (slot_in S.header (v % SLOTS)).state ≡ 1 = back_like S I u.previous within (λ x y. x.state ≡ 1 → y.state ≡ 1) (λ x is. is) (λ x live at is. is) (v % SLOTS) here in
        let runs : RunningSlot S.header (slot_in S.header (v % SLOTS)) = subst (λ (z : ℕ). RunningSlot (segments z).header (slot_in (segments z).header (v % SLOTS))) seg (running v v_in (ap (λ (z : ℕ). (slot_in (segments z).header (v % SLOTS)).state) seg ∙ was)) in
        subst (λ (z : ℕ). RunningSlot (after z).header (slot_in (after z).header (v % SLOTS))) (sym seg) (subst (λ (z : Segment). RunningSlot z.header (slot_in z.header (v % SLOTS))) (sym after_at) (back_running S I u.previous within (v % SLOTS) runs))
    | inr off ↦
        let same = after_off (v / SLOTS) off in
        let was : (slot_of segments v).state ≡ 1 = ap (λ (z : Segment). (slot_in z.header (v % SLOTS)).state) (sym same) ∙ active in
        subst (λ (z : Segment). RunningSlot z.header (slot_in z.header (v % SLOTS))) (sym same) (running v v_in was)
  ]

  pub xid_back : (v : ℕ) → (says shape after).xid v ≡ (says shape segments).xid v
  xid_back v = one_xid ((says shape after).xid v) ((says shape segments).xid v) refl refl ((each (λ k j. Unit {0}) (v / SLOTS)).wrap (v % SLOTS) tt)
