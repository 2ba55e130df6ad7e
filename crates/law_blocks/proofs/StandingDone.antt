-- A commit keeps what segments and homes stand for, with that commit in front of the past; and so does the end of a slot without
-- live changes.
use Rattle.std.proofs.Common.{◌≡◌, ◌≢◌, inl, inr, ◌<◌, ◌≤◌, ◌+◌, ◌*◌, ◌/◌, ◌%◌, ℕ, List, [], ◌∷◌, length, set, refl, sym, ◌∙◌, ap, subst, arith}
use Rattle.std.proofs.lemmas.Bool.{cases_eq}
use Rattle.std.proofs.lemmas.List.{get_or-set_same, get_or-set_other, length-set, set-get_or}
use Rattle.std.proofs.Math.Nat.{div-add-mod}
use Rattle.rb_base.specs.declared.sizes.TheConstants.{SLOTS}
use Rattle.rb_base.specs.declared.ids.Uba.{Uba}
use Rattle.rb_base.specs.declared.ids.Xid.{Xid}
use Rattle.rb_base.specs.declared.shape.Shape.{Shape}
use Rattle.rb_segment.specs.Header.{Segment, slot_in, extent_with, record_in, SegmentInOrder}
use Rattle.rb_segment.specs.Moves.{committed, ended, with_header, with_segment, IsAddress, SegmentAges, SegmentCommits}
use Rattle.rb_segment.specs.Running.{KeepsRecords, RunningSlot}
use Rattle.law_blocks.specs.Seen.{Goes}
use Rattle.law_blocks.specs.Values.{Past, HomesStand, SlotStands, IsSaved, Listed, xid_in, StandingAs, Running, slot_of, wraps_of}
use Rattle.law_blocks.specs.Writes.{committed_past}
use Rattle.rb_txntable.specs.Slots.{no_slot}
use Rattle.rb_txntable.specs.declared.slots.TableSlot.{TableSlot}
use Rattle.rb_undoblock.specs.declared.record.UndoRecord.{UndoRecord}
use Rattle.law_home.specs.Walk.{Change, Home, own}
use Rattle.rb_segment.proofs.Addresses.{address_same, address_committed}
use Rattle.rb_segment.proofs.Commits.{stamped_turns}
use Rattle.rb_segment.proofs.CommitOrder.{done_order}
use Rattle.rb_segment.proofs.CommitOrder.{commits as done_commits}
use Rattle.rb_segment.proofs.Ended.{ended_slot, ended_other, ended_wrap, ended_done, end_ages, end_order}
use Rattle.rb_segment.proofs.Back.{keeps_like}
use Rattle.rb_segment.proofs.Later.{order_later}
use Rattle.rb_segment.proofs.Moments.{ages_same, ages_fewer}
use Rattle.rb_segment.proofs.WithSegment.{one_ages, at_segment, off_segment}
use Rattle.law_blocks.proofs.Commits.{homes_commit}
use Rattle.law_blocks.proofs.HomesWritten.{homes_age}
use Rattle.law_blocks.proofs.Listed.{saved_later, listed_later}
use Rattle.law_blocks.proofs.Seen.{one_slot, one_xid}
use Rattle.law_blocks.proofs.StandingWritten.{slot_few, keeps_of, running_of}

module _ (shape : Shape) (commit logged : ℕ) (segments : ℕ → Segment) (homes : ℕ → Home) (past : Past) (lives : List (List Change)) (stand : StandingAs shape commit logged segments homes past lives) (t : ℕ) (t_in : t < SLOTS * shape.segments) where
  abbrev G : ℕ
  G = t / SLOTS

  abbrev I : ℕ
  I = t % SLOTS

  abbrev S : Segment
  S = segments G

  abbrev pub Without : List (List Change)
  Without = set lives t []

  g_in : G < shape.segments
  g_in = let a = div-add-mod t SLOTS in omega (arith, a, t_in)

  i_few : I < SLOTS
  i_few = slot_few t

  order : SegmentInOrder commit logged S
  order = stand.in_order G g_in

  within : I < length S.header.slots
  within = omega (arith, i_few, order.header.slots_counted)

  -- a move that changes slot I alone, to one that isn't Active, and no record
  module _ (c : ℕ) (later : commit ≤ c) (s2 : Segment) (ages : SegmentAges (λ j. j ≢ I) S s2) (done : (slot_in s2.header I).state ≢ 1) (same : (j : ℕ) → j ≢ I → slot_in s2.header j ≡ slot_in S.header j) (wrap : (j : ℕ) → (slot_in s2.header j).wrap ≡ (slot_in S.header j).wrap) (turns : (turn : ℕ) → extent_with s2.header.extents turn ≡ extent_with S.header.extents turn) (records : (k : ℕ) → record_in s2 k ≡ record_in S k) (writes : s2.header.writes ≡ S.header.writes) (stay : (v : Uba) → IsAddress shape G S.header v → IsAddress shape G s2.header v) where
    abbrev After : ℕ → Segment
    After = with_segment G s2 segments

    after_at : After G ≡ s2
    after_at = at_segment G s2 segments

    after_off : (k : ℕ) → k ≢ G → After k ≡ segments k
    after_off k ne = off_segment G k s2 segments ne

    wraps_rise : (k j : ℕ) → wraps_of segments k j ≤ wraps_of After k j
    wraps_rise k j = elim (cases_eq k G) [
      | inl at ↦ subst (λ (z : ℕ). wraps_of segments z j ≤ wraps_of After z j) (sym at) (subst (λ (z : Segment). (slot_in S.header j).wrap ≤ (slot_in z.header j).wrap) (sym after_at) (let a = wrap j in omega (arith, a)))
      | inr ne ↦ let a : wraps_of After k j ≡ wraps_of segments k j = ap (λ (z : Segment). (slot_in z.header j).wrap) (after_off k ne) in omega (arith, a)
    ]

    up : (q : UndoRecord) → IsSaved shape commit (wraps_of segments) q → IsSaved shape c (wraps_of After) q
    up q saved = saved_later shape commit c (wraps_of segments) (wraps_of After) q later wraps_rise saved

    beside_stands : (j : ℕ) (chs : List Change) → j ≢ I → SlotStands shape commit (wraps_of segments) G S j chs → SlotStands shape c (wraps_of After) G s2 j chs
    beside_stands j chs ne old = record {
      active = λ is.
          let a = old.active (ap (λ (z : TableSlot). z.state) (sym (same j ne)) ∙ is) in
          let x : xid_in G S j ≡ xid_in G s2 j = one_xid (xid_in G S j) (xid_in G s2 j) refl refl (sym (wrap j)) in
          record {
            count = ap (λ (z : TableSlot). z.live) (same j ne) ∙ a.count;
            start = let b : (slot_in s2.header j).start ≡ (slot_in S.header j).start = ap (λ (z : TableSlot). z.start) (same j ne) in omega (arith, a.start, b, writes);
            listed = subst (λ (z : Uba). Listed shape s2 (xid_in G s2 j) (IsSaved shape c (wraps_of After)) z chs) (ap (λ (z : TableSlot). z.newest_at) (sym (same j ne))) (subst (λ (z : Xid). Listed shape s2 z (IsSaved shape c (wraps_of After)) (slot_in S.header j).newest_at chs) x (listed_later shape (λ k. k ≢ I) S s2 (xid_in G S j) (IsSaved shape commit (wraps_of segments)) (IsSaved shape c (wraps_of After)) ages ne refl up stay (slot_in S.header j).newest_at chs a.listed));
            keeps = keeps_like S s2 j (ap (λ (z : TableSlot). z.first) (same j ne)) (ap (λ (z : TableSlot). z.start) (same j ne)) (ap (λ (z : TableSlot). z.touched) (same j ne)) (wrap j) turns records a.keeps;
          };
      idle = λ not. old.idle (λ is. not (ap (λ (z : TableSlot). z.state) (same j ne) ∙ is));
    }

    elsewhere_stands : (g j : ℕ) (s : Segment) (chs : List Change) → SlotStands shape commit (wraps_of segments) g s j chs → SlotStands shape c (wraps_of After) g s j chs
    elsewhere_stands g j s chs old = record {
      active = λ is. let a = old.active is in record { count = a.count; start = a.start; listed = listed_later shape (λ k. k ≡ j) s s (xid_in g s j) (IsSaved shape commit (wraps_of segments)) (IsSaved shape c (wraps_of After)) (ages_same (λ k. k ≡ j) s) refl refl up (λ v a. a) (slot_in s.header j).newest_at chs a.listed; keeps = a.keeps };
      idle = old.idle;
    }

    pub slots_after : (v : ℕ) → v < SLOTS * shape.segments → SlotStands shape c (wraps_of After) (v / SLOTS) (After (v / SLOTS)) (v % SLOTS) (own Without v)
    slots_after v v_in = elim (cases_eq v t) [
      | inl at ↦ subst (λ (z : ℕ). SlotStands shape c (wraps_of After) (z / SLOTS) (After (z / SLOTS)) (z % SLOTS) (own Without z)) (sym at)
          (subst (λ (z : Segment). SlotStands shape c (wraps_of After) G z I (own Without t)) (sym after_at) (subst (λ (z : List Change). SlotStands shape c (wraps_of After) G s2 I z) (sym (get_or-set_same lives t [] [] (omega (arith, t_in, stand.slots_counted)))) (record { active = λ is. absurd (done is); idle = λ not. refl })))
      | inr ne ↦ subst (λ (z : List Change). SlotStands shape c (wraps_of After) (v / SLOTS) (After (v / SLOTS)) (v % SLOTS) z) (sym (get_or-set_other lives t v [] [] ne)) (elim (cases_eq (v / SLOTS) G) [
        | inl seg ↦
            let old : SlotStands shape commit (wraps_of segments) G S (v % SLOTS) (own lives v) = subst (λ (z : ℕ). SlotStands shape commit (wraps_of segments) z (segments z) (v % SLOTS) (own lives v)) seg (stand.slots v v_in) in
            let nj : v % SLOTS ≢ I = λ is. ne (one_slot v t seg is) in
            subst (λ (z : ℕ). SlotStands shape c (wraps_of After) z (After z) (v % SLOTS) (own lives v)) (sym seg) (subst (λ (z : Segment). SlotStands shape c (wraps_of After) G z (v % SLOTS) (own lives v)) (sym after_at) (beside_stands (v % SLOTS) (own lives v) nj old))
        | inr off ↦ subst (λ (z : Segment). SlotStands shape c (wraps_of After) (v / SLOTS) z (v % SLOTS) (own lives v)) (sym (after_off (v / SLOTS) off)) (elsewhere_stands (v / SLOTS) (v % SLOTS) (segments (v / SLOTS)) (own lives v) (stand.slots v v_in))
      ])
    ]

    pub running_after : Running shape segments → Running shape After
    running_after running v v_in active = elim (cases_eq (v / SLOTS) G) [
      | inl seg ↦
          let here : (slot_in s2.header (v % SLOTS)).state ≡ 1 = subst (λ (z : Segment). (slot_in z.header (v % SLOTS)).state ≡ 1) after_at (subst (λ (z : ℕ). (slot_in (After z).header (v % SLOTS)).state ≡ 1) seg active) in
          subst (λ (z : ℕ). RunningSlot (After z).header (slot_in (After z).header (v % SLOTS))) (sym seg) (subst (λ (z : Segment). RunningSlot z.header (slot_in z.header (v % SLOTS))) (sym after_at) (elim (cases_eq (v % SLOTS) I) [
            | inl at ↦ absurd (done (subst (λ (z : ℕ). (slot_in s2.header z).state ≡ 1) at here))
            | inr ne ↦
                let runs = running_of shape commit logged segments homes past lives stand running G g_in (v % SLOTS) (ap (λ (z : TableSlot). z.state) (sym (same (v % SLOTS) ne)) ∙ here) in
                subst (λ (z : TableSlot). RunningSlot s2.header z) (sym (same (v % SLOTS) ne)) (record { started = omega (arith, runs.started, writes); few = omega (arith, runs.few, writes); begun = runs.begun; before = runs.before; wrap = runs.wrap })
          ]))
      | inr off ↦
          let is = after_off (v / SLOTS) off in
          let was : (slot_of segments v).state ≡ 1 = ap (λ (z : Segment). (slot_in z.header (v % SLOTS)).state) (sym is) ∙ active in
          subst (λ (z : Segment). RunningSlot z.header (slot_in z.header (v % SLOTS))) (sym is) (running v v_in was)
    ]

    -- what an order of the one segment and of the others gives
    pub orders_after : (logged2 : ℕ) → logged ≤ logged2 → SegmentInOrder c logged2 s2 → (g : ℕ) → g < shape.segments → SegmentInOrder c logged2 (After g)
    orders_after logged2 le now g g_few = elim (cases_eq g G) [
      | inl at ↦ subst (λ (z : ℕ). SegmentInOrder c logged2 (After z)) (sym at) (subst (λ (z : Segment). SegmentInOrder c logged2 z) (sym after_at) now)
      | inr ne ↦ subst (λ (z : Segment). SegmentInOrder c logged2 z) (sym (after_off g ne)) (order_later commit c logged logged2 (segments g) later le (stand.in_order g g_few))
    ]

    pub newest_other : (v : ℕ) → v ≢ t → (slot_of After v).newest ≡ (slot_of segments v).newest
    newest_other v ne = elim (cases_eq (v / SLOTS) G) [
      | inl seg ↦ ap (λ (z : ℕ). (slot_in (After z).header (v % SLOTS)).newest) seg ∙ (ap (λ (z : Segment). (slot_in z.header (v % SLOTS)).newest) after_at ∙ (ap (λ (z : TableSlot). z.newest) (same (v % SLOTS) (λ is. ne (one_slot v t seg is))) ∙ ap (λ (z : ℕ). (slot_in (segments z).header (v % SLOTS)).newest) (sym seg)))
      | inr off ↦ ap (λ (z : Segment). (slot_in z.header (v % SLOTS)).newest) (after_off (v / SLOTS) off)
    ]

  module _ (active : (slot_of segments t).state ≡ 1) where
    -- a commit at the next number; each commit is one group, so its number is at most the log number
    module _ (running : Running shape segments) (c : ℕ) (next : commit < c) (logs : c ≤ logged + 1) where
      keeps : KeepsRecords S I
      keeps = keeps_of shape commit logged segments homes past lives stand running G g_in I active

      runs : RunningSlot S.header (slot_in S.header I)
      runs = running_of shape commit logged segments homes past lives stand running G g_in I active

      abbrev Done : Segment
      Done = with_header (committed c I S.header) S

      commits : SegmentCommits S Done I c
      commits = done_commits S I c commit logged i_few order active runs.before keeps next logs

      done_slot : slot_in Done.header I ≡ (let x = slot_in S.header I in record x { state = 2; newest = c })
      done_slot = get_or-set_same S.header.slots I (let x = slot_in S.header I in record x { state = 2; newest = c }) no_slot within

      done_other : (j : ℕ) → j ≢ I → slot_in Done.header j ≡ slot_in S.header j
      done_other j ne = get_or-set_other S.header.slots I j (let x = slot_in S.header I in record x { state = 2; newest = c }) no_slot ne

      not_active : (slot_in Done.header I).state ≢ 1
      not_active is = let two : (slot_in Done.header I).state ≡ 2 = ap (λ (z : TableSlot). z.state) done_slot in omega (arith, is, two)

      turns : (turn : ℕ) → extent_with Done.header.extents turn ≡ extent_with S.header.extents turn
      turns turn = stamped_turns c (slot_in S.header I).touched 0 S.header.extents turn

      stay_committed : (v : Uba) → IsAddress shape G S.header v → IsAddress shape G Done.header v
      stay_committed v a = address_committed shape G c I S.header v a

      abbrev AfterDone : ℕ → Segment
      AfterDone = with_segment G Done segments

      newest_now : (slot_of AfterDone t).newest ≡ c
      newest_now = ap (λ (z : Segment). (slot_in z.header I).newest) (at_segment G Done segments) ∙ ap (λ (z : TableSlot). z.newest) done_slot

      newest_low : (v : ℕ) → v < SLOTS * shape.segments → v ≢ t → (slot_of AfterDone v).newest < c
      newest_low v v_in ne =
          let a = newest_other c (omega (arith, next)) Done commits.ages not_active done_other commits.wrap turns commits.records refl stay_committed v ne in
          let d = div-add-mod v SLOTS in
          let b = ((stand.in_order (v / SLOTS) (omega (arith, d, v_in))).header.slots (v % SLOTS) (slot_few v)).newest in
          omega (arith, a, b, next)

      pub standing_committed : StandingAs shape c (logged + 1) AfterDone homes (committed_past segments t c past lives) Without
      standing_committed = record {
        slots_counted = simp length-set stand.slots_counted;
        number = refl;
        in_order = orders_after c (omega (arith, next)) Done commits.ages not_active done_other commits.wrap turns commits.records refl stay_committed (logged + 1) (omega arith) (done_order S I c commit logged i_few order active runs.before keeps next logs);
        apart = λ v x v_in x_in some is. elim (cases_eq v t) [
          | inl vt ↦ elim (cases_eq x t) [
            | inl xt ↦ vt ∙ sym xt
            | inr xn ↦ let a : (slot_of AfterDone v).newest ≡ c = ap (λ (z : ℕ). (slot_of AfterDone z).newest) vt ∙ newest_now in let b = newest_low x x_in xn in absurd (omega (arith, a, b, is))
          ]
          | inr vn ↦ elim (cases_eq x t) [
            | inl xt ↦ let a : (slot_of AfterDone x).newest ≡ c = ap (λ (z : ℕ). (slot_of AfterDone z).newest) xt ∙ newest_now in let b = newest_low v v_in vn in absurd (omega (arith, a, b, is))
            | inr xn ↦
                let stay = newest_other c (omega (arith, next)) Done commits.ages not_active done_other commits.wrap turns commits.records refl stay_committed in
                stand.apart v x v_in x_in (subst (λ (z : ℕ). 1 ≤ z) (stay v vn) some) (sym (stay v vn) ∙ (is ∙ stay x xn))
          ]
        ];
        slots = slots_after c (omega (arith, next)) Done commits.ages not_active done_other commits.wrap turns commits.records refl stay_committed;
        homes_stand = homes_commit shape segments t c Done commits homes past lives (omega (arith, t_in, stand.slots_counted)) (omega (arith, next, stand.number)) stand.homes_stand;
      }

      pub running_committed : Running shape AfterDone
      running_committed = running_after c (omega (arith, next)) Done commits.ages not_active done_other commits.wrap turns commits.records refl stay_committed running

    -- the end of a slot that has no live change
    module _ (empty : own lives t ≡ []) where
      abbrev Ended : Segment
      Ended = with_header (ended I S.header) S

      ages : SegmentAges (λ j. j ≢ I) S Ended
      ages = end_ages S I within active

      over : (slot_in Ended.header I).state ≢ 1
      over = ended_done S I within active

      others : (j : ℕ) → j ≢ I → slot_in Ended.header j ≡ slot_in S.header j
      others = ended_other S I within active

      wraps : (j : ℕ) → (slot_in Ended.header j).wrap ≡ (slot_in S.header j).wrap
      wraps = ended_wrap S I within active

      stay_ended : (v : Uba) → IsAddress shape G S.header v → IsAddress shape G Ended.header v
      stay_ended v a = address_same shape G S.header Ended.header v refl refl a

      abbrev AfterEnd : ℕ → Segment
      AfterEnd = with_segment G Ended segments

      gone : (j : ℕ) → Goes lives G j → j ≢ I
      gone j goes is =
          let at : goes.0 ≡ t = one_slot goes.0 t goes.1 (goes.2 ∙ is) in
          let none : own lives goes.0 ≡ [] = ap (own lives) at ∙ empty in
          let some : own lives goes.0 ≡ goes.3.0 ∷ goes.3.1 = goes.3.2 in
          cc

      lives_same : lives ≡ Without
      lives_same = sym (ap (set lives t) (sym empty) ∙ set-get_or lives t [])

      newest_ended : (v : ℕ) → (slot_of AfterEnd v).newest ≡ (slot_of segments v).newest
      newest_ended v = elim (cases_eq v t) [
        | inl at ↦ subst (λ (z : ℕ). (slot_of AfterEnd z).newest ≡ (slot_of segments z).newest) (sym at) (ap (λ (z : Segment). (slot_in z.header I).newest) (at_segment G Ended segments) ∙ ap (λ (z : TableSlot). z.newest) (ended_slot S I within active))
        | inr ne ↦ newest_other commit (omega arith) Ended ages over others wraps (λ turn. refl) (λ k. refl) refl stay_ended v ne
      ]

      pub standing_ended : StandingAs shape commit (logged + 1) AfterEnd homes past Without
      standing_ended = record {
        slots_counted = simp length-set stand.slots_counted;
        number = stand.number;
        in_order = orders_after commit (omega arith) Ended ages over others wraps (λ turn. refl) (λ k. refl) refl stay_ended (logged + 1) (omega arith) (end_order S I within active commit logged i_few order);
        apart = λ v x v_in x_in some is. stand.apart v x v_in x_in (subst (λ (z : ℕ). 1 ≤ z) (newest_ended v) some) (sym (newest_ended v) ∙ (is ∙ newest_ended x));
        slots = slots_after commit (omega arith) Ended ages over others wraps (λ turn. refl) (λ k. refl) refl stay_ended;
        homes_stand = subst (λ (z : List (List Change)). HomesStand shape AfterEnd homes past z) lives_same (homes_age shape segments AfterEnd past lives (one_ages (Goes lives) segments G Ended (ages_fewer (λ j. j ≢ I) (Goes lives G) S Ended gone ages)) homes stand.homes_stand);
      }

      pub running_ended : Running shape segments → Running shape AfterEnd
      running_ended running = running_after commit (omega arith) Ended ages over others wraps (λ turn. refl) (λ k. refl) refl stay_ended running
