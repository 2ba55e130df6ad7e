-- What is owed after each kind of group.
use Rattle.std.proofs.Common.{◌≡◌, ◌≢◌, inl, inr, ◌<◌, ◌==◌, ◌+◌, ◌*◌, ◌/◌, ◌%◌, ℕ, true, false, if◌then◌else◌, List, [], ◌∷◌, length, set, refl, sym, ◌∙◌, ap, arith}
use Rattle.std.proofs.lemmas.Bool.{cases_eq}
use Rattle.std.proofs.lemmas.Bool.Decides.{nat_tests}
use Rattle.std.proofs.lemmas.List.{get_or-set_same}
use Rattle.std.proofs.Math.Nat.{div-add-mod}
use Rattle.rb_base.specs.declared.sizes.TheConstants.{SLOTS}
use Rattle.rb_base.specs.declared.ids.Uba.{Uba}
use Rattle.rb_base.specs.declared.shape.Shape.{Shape}
use Rattle.rb_model.specs.Change.{Kind}
use Rattle.rb_segment.specs.Header.{Segment, slot_in, slot_owed}
use Rattle.rb_segment.specs.Moves.{with_segment, with_header, committed, ended}
use Rattle.law_blocks.specs.Values.{Past, StandingAs, Running, slot_of, owed}
use Rattle.law_blocks.specs.Writes.{Written, PutBack, change_made, committed_segments, ended_segments, back_segment}
use Rattle.rb_txntable.specs.declared.slots.TableSlot.{TableSlot}
use Rattle.rb_undoblock.specs.declared.record.UndoRecord.{UndoRecord}
use Rattle.law_home.specs.Walk.{Change, Home, own}
use Rattle.rb_segment.proofs.Back.{back_other, back_own}
use Rattle.rb_segment.proofs.Ended.{ended_other, ended_done}
use Rattle.rb_segment.proofs.SegmentWritten.{other_slot_same, state_own}
use Rattle.law_blocks.proofs.Owed.{owed_one}
use Rattle.law_blocks.proofs.SlotsMoved.{slot_after, slot_other, committed_own, committed_other}
use Rattle.law_blocks.proofs.StandingWritten.{slot_few, keeps_of, running_of, standing_written}
use Rattle.law_blocks.proofs.StandingBack.{standing_back}

active_owes : (x : TableSlot) → x.state ≡ 1 → slot_owed x ≡ x.live + 1
active_owes x is = let test : (x.state == 1) ≡ true = grind (arith, nat_tests) in rw test refl

idle_owes : (x : TableSlot) → x.state ≢ 1 → slot_owed x ≡ 0
idle_owes x not = let test : (x.state == 1) ≡ false = grind (arith, nat_tests) in rw test refl

-- an Active slot that stands owes one for each live change, and one
owes : (shape : Shape) (commit logged : ℕ) (segments : ℕ → Segment) (homes : ℕ → Home) (past : Past) (lives : List (List Change)) → StandingAs shape commit logged segments homes past lives → (t : ℕ) → t < SLOTS * shape.segments → (slot_of segments t).state ≡ 1 → slot_owed (slot_of segments t) ≡ length (own lives t) + 1
owes shape commit logged segments homes past lives stand t t_in active = let a = active_owes (slot_of segments t) active in let b = ((stand.slots t t_in).active active).count in omega (arith, a, b)

-- one slot of one segment changes
owed_by : (shape : Shape) (segments after : ℕ → Segment) (t : ℕ) → t < SLOTS * shape.segments → (s2 : Segment) → ((g : ℕ) → after g ≡ with_segment (t / SLOTS) s2 segments g) → ((j : ℕ) → j ≢ t % SLOTS → slot_in s2.header j ≡ slot_in (segments (t / SLOTS)).header j) → owed shape after + slot_owed (slot_of segments t) ≡ owed shape segments + slot_owed (slot_of after t)
owed_by shape segments after t t_in s2 at same = owed_one shape segments after t t_in (λ v ne. ap slot_owed (slot_other segments after t s2 at same v ne))

module _ (shape : Shape) (commit logged : ℕ) (segments : ℕ → Segment) (homes : ℕ → Home) (past : Past) (lives : List (List Change)) (stand : StandingAs shape commit logged segments homes past lives) (t : ℕ) (t_in : t < SLOTS * shape.segments) where
  abbrev S : Segment
  S = segments (t / SLOTS)

  g_in : t / SLOTS < shape.segments
  g_in = let a = div-add-mod t SLOTS in omega (arith, a, t_in)

  within : t % SLOTS < length S.header.slots
  within = let a = slot_few t in omega (arith, a, (stand.in_order (t / SLOTS) g_in).header.slots_counted)

  own_set : (chs : List Change) → own (set lives t chs) t ≡ chs
  own_set chs = get_or-set_same lives t chs [] (omega (arith, t_in, stand.slots_counted))

  pub owed_back : (after : ℕ → Segment) (homes2 : ℕ → Home) (u : UndoRecord) → PutBack shape segments after homes homes2 t u → (ch : Change) (more : List Change) → own lives t ≡ ch ∷ more → owed shape after + 1 ≡ owed shape segments
  owed_back after homes2 u put ch more has =
      let s2 = back_segment segments t u in
      let by = owed_by shape segments after t t_in s2 put.others (back_other S (t % SLOTS) u.previous) in
      let here = slot_after segments after t s2 put.others in
      let active : (slot_of after t).state ≡ 1 = ap (λ (z : TableSlot). z.state) (here ∙ back_own S (t % SLOTS) u.previous within) ∙ put.active in
      let before = owes shape commit logged segments homes past lives stand t t_in put.active in
      let now = owes shape commit (logged + 1) after homes2 past (set lives t more) (standing_back shape commit logged segments homes past lives stand homes2 t u t_in after put ch more has) t t_in active in
      let a = ap length has in
      let b = ap length (own_set more) in
      omega (arith, by, before, now, a, b)

  pub owed_ended : (slot_of segments t).state ≡ 1 → own lives t ≡ [] → owed shape (ended_segments t segments) + 1 ≡ owed shape segments
  owed_ended active empty =
      let e : Segment = with_header (ended (t % SLOTS) S.header) S in
      let by = owed_by shape segments (ended_segments t segments) t t_in e (λ g. refl) (ended_other S (t % SLOTS) within active) in
      let here = slot_after segments (ended_segments t segments) t e (λ g. refl) in
      let none = idle_owes (slot_of (ended_segments t segments) t) (λ is. ended_done S (t % SLOTS) within active (ap (λ (z : TableSlot). z.state) (sym here) ∙ is)) in
      let before = owes shape commit logged segments homes past lives stand t t_in active in
      let a = ap length empty in
      omega (arith, by, none, before, a)

  pub owed_committed : (slot_of segments t).state ≡ 1 → (c : ℕ) → owed shape (committed_segments c t segments) + length (own lives t) + 1 ≡ owed shape segments
  owed_committed active c =
      let s2 : Segment = with_header (committed c (t % SLOTS) S.header) S in
      let by = owed_by shape segments (committed_segments c t segments) t t_in s2 (λ g. refl) (committed_other S (t % SLOTS) c) in
      let here = slot_after segments (committed_segments c t segments) t s2 (λ g. refl) ∙ committed_own S (t % SLOTS) c within in
      let none = idle_owes (slot_of (committed_segments c t segments) t) (λ is. let two : (slot_of (committed_segments c t segments) t).state ≡ 2 = ap (λ (z : TableSlot). z.state) here in omega (arith, is, two)) in
      let before = owes shape commit logged segments homes past lives stand t t_in active in
      omega (arith, by, none, before)

  pub owed_written : Running shape segments → (after : ℕ → Segment) (homes2 : ℕ → Home) (kind : Kind) (address : Uba) (u : UndoRecord) → Written shape commit segments after homes homes2 lives t kind address u → owed shape after ≡ owed shape segments + (if (slot_of segments t).state == 1 then 1 else 2)
  owed_written running after homes2 kind address u w =
      let order = stand.in_order (t / SLOTS) g_in in
      let keeps = keeps_of shape commit logged segments homes past lives stand running (t / SLOTS) g_in in
      let runs = running_of shape commit logged segments homes past lives stand running (t / SLOTS) g_in in
      let others = other_slot_same S (t % SLOTS) address u w.segment w.records commit logged order (slot_few t) keeps runs w.slot w.wrap in
      let by = owed_by shape segments after t t_in w.segment w.others others in
      let here = slot_after segments after t w.segment w.others in
      let active : (slot_of after t).state ≡ 1 = ap (λ (z : TableSlot). z.state) here ∙ state_own S (t % SLOTS) address u w.segment w.records commit logged order (slot_few t) keeps runs w.slot w.wrap in
      let chs = change_made shape t kind address u ∷ own lives t in
      let now = owes shape commit (logged + 1) after homes2 past (set lives t chs) (standing_written shape commit logged segments homes past lives stand running homes2 t kind address u t_in after w) t t_in active in
      let a = ap length (own_set chs) in
      elim (cases_eq (slot_of segments t).state 1) [
        | inl is ↦
            let before = owes shape commit logged segments homes past lives stand t t_in is in
            let test : ((slot_of segments t).state == 1) ≡ true = grind (arith, nat_tests) in
            rw test (omega (arith, by, before, now, a))
        | inr not ↦
            let none = idle_owes (slot_of segments t) not in
            let empty = ap length ((stand.slots t t_in).idle not) in
            let test : ((slot_of segments t).state == 1) ≡ false = grind (arith, nat_tests) in
            rw test (omega (arith, by, none, empty, now, a))
      ]
