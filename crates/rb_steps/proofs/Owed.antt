-- What is owed is little: each of a segment's 320 records is of one of its sixteen slots, and has one number there.
use Rattle.std.proofs.Common.{◌≡◌, ◌≢◌, inl, inr, ◌<◌, ◌≤◌, ◌+◌, ◌-◌, ◌*◌, ◌/◌, ◌%◌, ◌^◌, ◌==◌, cond, if◌then◌else◌, ℕ, zero, suc, Bool, true, false, List, [], ◌∷◌, length, get_or, Option, Some, None, is_some, refl, sym, ◌∙◌, ap, subst, arith}
use Rattle.std.proofs.Math.Nat.{le_trans, mod-lt}
use Rattle.std.proofs.lemmas.Bool.{cases_eq, cond-false, cond-true, eq-eqb, ne_eqb}
use Rattle.std.proofs.lemmas.List.Sums.{sum_by-cons}
use Rattle.std.specs.List.{range_with_len, sum_by}
use Rattle.rb_segment.specs.declared.headers.TheConstants.{SEGMENTS}
use Rattle.rb_base.specs.declared.sizes.TheConstants.{ACTIVE, SLOTS}
use Rattle.rb_ring.specs.declared.extents.TheConstants.{EXTENTS, EXTENT_RECORDS}
use Rattle.rb_base.specs.declared.ids.Uba.{Uba}
use Rattle.rb_base.specs.declared.ids.Xid.{Xid}
use Rattle.rb_base.specs.declared.shape.Shape.{Shape}
use Rattle.rb_model.specs.Book.{turn_of}
use Rattle.rb_model.proofs.DeadLemmas.{dead_owned}
use Rattle.rb_model.specs.Dead.{dead_at, dead_owed, dead_owed_at}
use Rattle.rb_model.specs.State.{State, owner_at, session_own}
use Rattle.rb_segment.specs.Header.{Segment, extent_with, position_of, record_in, slot_in, slot_owed, undo_in}
use Rattle.rb_segment.specs.Segments.{commit_scn, owed_in}
use Rattle.rb_segment.proofs.Records.{found, made_of}
use Rattle.law_blocks.specs.Standing.{env_of, homes_of, logged_of, segments_of}
use Rattle.law_blocks.proofs.Ids.{active_of}
use Rattle.law_blocks.proofs.States.{length_newest, lives_owned}
use Rattle.law_blocks.specs.States.{BlocksStand, Owns, lives_of, past_of}
use Rattle.law_blocks.specs.Values.{IsSaved, Listed, SlotStands, StandingAs, owed, slot_of, wraps_of, xid_in}
use Rattle.rb_txntable.specs.declared.slots.TableSlot.{TableSlot}
use Rattle.rb_undoblock.specs.Undo.{no_undo}
use Rattle.rb_undoblock.specs.declared.record.UndoRecord.{UndoRecord}
use Rattle.rb_steps.proofs.Writers.{owed_same}
use Rattle.law_write.proofs.Sums.{sum_none, sum_plus, sum_swap}
use Rattle.law_home.specs.Walk.{Change, own}

-- a sum isn't above one whose items aren't less
sum_below : (f g : ℕ → ℕ) (a n : ℕ) → ((i : ℕ) → a ≤ i → i < a + n → f i ≤ g i) → sum_by f (range_with_len a n) ≤ sum_by g (range_with_len a n)
sum_below f g a zero below = omega arith
sum_below f g a (suc n) below =
    let rest = sum_below f g (a + 1) n (λ i low high. below i (omega (arith, low)) (omega (arith, high))) in
    let here = below a (omega arith) (omega arith) in
    let x = sum_by-cons f a (range_with_len (a + 1) n) in
    let y = sum_by-cons g a (range_with_len (a + 1) n) in
    omega (arith, rest, here, x, y)

sum_ones : (a n : ℕ) → sum_by (λ i. 1) (range_with_len a n) ≡ n
sum_ones a zero = refl
sum_ones a (suc n) = let rest = sum_ones (a + 1) n in let c = sum_by-cons (λ i. 1) a (range_with_len (a + 1) n) in omega (arith, rest, c)

-- one of its items isn't above it
sum_some : (f : ℕ → ℕ) (a n t : ℕ) → a ≤ t → t < a + n → f t ≤ sum_by f (range_with_len a n)
sum_some f a zero t low high = absurd (omega (arith, low, high))
sum_some f a (suc n) t low high = elim (cases_eq a t) [
  | inl at ↦ let c = sum_by-cons f a (range_with_len (a + 1) n) in let is : f a ≡ f t = ap f at in omega (arith, c, is)
  | inr ne ↦ let c = sum_by-cons f a (range_with_len (a + 1) n) in let rest = sum_some f (a + 1) n t (omega (arith, low, ne)) (omega (arith, high)) in omega (arith, c, rest)
]

-- where one item at most counts, and it is 1
sum_lone : (f : ℕ → ℕ) (a n : ℕ) → ((i : ℕ) → f i ≤ 1) → ((i j : ℕ) → a ≤ i → i < a + n → a ≤ j → j < a + n → f i ≢ 0 → f j ≢ 0 → i ≡ j) → sum_by f (range_with_len a n) ≤ 1
sum_lone f a zero few lone = omega arith
sum_lone f a (suc n) few lone = elim (cases_eq (f a) 0) [
  | inl none ↦
      let rest = sum_lone f (a + 1) n few (λ i j low high low2 high2. lone i j (omega (arith, low)) (omega (arith, high)) (omega (arith, low2)) (omega (arith, high2))) in
      let c = sum_by-cons f a (range_with_len (a + 1) n) in
      omega (arith, rest, c, none)
  | inr some ↦
      let rest = sum_none f (a + 1) n (λ j low high. elim (cases_eq (f j) 0) [
        | inl none ↦ none
        | inr other ↦ let same = lone a j (omega arith) (omega arith) (omega (arith, low)) (omega (arith, high)) some other in absurd (omega (arith, same, low))
      ]) in
      let c = sum_by-cons f a (range_with_len (a + 1) n) in
      let here = few a in
      omega (arith, rest, c, here)
]

-- a range in two
sum_split : (f : ℕ → ℕ) (a m n k b : ℕ) → k ≡ m + n → b ≡ a + m → sum_by f (range_with_len a k) ≡ sum_by f (range_with_len a m) + sum_by f (range_with_len b n)
sum_split f a zero n k b all at =
    let is : k ≡ n = omega (arith, all) in
    let from : b ≡ a = omega (arith, at) in
    let same : sum_by f (range_with_len a k) ≡ sum_by f (range_with_len b n) = ap (λ (z : ℕ). sum_by f (range_with_len a z)) is ∙ ap (λ (z : ℕ). sum_by f (range_with_len z n)) (sym from) in
    let none : sum_by f (range_with_len a zero) ≡ 0 = refl in
    omega (arith, same, none)
sum_split f a (suc m) n zero b all at = absurd (omega (arith, all))
sum_split f a (suc m) n (suc k) b all at =
    let rest = sum_split f (a + 1) m n k b (omega (arith, all)) (omega (arith, at)) in
    let x = sum_by-cons f a (range_with_len (a + 1) k) in
    let y = sum_by-cons f a (range_with_len (a + 1) m) in
    omega (arith, rest, x, y)

-- n sixteens of up to 336
sum_sixteens : (f : ℕ → ℕ) (n : ℕ) → ((g : ℕ) → g < n → sum_by f (range_with_len (SLOTS * g) SLOTS) ≤ (EXTENTS * EXTENT_RECORDS + SLOTS)) → sum_by f (range_with_len 0 (SLOTS * n)) ≤ (EXTENTS * EXTENT_RECORDS + SLOTS) * n
sum_sixteens f zero few = omega arith
sum_sixteens f (suc n) few =
    let rest = sum_sixteens f n (λ g lt. few g (omega (arith, lt))) in
    let last = few n (omega arith) in
    let both = sum_split f 0 (SLOTS * n) SLOTS (SLOTS * suc n) (SLOTS * n) (omega arith) (omega arith) in
    omega (arith, rest, last, both)

-- where each of m rows has one in a column, and a column has no more of them than it counts
rows_few : (f : ℕ → ℕ → ℕ) (g : ℕ → ℕ) (m n : ℕ) → ((k : ℕ) → 1 ≤ k → k ≤ m → 1 ≤ sum_by (f k) (range_with_len 0 n)) → ((p : ℕ) → sum_by (λ k. f k p) (range_with_len 1 m) ≤ g p) → m ≤ sum_by g (range_with_len 0 n)
rows_few f g m n row column =
    let ones = sum_ones 1 m in
    let each = sum_below (λ k. 1) (λ k. sum_by (f k) (range_with_len 0 n)) 1 m (λ k low high. row k low (omega (arith, high))) in
    let swap = sum_swap f (range_with_len 1 m) (range_with_len 0 n) in
    let columns = sum_below (λ p. sum_by (λ k. f k p) (range_with_len 1 m)) g 0 n (λ p low high. column p) in
    omega (arith, ones, each, swap, columns)

-- where a column of m has one at most, n rows have m together
grid_few : (f : ℕ → ℕ → ℕ) (a n m : ℕ) → ((p : ℕ) → sum_by (λ k. f k p) (range_with_len a n) ≤ 1) → sum_by (λ k. sum_by (f k) (range_with_len 0 m) + 1) (range_with_len a n) ≤ m + n
grid_few f a n m column =
    let parts = sum_plus (λ k. sum_by (f k) (range_with_len 0 m)) (λ k. 1) (range_with_len a n) in
    let ones = sum_ones a n in
    let swap = sum_swap f (range_with_len a n) (range_with_len 0 m) in
    let columns = sum_below (λ p. sum_by (λ k. f k p) (range_with_len a n)) (λ p. 1) 0 m (λ p low high. column p) in
    let all = sum_ones 0 m in
    omega (arith, parts, ones, swap, columns, all)

-- what counts, or nothing
cond_few : (b : Bool) (n : ℕ) → n ≤ 1 → cond b n 0 ≤ 1
cond_few true n few = few
cond_few false n few = omega arith

cond_yes : (m n k : ℕ) → cond (m == n) k 0 ≢ 0 → m ≡ n
cond_yes m n k some = elim (cases_eq m n) [
  | inl same ↦ same
  | inr ne ↦ absurd (some (cond-false {A = ℕ} (m == n) k 0 (ne_eqb m n ne)))
]

-- a slot owes one more than its live records
owes_few : (slot : TableSlot) (n : ℕ) → (slot.state ≡ 1 → slot.live ≤ n) → slot_owed slot ≤ n + 1
owes_few slot n few = elim (cases_eq slot.state 1) [
  | inl active ↦ let owes = cond-true {A = ℕ} (slot.state == 1) (slot.live + 1) 0 (eq-eqb slot.state 1 active) in omega (arith, owes, few active)
  | inr idle ↦ let owes = cond-false {A = ℕ} (slot.state == 1) (slot.live + 1) 0 (ne_eqb slot.state 1 idle) in omega (arith, owes)
]

-- the places of a segment's records
abbrev Places : List ℕ
Places = range_with_len 0 (EXTENTS * EXTENT_RECORDS)

abbrev at_place : Segment → ℕ → UndoRecord
at_place s p = get_or s.undo p no_undo

-- whether the record at a place is of slot i, and whether it is number n of its transaction
abbrev is_of : Segment → ℕ → ℕ → ℕ
is_of s i p = cond ((at_place s p).slot == i) 1 0

abbrev is_number : Segment → ℕ → ℕ → ℕ
is_number s n p = cond ((at_place s p).number == n) 1 0

abbrev is_both : Segment → ℕ → ℕ → ℕ → ℕ
is_both s i n p = cond ((at_place s p).slot == i) (is_number s n p) 0

-- a record that there is stands at a place
record Placed (s : Segment) (r : UndoRecord) : Type 0 where
  place : ℕ
  few : place < (EXTENTS * EXTENT_RECORDS)
  is : at_place s place ≡ r

placed : (s : Segment) (k : ℕ) (r : UndoRecord) → length s.header.extents ≡ EXTENTS → record_in s k ≡ Some r → Placed s r
placed s k r eight is = by (extent_with s.header.extents (turn_of k)) refl (made_of s k r is).2
  where
    forty : 0 < EXTENT_RECORDS
    forty = omega arith

    by : (o : Option ℕ) → extent_with s.header.extents (turn_of k) ≡ o → undo_in s.undo (position_of k) o ≡ Some r → Placed s r
    by None at is = let never : None ≡ Some r = is in absurd cc
    by (Some e) at is =
        let there = found s.header.extents (turn_of k) e at in
        let position = mod-lt (k - 1) forty in
        let same : Some (at_place s (EXTENT_RECORDS * e + position_of k)) ≡ Some r = is in
        record { place = EXTENT_RECORDS * e + position_of k; few = omega (arith, there.0, position, eight); is = cc }

module _ (s : Segment) (eight : length s.header.extents ≡ EXTENTS) where
  -- each live record of a slot, by its number
  counted : (shape : Shape) (x : Xid) (Saved : UndoRecord → Type 0) (uba : Uba) (chs : List Change) → Listed shape s x Saved uba chs → (n : ℕ) → 1 ≤ n → n ≤ length chs → 1 ≤ sum_by (is_both s x.slot n) Places
  counted shape x Saved uba [] listed n first last = absurd (omega (arith, first, last))
  counted shape x Saved uba (ch ∷ more) listed n first last = elim (cases_eq n (suc (length more))) [
    | inl at ↦
        let p = placed s ch.place.index listed.4.0 eight listed.4.1 in
        let slot : (at_place s p.place).slot ≡ x.slot = ap (λ (u : UndoRecord). u.slot) p.is ∙ listed.4.2 in
        let number : (at_place s p.place).number ≡ n = ap (λ (u : UndoRecord). u.number) p.is ∙ (listed.4.4 ∙ sym at) in
        let both = cond-true {A = ℕ} ((at_place s p.place).slot == x.slot) (is_number s n p.place) 0 (eq-eqb (at_place s p.place).slot x.slot slot) in
        let one = cond-true {A = ℕ} ((at_place s p.place).number == n) 1 0 (eq-eqb (at_place s p.place).number n number) in
        let some = sum_some (is_both s x.slot n) 0 (EXTENTS * EXTENT_RECORDS) p.place (omega arith) (let f = p.few in omega (arith, f)) in
        omega (arith, both, one, some)
    | inr ne ↦ counted shape x Saved listed.4.0.previous more listed.4.7 n first (omega (arith, last, ne))
  ]

  -- a place has one number
  one_number : (i m p : ℕ) → sum_by (λ n. is_both s i n p) (range_with_len 1 m) ≤ is_of s i p
  one_number i m p = elim (cases_eq (at_place s p).slot i) [
    | inl same ↦
        let here = cond-true {A = ℕ} ((at_place s p).slot == i) 1 0 (eq-eqb (at_place s p).slot i same) in
        let few = sum_lone (λ n. is_both s i n p) 1 m (λ n. cond_few ((at_place s p).slot == i) (is_number s n p) (cond_few ((at_place s p).number == n) 1 (omega arith)))
        (λ n k low high low2 high2 one two. sym (number n one) ∙ number k two) in
        omega (arith, here, few)
    | inr ne ↦ let none = sum_none (λ n. is_both s i n p) 1 m (λ n low high. cond-false {A = ℕ} ((at_place s p).slot == i) (is_number s n p) 0 (ne_eqb (at_place s p).slot i ne)) in omega (arith, none)
  ]
    where
      number : (n : ℕ) → is_both s i n p ≢ 0 → (at_place s p).number ≡ n
      number n some =
          let slot = cond_yes (at_place s p).slot i (is_number s n p) some in
          let both = cond-true {A = ℕ} ((at_place s p).slot == i) (is_number s n p) 0 (eq-eqb (at_place s p).slot i slot) in
          cond_yes (at_place s p).number n 1 (λ none. some (both ∙ none))

  -- so a slot has no more live records than there are of it
  lives_few : (shape : Shape) (x : Xid) (Saved : UndoRecord → Type 0) (uba : Uba) (chs : List Change) → Listed shape s x Saved uba chs → length chs ≤ sum_by (is_of s x.slot) Places
  lives_few shape x Saved uba chs listed = rows_few (is_both s x.slot) (is_of s x.slot) (length chs) (EXTENTS * EXTENT_RECORDS) (counted shape x Saved uba chs listed) (one_number x.slot (length chs))

  slot_few : (shape : Shape) (commit : ℕ) (wraps : ℕ → ℕ → ℕ) (g i : ℕ) (chs : List Change) → SlotStands shape commit wraps g s i chs → slot_owed (slot_in s.header i) ≤ sum_by (is_of s i) Places + 1
  slot_few shape commit wraps g i chs slot = owes_few (slot_in s.header i) (sum_by (is_of s i) Places) (λ active.
      let is = slot.active active in
      subst (λ (z : ℕ). z ≤ sum_by (is_of s i) Places) (sym is.count) (lives_few shape (xid_in g s i) (IsSaved shape commit wraps) (slot_in s.header i).newest_at chs is.listed))

  -- a place has one slot
  one_slot : (g p : ℕ) → sum_by (λ t. is_of s (t % SLOTS) p) (range_with_len (SLOTS * g) SLOTS) ≤ 1
  one_slot g p = sum_lone (λ t. is_of s (t % SLOTS) p) (SLOTS * g) SLOTS (λ t. cond_few ((at_place s p).slot == t % SLOTS) 1 (omega arith)) same
    where
      same : (t u : ℕ) → SLOTS * g ≤ t → t < SLOTS * g + SLOTS → SLOTS * g ≤ u → u < SLOTS * g + SLOTS → is_of s (t % SLOTS) p ≢ 0 → is_of s (u % SLOTS) p ≢ 0 → t ≡ u
      same t u low high low2 high2 one two =
          let a = cond_yes (at_place s p).slot (t % SLOTS) 1 one in
          let b = cond_yes (at_place s p).slot (u % SLOTS) 1 two in
          omega (arith, low, high, low2, high2, a, b)

  -- the sixteen slots together
  slots_few : (g : ℕ) → sum_by (λ t. sum_by (is_of s (t % SLOTS)) Places + 1) (range_with_len (SLOTS * g) SLOTS) ≤ (EXTENTS * EXTENT_RECORDS + SLOTS)
  slots_few g = grid_few (λ t. is_of s (t % SLOTS)) (SLOTS * g) SLOTS (EXTENTS * EXTENT_RECORDS) (one_slot g)

module _ (h : State) (xids : List Xid) (blocks : List (List ℕ)) (stand : BlocksStand h xids blocks) where
  abbrev Segs : ℕ → Segment
  Segs = segments_of h.shape blocks

  stands : StandingAs h.shape (commit_scn h.shape blocks) (logged_of h.shape blocks) Segs (homes_of h.shape blocks) (past_of h xids) (lives_of h (env_of h.shape blocks))
  stands = stand.standing.stands

  eight : (g : ℕ) → g < h.shape.segments → length (Segs g).header.extents ≡ EXTENTS
  eight g g_in = (stands.in_order g g_in).header.extents_counted

  segment_few : (g : ℕ) → g < h.shape.segments → sum_by (λ t. slot_owed (slot_of Segs t)) (range_with_len (SLOTS * g) SLOTS) ≤ (EXTENTS * EXTENT_RECORDS + SLOTS)
  segment_few g g_in =
      le_trans (sum_below (λ t. slot_owed (slot_of Segs t)) (λ t. sum_by (is_of (Segs g) (t % SLOTS)) Places + 1) (SLOTS * g) SLOTS each) (slots_few (Segs g) (eight g g_in) g)
    where
      each : (t : ℕ) → SLOTS * g ≤ t → t < SLOTS * g + SLOTS → slot_owed (slot_of Segs t) ≤ sum_by (is_of (Segs g) (t % SLOTS)) Places + 1
      each t low high =
          let at : t / SLOTS ≡ g = omega (arith, low, high) in
          let t_in : t < SLOTS * h.shape.segments = omega (arith, high, g_in) in
          subst (λ (z : ℕ). slot_owed (slot_of Segs t) ≤ sum_by (is_of (Segs z) (t % SLOTS)) Places + 1) at
          (slot_few (Segs (t / SLOTS)) (eight (t / SLOTS) (omega (arith, at, g_in))) h.shape (commit_scn h.shape blocks) (wraps_of Segs) (t / SLOTS) (t % SLOTS) (own (lives_of h (env_of h.shape blocks)) t) (stands.slots t t_in))

  owed_few : owed h.shape Segs ≤ (EXTENTS * EXTENT_RECORDS + SLOTS) * h.shape.segments
  owed_few = sum_sixteens (λ t. slot_owed (slot_of Segs t)) h.shape.segments segment_few

  -- what the dead have is a part of it
  dead_below : (t : ℕ) → t < SLOTS * h.shape.segments → dead_owed_at h (dead_at h t) ≤ slot_owed (slot_of Segs t)
  dead_below t t_in = by (dead_at h t) refl
    where
      by : (o : Option ℕ) → dead_at h t ≡ o → dead_owed_at h o ≤ slot_owed (slot_of Segs t)
      by None at = omega arith
      by (Some d) at =
          let p = dead_owned (owner_at h t) d at in
          let owns : Owns h d t = record { owner = p.0; at = p.1; session = p.2 } in
          let state : (slot_of Segs t).state ≡ ACTIVE = active_of h Segs stand.tell.books t t_in p.0 p.1 in
          let count = ((stands.slots t t_in).active state).count in
          let own_is : length (own (lives_of h (env_of h.shape blocks)) t) ≡ length (session_own h d) + 0 = ap (λ (l : List Change). length l) (lives_owned h (env_of h.shape blocks) d t t_in owns) ∙ length_newest h.shape ((env_of h.shape blocks).xid t) 1 (session_own h d) [] in
          let here : slot_owed (slot_of Segs t) ≡ (slot_of Segs t).live + 1 = cond-true ((slot_of Segs t).state == ACTIVE) ((slot_of Segs t).live + 1) 0 (eq-eqb (slot_of Segs t).state ACTIVE state) in
          omega (arith, count, own_is, here)

  pub dead_few : dead_owed h ≤ 2 ^ 13
  dead_few =
      let below : dead_owed h ≤ owed h.shape Segs = sum_below (λ t. dead_owed_at h (dead_at h t)) (λ t. slot_owed (slot_of Segs t)) 0 (16 * h.shape.segments) (λ t low high. dead_below t (omega (arith, high))) in
      let all = owed_few in
      let segments = stand.tell.in_range.few_segments.1 in
      omega (arith, below, all, segments)

-- how many groups put back what is under way after a write of a transaction that has its slot, or takes one
abbrev pub owed_after : Shape → List (List ℕ) → Option Xid → ℕ
owed_after shape blocks own = owed_in shape blocks + (if is_some own then 1 else 2)

-- So it is after a write, in at most 16 segments.
pub after_few : (h : State) (xids : List Xid) (blocks : List (List ℕ)) (own : Option Xid) → BlocksStand h xids blocks → owed_after h.shape blocks own ≤ 2 ^ 13
after_few h xids blocks own stand = by (is_some own)
  where
    few : owed_in h.shape blocks ≤ (EXTENTS * EXTENT_RECORDS + SLOTS) * SEGMENTS
    few = let o = owed_same h blocks in let all = owed_few h xids blocks stand in let segments = stand.tell.in_range.few_segments.1 in omega (arith, o, all, segments)

    by : (b : Bool) → owed_in h.shape blocks + (if b then 1 else 2) ≤ 2 ^ 13
    by true = let f = few in omega (arith, f)
    by false = let f = few in omega (arith, f)
