-- Segments and homes as they are read from the blocks of a file after a group, and the file's commit number by the segments'
-- slots.
use Rattle.std.proofs.Common.{◌≡◌, ◌≢◌, ◌⊎◌, inl, inr, ◌<◌, ◌≤◌, ◌+◌, ◌*◌, ◌/◌, ◌%◌, ℕ, List, map, refl, sym, ◌∙◌, ap, arith}
use Rattle.std.proofs.lemmas.Bool.{cases_eq}
use Rattle.std.proofs.lemmas.List.FromFn.{get_or-map-range_with_len}
use Rattle.std.proofs.Math.Nat.{div-add-mod}
use Rattle.std.specs.List.{range_with_len}
use Rattle.rb_undoblock.specs.declared.record.TheConstants.{UNDO_RECORDS}
use Rattle.rb_base.specs.declared.sizes.TheConstants.{SLOTS}
use Rattle.rb_ring.specs.declared.extents.TheConstants.{EXTENTS, EXTENT_RECORDS}
use Rattle.rb_base.specs.Blocks.{block_of, header_block, table_blocks}
use Rattle.rb_base.specs.declared.shape.Shape.{Shape}
use Rattle.rb_heap.specs.Homes.{home_of}
use Rattle.rb_segment.specs.Header.{Header, Segment, header_of, segment_of, slot_in, undo_block}
use Rattle.rb_segment.specs.Moves.{with_header, with_segment, taken_back, committed, ended}
use Rattle.rb_segment.specs.Segments.{commit_scn}
use Rattle.law_blocks.specs.Groups.{GroupOn, IsPutBack, IsCommitted, IsEnded}
use Rattle.law_blocks.specs.Says.{walk_home}
use Rattle.law_blocks.specs.Standing.{segments_of, homes_of}
use Rattle.law_blocks.specs.Values.{slot_of}
use Rattle.law_blocks.specs.Writes.{back_segment, committed_segments, ended_segments}
use Rattle.rb_txntable.specs.Slots.{slot_at, slot_newest, no_slot}
use Rattle.rb_txntable.specs.declared.slots.TableSlot.{TableSlot}
use Rattle.rb_undoblock.specs.Undo.{undo_at, no_undo}
use Rattle.rb_undoblock.specs.declared.record.UndoRecord.{UndoRecord}
use Rattle.rb_base.proofs.Listed.{listed_same}
use Rattle.rb_segment.proofs.Numbers.{commit_least, commit_above}
use Rattle.rb_segment.proofs.WithSegment.{at_segment, off_segment}
use Rattle.law_blocks.proofs.Group.{block_stays}

slot_is : (block : List ℕ) (i : ℕ) → i < SLOTS → slot_in (header_of block) i ≡ slot_at block i
unfolding header_of
slot_is block i few = get_or-map-range_with_len (slot_at block) 0 SLOTS i i no_slot few (omega arith)

pub header_is : (shape : Shape) (blocks : List (List ℕ)) (g : ℕ) → (segments_of shape blocks g).header ≡ header_of (block_of blocks (header_block shape g))
unfolding segment_of
header_is shape blocks g = refl

-- the newest number of a slot, in the bytes of its header
pub newest_is : (shape : Shape) (blocks : List (List ℕ)) (g i : ℕ) → i < SLOTS → (slot_in (segments_of shape blocks g).header i).newest ≡ slot_newest (block_of blocks (header_block shape g)) i
newest_is shape blocks g i few =
    ap (λ (z : Header). (slot_in z i).newest) (header_is shape blocks g)
    ∙ ap (λ (z : TableSlot). z.newest) (slot_is (block_of blocks (header_block shape g)) i few)

-- The commit number is the least that no slot's newest is above.
pub scn_above : (shape : Shape) (blocks : List (List ℕ)) (t : ℕ) → t < SLOTS * shape.segments → (slot_of (segments_of shape blocks) t).newest ≤ commit_scn shape blocks
scn_above shape blocks t t_in =
    let a = div-add-mod t SLOTS in
    let b = newest_is shape blocks (t / SLOTS) (t % SLOTS) (omega arith) in
    let c = commit_above shape blocks (t / SLOTS) (t % SLOTS) (omega (arith, a, t_in)) (omega arith) in
    omega (arith, b, c)

pub scn_least : (shape : Shape) (blocks : List (List ℕ)) (n : ℕ) → ((t : ℕ) → t < SLOTS * shape.segments → (slot_of (segments_of shape blocks) t).newest ≤ n) → commit_scn shape blocks ≤ n
scn_least shape blocks n within = commit_least shape blocks n (λ g i g_in few.
    let d : (SLOTS * g + i) / SLOTS ≡ g = omega (arith, few) in
    let m : (SLOTS * g + i) % SLOTS ≡ i = omega (arith, few) in
    let a = within (SLOTS * g + i) (omega (arith, g_in, few)) in
    let b : (slot_in (segments_of shape blocks ((SLOTS * g + i) / SLOTS)).header ((SLOTS * g + i) % SLOTS)).newest ≡ (slot_in (segments_of shape blocks g).header i).newest = rw (d, m) refl in
    let c = newest_is shape blocks g i few in
    omega (arith, a, b, c))

-- by the segments alone
pub scn_same : (shape : Shape) (blocks now : List (List ℕ)) → ((t : ℕ) → t < SLOTS * shape.segments → (slot_of (segments_of shape now) t).newest ≡ (slot_of (segments_of shape blocks) t).newest) → commit_scn shape now ≡ commit_scn shape blocks
scn_same shape blocks now same =
    let low = scn_least shape now (commit_scn shape blocks) (λ t t_in. let a = same t t_in in let b = scn_above shape blocks t t_in in omega (arith, a, b)) in
    let high = scn_least shape blocks (commit_scn shape now) (λ t t_in. let a = same t t_in in let b = scn_above shape now t t_in in omega (arith, a, b)) in
    omega (arith, low, high)

-- a segment whose undo blocks are as before
pub undo_stays : (shape : Shape) (before now : List (List ℕ)) (g : ℕ) → ((i : ℕ) → i < (EXTENTS * EXTENT_RECORDS) → block_of now (undo_block shape g i) ≡ block_of before (undo_block shape g i)) → segments_of shape now g ≡ with_header (header_of (block_of now (header_block shape g))) (segments_of shape before g)
unfolding segment_of
undo_stays shape before now g same =
    let undo : map (λ i. undo_at (block_of now (undo_block shape g i)) (i % UNDO_RECORDS)) (range_with_len 0 (EXTENTS * EXTENT_RECORDS)) ≡ map (λ i. undo_at (block_of before (undo_block shape g i)) (i % UNDO_RECORDS)) (range_with_len 0 (EXTENTS * EXTENT_RECORDS)) = listed_same (λ i. undo_at (block_of now (undo_block shape g i)) (i % UNDO_RECORDS)) (λ i. undo_at (block_of before (undo_block shape g i)) (i % UNDO_RECORDS)) (EXTENTS * EXTENT_RECORDS) no_undo (λ i few. ap (λ (z : List ℕ). undo_at z (i % UNDO_RECORDS)) (same i few)) in
    ap (λ (z : List UndoRecord). let s : Segment = record { header = header_of (block_of now (header_block shape g)); undo = z } in s) undo

-- and its header too
pub segment_stays : (shape : Shape) (before now : List (List ℕ)) (g : ℕ) → ((i : ℕ) → i < (EXTENTS * EXTENT_RECORDS) → block_of now (undo_block shape g i) ≡ block_of before (undo_block shape g i)) → header_of (block_of now (header_block shape g)) ≡ header_of (block_of before (header_block shape g)) → segments_of shape now g ≡ segments_of shape before g
segment_stays shape before now g same header =
    undo_stays shape before now g same
    ∙ (ap (λ (z : Header). with_header z (segments_of shape before g)) (header ∙ sym (header_is shape before g)))

pub home_stays : (shape : Shape) (before now : List (List ℕ)) (b : ℕ) → block_of now b ≡ block_of before b → homes_of shape now b ≡ homes_of shape before b
home_stays shape before now b same = ap (λ (z : List ℕ). walk_home shape b (home_of z)) same

-- a block of rows, or the header of segment g
abbrev pub RowsOrHeader : Shape → ℕ → ℕ → Type 0
RowsOrHeader shape g b = (b < table_blocks shape) ⊎ (b ≡ header_block shape g)

-- a group that patches blocks of rows and the header of segment g alone
module _ (shape : Shape) (Is : ℕ → Type 0) (before now : List (List ℕ)) (group : GroupOn shape Is before now) (g : ℕ) (only : (b : ℕ) → Is b → RowsOrHeader shape g b) where
  undo_apart : (k i : ℕ) → i < (EXTENTS * EXTENT_RECORDS) → Is (undo_block shape k i) → ⊥
  undo_apart k i few is = elim (only (undo_block shape k i) is) [
    | inl rows ↦ absurd (omega (arith, rows))
    | inr header ↦ absurd (omega (arith, header, few))
  ]

  header_apart : (k : ℕ) → k ≢ g → Is (header_block shape k) → ⊥
  header_apart k ne is = elim (only (header_block shape k) is) [
    | inl rows ↦ absurd (omega (arith, rows))
    | inr header ↦ ne (omega (arith, header))
  ]

  undo_same : (k i : ℕ) → i < (EXTENTS * EXTENT_RECORDS) → block_of now (undo_block shape k i) ≡ block_of before (undo_block shape k i)
  undo_same k i few = block_stays shape Is before now group (undo_block shape k i) (undo_apart k i few)

  pub segments_off : (k : ℕ) → k ≢ g → segments_of shape now k ≡ segments_of shape before k
  segments_off k ne = segment_stays shape before now k (undo_same k) (ap header_of (block_stays shape Is before now group (header_block shape k) (header_apart k ne)))

  pub segments_moved : (moved : Header) → header_of (block_of now (header_block shape g)) ≡ moved → segments_of shape now ≡ with_segment g (with_header moved (segments_of shape before g)) (segments_of shape before)
  segments_moved moved is = λ i k. each k i
    where
      each : (k : ℕ) → segments_of shape now k ≡ with_segment g (with_header moved (segments_of shape before g)) (segments_of shape before) k
      each k = elim (cases_eq k g) [
        | inl at ↦
            ap (segments_of shape now) at
            ∙ (undo_stays shape before now g (undo_same g)
            ∙ (ap (λ (z : Header). with_header z (segments_of shape before g)) is
            ∙ (sym (at_segment g (with_header moved (segments_of shape before g)) (segments_of shape before))
            ∙ ap (with_segment g (with_header moved (segments_of shape before g)) (segments_of shape before)) (sym at))))
        | inr ne ↦ segments_off k ne ∙ sym (off_segment g k (with_header moved (segments_of shape before g)) (segments_of shape before) ne)
      ]

  -- where the header stays too
  pub segments_stay : (Is (header_block shape g) → ⊥) → segments_of shape now ≡ segments_of shape before
  segments_stay not = λ i k. each k i
    where
      each : (k : ℕ) → segments_of shape now k ≡ segments_of shape before k
      each k = elim (cases_eq k g) [
        | inl at ↦ ap (segments_of shape now) at ∙ (segment_stays shape before now g (undo_same g) (ap header_of (block_stays shape Is before now group (header_block shape g) not)) ∙ ap (segments_of shape before) (sym at))
        | inr ne ↦ segments_off k ne
      ]

pub segments_put_back : (shape : Shape) (t : ℕ) (u : UndoRecord) (before now : List (List ℕ)) → u.home < table_blocks shape → IsPutBack shape t u before now → segments_of shape now ≡ with_segment (t / SLOTS) (back_segment (segments_of shape before) t u) (segments_of shape before)
segments_put_back shape t u before now home_in is =
    segments_moved shape (λ x. (x ≡ u.home) ⊎ (x ≡ header_block shape (t / SLOTS))) before now is.group (t / SLOTS) (λ x. elim [ inl at ↦ inl (omega (arith, at, home_in)) | inr at ↦ inr at ])
    (taken_back (t % SLOTS) u.previous (segments_of shape before (t / SLOTS)).header)
    (is.header ∙ ap (taken_back (t % SLOTS) u.previous) (sym (header_is shape before (t / SLOTS))))

pub segments_committed : (shape : Shape) (t c : ℕ) (before now : List (List ℕ)) → IsCommitted shape t c before now → segments_of shape now ≡ committed_segments c t (segments_of shape before)
segments_committed shape t c before now is =
    segments_moved shape (λ x. x ≡ header_block shape (t / SLOTS)) before now is.group (t / SLOTS) (λ x at. inr at)
    (committed c (t % SLOTS) (segments_of shape before (t / SLOTS)).header)
    (is.header ∙ ap (committed c (t % SLOTS)) (sym (header_is shape before (t / SLOTS))))

pub segments_ended : (shape : Shape) (t : ℕ) (before now : List (List ℕ)) → IsEnded shape t before now → segments_of shape now ≡ ended_segments t (segments_of shape before)
segments_ended shape t before now is =
    segments_moved shape (λ x. x ≡ header_block shape (t / SLOTS)) before now is.group (t / SLOTS) (λ x at. inr at)
    (ended (t % SLOTS) (segments_of shape before (t / SLOTS)).header)
    (is.header ∙ ap (ended (t % SLOTS)) (sym (header_is shape before (t / SLOTS))))
