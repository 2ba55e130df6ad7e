-- No group makes a slot entry tell less than it told, but the one that a write takes over or a put back gives back.
use Rattle.std.proofs.Common.{◌≡◌, ◌≢◌, ◌⊎◌, inl, inr, ◌<◌, ◌+◌, ◌*◌, ◌/◌, ℕ, List, length, ap, ◌∙◌, arith}
use Rattle.std.proofs.Math.Nat.{div-add-mod}
use Rattle.std.proofs.lemmas.Bool.{cases_eq}
use Rattle.std.proofs.lemmas.List.{get_or-map, get_or-set_other, get_or-set_same}
use Rattle.rb_base.specs.declared.sizes.TheConstants.{SLOTS}
use Rattle.rb_base.specs.Blocks.{block_of, header_block, table_blocks}
use Rattle.rb_base.specs.declared.ids.Xid.{Xid}
use Rattle.rb_base.specs.declared.shape.Shape.{Shape}
use Rattle.rb_heap.proofs.Reading.{entries_counted}
use Rattle.rb_heap.specs.Cleaning.{back_home, cleaned_entry, cleaned_home}
use Rattle.rb_heap.specs.Homes.{Home, home_entry, home_of}
use Rattle.law_crash.specs.Made.{BackMade, CleanMade, WriteMade, entry_in}
use Rattle.rb_itl.specs.Entries.{entry_of, free_entry}
use Rattle.law_crash.specs.Keeps.{KeepsBut, KeepsRows, TellsNoLess}
use Rattle.rb_model.specs.Calls.{Action}
use Rattle.rb_model.specs.Change.{Change}
use Rattle.rb_model.specs.State.{State}
use Rattle.rb_segment.specs.Header.{SegmentInOrder}
use Rattle.rb_segment.specs.Segments.{commit_scn}
use Rattle.law_blocks.specs.Groups.{GroupOn}
use Rattle.law_blocks.specs.Standing.{env_of, logged_of, segments_of}
use Rattle.law_blocks.specs.States.{BlocksStand}
use Rattle.law_blocks.specs.Writing.{entry_after}
use Rattle.law_blocks.proofs.Group.{block_stays}
use Rattle.law_blocks.proofs.SegmentRecorded as segment
use Rattle.rb_undoblock.specs.declared.record.UndoRecord.{UndoRecord}
use Rattle.rb_cell.specs.Cells.{cell_of}

-- a group of a header leaves each block of rows
pub rows_kept : (shape : Shape) (g : ℕ) (before now : List (List ℕ)) → GroupOn shape (λ x. x ≡ header_block shape g) before now → KeepsRows shape before now
rows_kept shape g before now group b b_in = block_stays shape (λ x. x ≡ header_block shape g) before now group b (λ at. omega (arith, at, b_in))

-- an entry of a block that stays
pub same_block : (shape : Shape) (before now : List (List ℕ)) (b i : ℕ) → block_of now b ≡ block_of before b → TellsNoLess shape before now b i
same_block shape before now b i same = inl (ap (λ (block : List ℕ). home_entry (home_of block) i) same)

-- and of one that is cleaned
cleaned_at : (shape : Shape) (before : List (List ℕ)) (b i : ℕ) → i < 8 → home_entry (cleaned_home (env_of shape before).look (home_of (block_of before b))) i ≡ cleaned_entry (env_of shape before).look (entry_in before b i)
cleaned_at shape before b i few =
    let eight = entries_counted (block_of before b) in
    get_or-map (cleaned_entry (env_of shape before).look) (home_of (block_of before b)).entries i free_entry free_entry (omega (arith, few, eight))

pub clean_kept : (h : State) (xids : List Xid) (block : ℕ) (before now : List (List ℕ)) → CleanMade h xids block before now → (b i : ℕ) → i < 8 → TellsNoLess h.shape before now b i
clean_kept h xids block before now made b i few = elim (cases_eq b block) [
  | inl at ↦ here b at
  | inr off ↦ same_block h.shape before now b i (made.others b off)
]
  where
    here : (b : ℕ) → b ≡ block → TellsNoLess h.shape before now b i
    here b at = rw at (inr (ap (λ (home : Home). home_entry home i) made.home ∙ cleaned_at h.shape before block i few))

-- a put back
module _ (h : State) (xids : List Xid) (s : ℕ) (front : List Change) (before now : List (List ℕ)) (made : BackMade h xids s front before now) (few : made.undo.entry < 8) where
  abbrev U : UndoRecord
  U = made.undo

  abbrev Was : Home
  Was = home_of (block_of before U.home)

  abbrev Back : Home
  Back = back_home U.entry (entry_of U.entry_before) U.cell (cell_of U.cell_before) Was

  eight : length Was.entries ≡ 8
  eight = entries_counted (block_of before U.home)

  pub back_entry : entry_in now U.home U.entry ≡ entry_of U.entry_before
  back_entry = ap (λ (home : Home). home_entry home U.entry) made.group.home ∙ get_or-set_same Was.entries U.entry (entry_of U.entry_before) free_entry (omega (arith, few, eight))

  pub back_kept : KeepsBut h.shape U.home U.entry before now
  back_kept b i b_in i_in = elim (cases_eq b U.home) [
    | inl home ↦ elim (cases_eq i U.entry) [
      | inl entry ↦ inl (home, entry)
      | inr off ↦ inr (inl (here b home i off))
    ]
    | inr other ↦ inr (same_block h.shape before now b i (block_stays h.shape (λ x. (x ≡ U.home) ⊎ (x ≡ header_block h.shape (made.slot / SLOTS))) before now made.group.group b (λ at. elim at [
      | inl home ↦ other home
      | inr head ↦ omega (arith, head, b_in)
    ])))
  ]
    where
      here : (b : ℕ) → b ≡ U.home → (i : ℕ) → i ≢ U.entry → entry_in now b i ≡ entry_in before b i
      here b at i off = rw at (ap (λ (home : Home). home_entry home i) made.group.home ∙ get_or-set_other Was.entries U.entry i (entry_of U.entry_before) free_entry off)

-- a write
module _ (h : State) (xids : List Xid) (s table key : ℕ) (action : Action) (x : Xid) (before now : List (List ℕ)) (stand : BlocksStand h xids before) (t_in : SLOTS * x.seg + x.slot < SLOTS * h.shape.segments) (made : WriteMade h xids s table key action x before now) where
  abbrev V : UndoRecord
  V = made.undo

  abbrev T : ℕ
  T = SLOTS * x.seg + x.slot

  order : SegmentInOrder (commit_scn h.shape before) (logged_of h.shape before) (segments_of h.shape before (T / SLOTS))
  order = stand.standing.stands.in_order (T / SLOTS) (let a = div-add-mod T SLOTS in omega (arith, a, t_in))

  row_stays : (b : ℕ) → b < table_blocks h.shape → b ≢ V.home → block_of now b ≡ block_of before b
  row_stays b b_in ne =
      let a = segment.address_within h.shape T made.address V before now (commit_scn h.shape before) (logged_of h.shape before) order made.group.recorded in
      block_stays h.shape (λ x. (x ≡ V.home) ⊎ (x ≡ header_block h.shape (T / SLOTS)) ⊎ (x ≡ made.address.block)) before now made.group.group b (λ at. elim at [
        | inl home ↦ ne home
        | inr other ↦ elim other [ inl head ↦ omega (arith, head, b_in) | inr undo ↦ omega (arith, undo, b_in, a) ]
      ])

  abbrev Cleaned : Home
  Cleaned = cleaned_home (env_of h.shape before).look (home_of (block_of before V.home))

  pub write_kept : KeepsBut h.shape V.home V.entry before now
  write_kept b i b_in i_in = elim (cases_eq b V.home) [
    | inl home ↦ elim (cases_eq i V.entry) [
      | inl entry ↦ inl (home, entry)
      | inr off ↦ inr (here b home i off i_in)
    ]
    | inr other ↦ inr (same_block h.shape before now b i (row_stays b b_in other))
  ]
    where
      here : (b : ℕ) → b ≡ V.home → (i : ℕ) → i ≢ V.entry → i < 8 → TellsNoLess h.shape before now b i
      here b at i off few = rw at (inr (ap (λ (home : Home). home_entry home i) made.group.home
          ∙ (get_or-set_other Cleaned.entries V.entry i (entry_after made.group.xid made.address (home_entry Cleaned V.entry)) free_entry off
          ∙ cleaned_at h.shape before V.home i few)))
