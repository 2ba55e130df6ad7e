-- What a write cleans in its home tells the looks; the entry that it takes is Open.
use Rattle.std.proofs.Common.{◌≡◌, ◌≢◌, ◌⊎◌, inl, inr, ◌<◌, ◌*◌, ◌/◌, ℕ, Bool, List, length, ap, sym, ◌∙◌, arith}
use Rattle.std.proofs.Math.Nat.{div-add-mod}
use Rattle.std.proofs.lemmas.Bool.{cases_eq}
use Rattle.std.proofs.lemmas.List.{get_or-set_other, get_or-set_same, length-map}
use Rattle.rb_base.specs.declared.sizes.TheConstants.{SLOTS}
use Rattle.rb_base.specs.Blocks.{block_of, header_block, table_blocks}
use Rattle.rb_base.specs.declared.ids.Uba.{Uba}
use Rattle.rb_base.specs.declared.ids.Xid.{Xid}
use Rattle.rb_heap.proofs.Reading.{entries_counted}
use Rattle.rb_heap.specs.Cleaning.{cleaned_entry, cleaned_home}
use Rattle.rb_heap.specs.Homes.{Home, home_entry, home_of}
use Rattle.law_crash.proofs.Tells.{IsTold, cleaned_told, tells_by}
use Rattle.law_crash.specs.Made.{TellsLooks, entry_in}
use Rattle.rb_itl.specs.Entries.{free_entry}
use Rattle.rb_itl.specs.declared.slots.Entry.{Entry}
use Rattle.rb_itl.specs.declared.slots.TheConstants.{ENTRIES, OPEN}
use Rattle.rb_model.specs.Change.{Kind}
use Rattle.rb_model.specs.State.{State}
use Rattle.rb_segment.specs.Header.{SegmentInOrder}
use Rattle.rb_segment.specs.Segments.{commit_scn}
use Rattle.law_blocks.specs.Standing.{env_of, logged_of, segments_of}
use Rattle.law_blocks.specs.States.{BlocksStand}
use Rattle.law_blocks.specs.Writing.{IsWritten, entry_after, home_after}
use Rattle.law_blocks.proofs.Group.{block_stays}
use Rattle.law_blocks.proofs.SegmentRecorded as segment
use Rattle.rb_undoblock.specs.declared.record.UndoRecord.{UndoRecord}

module _ (h : State) (xids : List Xid) (before now : List (List ℕ)) (t : ℕ) (adds : Bool) (kind : Kind) (address : Uba) (u : UndoRecord) (stand : BlocksStand h xids before) (t_in : t < SLOTS * h.shape.segments) (is : IsWritten h.shape t adds kind address u before now) where
  abbrev Is : ℕ → Type 0
  Is x = (x ≡ u.home) ⊎ (x ≡ header_block h.shape (t / SLOTS)) ⊎ (x ≡ address.block)

  order : SegmentInOrder (commit_scn h.shape before) (logged_of h.shape before) (segments_of h.shape before (t / SLOTS))
  order = stand.standing.stands.in_order (t / SLOTS) (let a = div-add-mod t SLOTS in omega (arith, a, t_in))

  -- neither the header nor the record is in a block of rows
  row_stays : (b : ℕ) → b < table_blocks h.shape → b ≢ u.home → block_of now b ≡ block_of before b
  row_stays b b_in ne =
      let a = segment.address_within h.shape t address u before now (commit_scn h.shape before) (logged_of h.shape before) order is.recorded in
      block_stays h.shape Is before now is.group b (λ at. elim at [
        | inl home ↦ ne home
        | inr other ↦ elim other [ inl head ↦ omega (arith, head, b_in) | inr undo ↦ omega (arith, undo, b_in, a) ]
      ])

  abbrev Cleaned : Home
  Cleaned = cleaned_home (env_of h.shape before).look (home_of (block_of before u.home))

  eight : length Cleaned.entries ≡ ENTRIES
  eight = length-map (home_of (block_of before u.home)).entries (cleaned_entry (env_of h.shape before).look) ∙ entries_counted (block_of before u.home)

  -- the entry that the write takes, and the others of its home
  in_home : (i : ℕ) → (entry_in before u.home i).kind ≡ OPEN → IsTold h.shape before now u.home i
  in_home i opened =
      let taken : Entry = entry_after is.xid address (home_entry Cleaned u.entry) in
      let made : entry_in now u.home i ≡ home_entry (home_after kind is.xid address u Cleaned) i = ap (λ (home : Home). home_entry home i) is.home in
      elim (cases_eq i u.entry) [
        | inl at ↦
            let own : home_entry (home_after kind is.xid address u Cleaned) u.entry ≡ taken = get_or-set_same Cleaned.entries u.entry taken free_entry (let few = is.keeps.entry.within in omega (arith, few, eight)) in
            inl (ap (λ (e : Entry). e.kind) (made ∙ (ap (λ (j : ℕ). home_entry (home_after kind is.xid address u Cleaned) j) at ∙ own)))
        | inr off ↦ inr (made ∙ (get_or-set_other Cleaned.entries u.entry i taken free_entry off ∙ cleaned_told (env_of h.shape before).look (block_of before u.home) i opened))
      ]

  pub write_tells : TellsLooks h.shape before now
  write_tells = tells_by h.shape before now (λ b i b_in opened. elim (cases_eq b u.home) [
    | inl at ↦ here b at i opened
    | inr off ↦ inl (ap (λ (block : List ℕ). (home_entry (home_of block) i).kind) (row_stays b b_in off) ∙ opened)
  ])
    where
      here : (b : ℕ) → b ≡ u.home → (i : ℕ) → (entry_in before b i).kind ≡ OPEN → IsTold h.shape before now b i
      here b at i opened = rw at (in_home i (rw (sym at) opened))
