-- A chain of live records, one record further; and where an address reads the record that it names.
use Rattle.std.proofs.Common.{◌≡◌, ◌↔◌, ◌<◌, ◌≤◌, ◌+◌, ◌-◌, ◌*◌, ◌/◌, ◌%◌, ℕ, zero, suc, true, Bool, List, get_or, sym, ◌∙◌, ap, subst, arith}
use Rattle.rb_undoblock.specs.declared.record.TheConstants.{UNDO_RECORDS}
use Rattle.rb_ring.specs.declared.extents.TheConstants.{EXTENT_BLOCKS, EXTENT_RECORDS}
use Rattle.rb_base.specs.Blocks.{block_of, header_block}
use Rattle.rb_base.specs.declared.ids.Uba.{Uba}
use Rattle.rb_base.specs.declared.ids.Xid.{Xid}
use Rattle.rb_base.specs.declared.shape.Shape.{Shape}
use Rattle.rb_base.specs.declared.sizes.TheConstants.{ACTIVE, SLOTS}
use Rattle.rb_segment.proofs.Addresses.{address_block}
use Rattle.rb_segment.proofs.Parts.{slot_read}
use Rattle.rb_segment.specs.Header.{Header, Segment, header_of, segment_of, slot_in}
use Rattle.rb_sound.specs.Active.{Chain, HasBegun, IsActive, IsLive, IsValid, undo_named}
use Rattle.rb_txntable.specs.Slots.{slot_at}
use Rattle.rb_txntable.specs.declared.slots.TableSlot.{TableSlot}
use Rattle.rb_undoblock.specs.Undo.{no_undo, undo_at}
use Rattle.rb_undoblock.specs.declared.record.UndoRecord.{UndoRecord}

-- the header of a segment, by its block
pub header_is : (shape : Shape) (blocks : List (List ℕ)) (g : ℕ) (header : List ℕ) → header ≡ block_of blocks (header_block shape g) → header_of header ≡ (segment_of shape blocks g).header
unfolding segment_of
header_is shape blocks g header is = ap header_of is

pub slot_is : (shape : Shape) (blocks : List (List ℕ)) (g i : ℕ) (header : List ℕ) → header ≡ block_of blocks (header_block shape g) → i < SLOTS → slot_at header i ≡ slot_in (segment_of shape blocks g).header i
slot_is shape blocks g i header is few = sym (slot_read header i few) ∙ ap (λ (h : Header). slot_in h i) (header_is shape blocks g header is)

-- the record that a valid address names is read in its block
named_read : (shape : Shape) (blocks : List (List ℕ)) (g : ℕ) (h : Header) (at : Uba) → IsValid shape g h at → undo_named shape g (segment_of shape blocks g) at ≡ undo_at (block_of blocks at.block) at.rec
named_read shape blocks g h at is =
    let behind = at.block - header_block shape g - 1 in
    ap (λ (place : ℕ). get_or (segment_of shape blocks g).undo place no_undo) (joined (EXTENT_RECORDS * (behind / EXTENT_BLOCKS)) (UNDO_RECORDS * (behind % EXTENT_BLOCKS)) at.rec) ∙ address_block shape blocks g at is.behind is.within is.rec
  where
    joined : (a b c : ℕ) → a + (b + c) ≡ a + b + c
    joined a b c = omega arith

pub named_at : (shape : Shape) (blocks : List (List ℕ)) (g : ℕ) (h : Header) (at : Uba) (block : List ℕ) (r : UndoRecord) → IsValid shape g h at → block ≡ block_of blocks at.block → r ≡ undo_at block at.rec → undo_named shape g (segment_of shape blocks g) at ≡ r
named_at shape blocks g h at block r is there read = named_read shape blocks g h at is ∙ (ap (λ (b : List ℕ). undo_at b at.rec) (sym there) ∙ sym read)

module _ (Kept : UndoRecord → Type 0) (shape : Shape) (s : Segment) (x : Xid) where
  -- a chain of n records needs the first one
  pub chain_has : (n : ℕ) (at : Uba) → 1 ≤ n → Chain Kept shape s x n at → IsValid shape x.seg s.header at × (IsLive shape x n (undo_named shape x.seg s at) × Kept (undo_named shape x.seg s at))
  chain_has zero at some chain = absurd (omega (arith, some))
  chain_has (suc n) at some chain = (chain.0, chain.1)

  -- and with it, it is one more than the chain behind it
  pub chain_next : (n k : ℕ) (at : Uba) (r : UndoRecord) → n ≡ k + 1 → IsValid shape x.seg s.header at → undo_named shape x.seg s at ≡ r → IsLive shape x n r × Kept r → Chain Kept shape s x n at ↔ Chain Kept shape s x k r.previous
  chain_next zero k at r one valid read live = absurd (omega (arith, one))
  chain_next (suc n) k at r one valid read live =
      let same : n ≡ k = omega (arith, one) in
      let before : (undo_named shape x.seg s at).previous ≡ r.previous = ap (λ (r : UndoRecord). r.previous) read in (
        λ chain. subst (λ (m : ℕ). Chain Kept shape s x m r.previous) same (subst (Chain Kept shape s x n) before chain.2),
        λ chain. (valid, subst (λ (r : UndoRecord). IsLive shape x (suc n) r × Kept r) (sym read) live, subst (Chain Kept shape s x n) (sym before) (subst (λ (m : ℕ). Chain Kept shape s x m r.previous) (sym same) chain)),
      )

-- the id of the transaction that has a slot
abbrev id_in : ℕ → ℕ → TableSlot → Xid
id_in g i slot = record { seg = g; slot = i; wrap = slot.wrap }

-- what is tested of a slot by its header's bytes
pub active_is : (Kept : UndoRecord → Type 0) (shape : Shape) (blocks : List (List ℕ)) (g i : ℕ) (header : List ℕ) (slot : TableSlot) (sound : Bool) → header ≡ block_of blocks (header_block shape g) → i < SLOTS → slot ≡ slot_at header i → HasBegun (header_of header) slot
    → (sound ≡ true ↔ Chain Kept shape (segment_of shape blocks g) (id_in g i slot) slot.live slot.newest_at) → slot.state ≡ ACTIVE
    → sound ≡ true ↔ ((slot_in (segment_of shape blocks g).header i).state ≡ ACTIVE → IsActive Kept shape g (segment_of shape blocks g) i)
active_is Kept shape blocks g i header slot sound is few read begun chain active =
    let s = segment_of shape blocks g in
    let same : slot ≡ slot_in s.header i = read ∙ slot_is shape blocks g i header is few in
    let chained = subst (λ (slot : TableSlot). sound ≡ true ↔ Chain Kept shape s (id_in g i slot) slot.live slot.newest_at) same chain in
    let began = subst (HasBegun s.header) same (subst (λ (h : Header). HasBegun h slot) (header_is shape blocks g header is) begun) in (
      λ yes runs. record { begun = began; chain = chained.0 yes },
      λ all. chained.1 (all (ap (λ (slot : TableSlot). slot.state) (sym same) ∙ active)).chain,
    )
