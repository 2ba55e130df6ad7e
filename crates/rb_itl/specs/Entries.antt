-- The bytes of a slot entry, and where in a block it stands.
use Rattle.std.specs.Prelude.{◌≡◌, ◌≢◌, ◌⊎◌, ℕ, ◌+◌, ◌*◌, ◌^◌, ◌<◌, ◌≤◌, List}
use Rattle.std.specs.Prelude.{◌∷◌, ◌++◌, length, drop, replicate, slice_index}
use Rattle.byteorder.specs.Endian.{big_bytes}
use Rattle.rb_base.specs.Addresses.{uba_at, uba_bytes, no_uba, IsUba}
use Rattle.rb_base.specs.Fields.{part, number_at, overwritten}
use Rattle.rb_base.specs.declared.ids.Xid.{Xid}
use Rattle.rb_base.specs.declared.sizes.TheConstants.{BLOCK_HEAD, UNIT}
use Rattle.rb_itl.specs.declared.slots.Entry.{Entry}
use Rattle.rb_itl.specs.declared.slots.TheConstants.{ENTRIES, ENTRY_BYTES}

-- the first byte of entry i in its block
abbrev pub entry_place : ℕ → ℕ
entry_place i = BLOCK_HEAD + ENTRY_BYTES * i

abbrev pub xid_bytes : Xid → List ℕ
xid_bytes x = big_bytes 2 x.seg ++ big_bytes 2 x.slot ++ big_bytes 8 x.wrap

-- the 48 bytes of an entry
abbrev pub entry_bytes : Entry → List ℕ
entry_bytes e = e.kind ∷ replicate 3 0 ++ xid_bytes e.xid ++ big_bytes 8 e.number ++ uba_bytes e.newest
    ++ big_bytes 4 e.length ++ replicate 4 0

-- what the 48 bytes of an entry say
abbrev pub entry_of : List ℕ → Entry
entry_of bytes = record {
  kind = slice_index bytes 0;
  xid = record { seg = number_at bytes 4 2; slot = number_at bytes 6 2; wrap = number_at bytes 8 8 };
  number = number_at bytes 16 8;
  newest = uba_at bytes 24;
  length = number_at bytes 40 4;
}

-- what a block's bytes say of entry i
abbrev pub entry_at : List ℕ → ℕ → Entry
entry_at block i = entry_of (part block (entry_place i) ENTRY_BYTES)

-- the block with an entry at place i
abbrev pub with_entry : List ℕ → ℕ → Entry → List ℕ
with_entry block i e = overwritten block (entry_place i) (entry_bytes e)

-- Each field is a number of its type.
pub record IsEntry (e : Entry) : Type 0 where
  pub kind : e.kind < 2 ^ 8
  pub seg : e.xid.seg < 2 ^ 16
  pub slot : e.xid.slot < 2 ^ 16
  pub wrap : e.xid.wrap < 2 ^ 64
  pub number : e.number < 2 ^ 64
  pub newest : IsUba e.newest
  pub length : e.length < 2 ^ 32

-- an entry's bytes, read, are the entry
abbrev pub ReadsBack : Type 0
ReadsBack = (e : Entry) → IsEntry e → entry_of (entry_bytes e) ≡ e

-- the entry of which each field is 0
abbrev pub free_entry : Entry
free_entry = record {
  kind = 0;
  xid = record { seg = 0; slot = 0; wrap = 0 };
  number = 0;
  newest = no_uba;
  length = 0;
}

abbrev pub IsFreeEmpty : Type 0
IsFreeEmpty = entry_bytes free_entry ≡ replicate ENTRY_BYTES 0

-- an entry that was written is read at its place
abbrev pub ReadsOwn : Type 0
ReadsOwn = (block : List ℕ) (i : ℕ) (e : Entry) → length block ≡ UNIT → i < ENTRIES → IsEntry e
    → entry_at (with_entry block i e) i ≡ e

-- every other entry is read as before
abbrev pub KeepsOthers : Type 0
KeepsOthers = (block : List ℕ) (i j : ℕ) (e : Entry) → length block ≡ UNIT → i < ENTRIES → j < ENTRIES
    → j ≢ i → entry_at (with_entry block i e) j ≡ entry_at block j

-- every part of the block before the entry's 48 bytes or behind them is as it was
abbrev pub KeepsOutside : Type 0
KeepsOutside =
    (block : List ℕ) (i at count : ℕ) (e : Entry) → length block ≡ UNIT → i < ENTRIES
    → (at + count ≤ entry_place i) ⊎ (entry_place i + ENTRY_BYTES ≤ at)
    → part (with_entry block i e) at count ≡ part block at count

-- so is all behind the eight entries
abbrev pub KeepsCells : Type 0
KeepsCells = (block : List ℕ) (i : ℕ) (e : Entry) → length block ≡ UNIT → i < ENTRIES
    → drop (entry_place ENTRIES) (with_entry block i e) ≡ drop (entry_place ENTRIES) block

abbrev pub KeepsLength : Type 0
KeepsLength = (block : List ℕ) (i : ℕ) (e : Entry) → length block ≡ UNIT → i < ENTRIES
    → length (with_entry block i e) ≡ UNIT
