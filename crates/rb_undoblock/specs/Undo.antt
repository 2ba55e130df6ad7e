-- The bytes of an undo record, and where in its block it stands.
use Rattle.std.specs.Prelude.{◌≡◌, ◌≢◌, ℕ, ◌+◌, ◌*◌, ◌^◌, ◌<◌, List, ◌∷◌, []}
use Rattle.std.specs.Prelude.{◌++◌, length, replicate, slice_index}
use Rattle.byteorder.specs.Endian.{big_bytes}
use Rattle.rb_base.specs.Addresses.{uba_at, uba_bytes, no_uba, IsUba}
use Rattle.rb_base.specs.Fields.{part, number_at, overwritten, AreApart}
use Rattle.rb_base.specs.Groups.{Patch, patch}
use Rattle.rb_base.specs.declared.sizes.TheConstants.{BLOCK_HEAD, UNIT}
use Rattle.rb_undoblock.specs.declared.record.TheConstants.{UNDO_RECORDS, UNDO_BYTES, ENTRY_BEFORE_BYTES}
use Rattle.rb_undoblock.specs.declared.record.TheConstants.{CELL_BEFORE_BYTES}
use Rattle.rb_undoblock.specs.declared.record.TheConstants.{KEY_AT, NUMBER_AT, HOME_AT, TABLE_AT, SLOT_AT, KIND_AT}
use Rattle.rb_undoblock.specs.declared.record.TheConstants.{ENTRY_AT, CELL_AT, PREVIOUS_AT}
use Rattle.rb_undoblock.specs.declared.record.TheConstants.{ENTRY_BEFORE_AT, CELL_BEFORE_AT}
use Rattle.rb_undoblock.specs.declared.record.UndoRecord.{UndoRecord}

-- the first byte of record r in its block
abbrev pub undo_place : ℕ → ℕ
undo_place r = BLOCK_HEAD + UNDO_BYTES * r

-- what the 192 bytes of a record say
abbrev pub undo_of : List ℕ → UndoRecord
undo_of bytes = record {
  wrap = number_at bytes 0 8;
  key = number_at bytes KEY_AT 8;
  number = number_at bytes NUMBER_AT 4;
  home = number_at bytes HOME_AT 4;
  table = number_at bytes TABLE_AT 2;
  slot = slice_index bytes SLOT_AT;
  kind = slice_index bytes KIND_AT;
  entry = slice_index bytes ENTRY_AT;
  cell = slice_index bytes CELL_AT;
  previous = uba_at bytes PREVIOUS_AT;
  entry_before = part bytes ENTRY_BEFORE_AT ENTRY_BEFORE_BYTES;
  cell_before = part bytes CELL_BEFORE_AT CELL_BEFORE_BYTES;
}

-- what a block's bytes say of record r
unfoldable pub undo_at : List ℕ → ℕ → UndoRecord
undo_at block r = undo_of (part block (undo_place r) UNDO_BYTES)

-- the 192 bytes of a record
abbrev pub undo_bytes : UndoRecord → List ℕ
undo_bytes u = big_bytes 8 u.wrap ++ big_bytes 8 u.key ++ big_bytes 4 u.number ++ big_bytes 4 u.home
    ++ big_bytes 2 u.table ++ (u.slot ∷ u.kind ∷ u.entry ∷ u.cell ∷ []) ++ replicate 2 0 ++ uba_bytes u.previous
    ++ u.entry_before ++ u.cell_before ++ replicate 4 0

-- Each field is a number of its type, and the parts that it keeps are whole.
pub record IsUndoRecord (u : UndoRecord) : Type 0 where
  pub wrap : u.wrap < 2 ^ 64
  pub key : u.key < 2 ^ 64
  pub number : u.number < 2 ^ 32
  pub home : u.home < 2 ^ 32
  pub table : u.table < 2 ^ 16
  pub slot : u.slot < 2 ^ 8
  pub kind : u.kind < 2 ^ 8
  pub entry : u.entry < 2 ^ 8
  pub cell : u.cell < 2 ^ 8
  pub previous : IsUba u.previous
  pub entry_before : length u.entry_before ≡ ENTRY_BEFORE_BYTES
  pub cell_before : length u.cell_before ≡ CELL_BEFORE_BYTES

-- the patch that puts a record into its block, and the block with it
abbrev pub undo_patch : ℕ → ℕ → UndoRecord → Patch
undo_patch block r u = patch block (undo_place r) (undo_bytes u)

abbrev pub with_undo : List ℕ → ℕ → UndoRecord → List ℕ
with_undo block r u = overwritten block (undo_place r) (undo_bytes u)

-- a record of which each field is 0
abbrev pub no_undo : UndoRecord
no_undo = record {
  wrap = 0;
  key = 0;
  number = 0;
  home = 0;
  table = 0;
  slot = 0;
  kind = 0;
  entry = 0;
  cell = 0;
  previous = no_uba;
  entry_before = replicate ENTRY_BEFORE_BYTES 0;
  cell_before = replicate CELL_BEFORE_BYTES 0;
}

-- a record's bytes, read, are the record
abbrev pub UndoReadsBack : Type 0
UndoReadsBack = (u : UndoRecord) → IsUndoRecord u → undo_of (undo_bytes u) ≡ u

-- a record that was written is read at its place
abbrev pub UndoReadsOwn : Type 0
UndoReadsOwn = (block : List ℕ) (r : ℕ) (u : UndoRecord) → length block ≡ UNIT → r < UNDO_RECORDS
    → IsUndoRecord u → undo_at (with_undo block r u) r ≡ u

-- every other record is read as before
abbrev pub UndoKept : Type 0
UndoKept = (block : List ℕ) (r s : ℕ) (u : UndoRecord) → length block ≡ UNIT → r < UNDO_RECORDS
    → s < UNDO_RECORDS → IsUndoRecord u → s ≢ r → undo_at (with_undo block r u) s ≡ undo_at block s

-- every part of the block before the record's 192 bytes or behind them is as it was
abbrev pub KeepsOutsideUndo : Type 0
KeepsOutsideUndo = (block : List ℕ) (r at count : ℕ) (u : UndoRecord) → length block ≡ UNIT → r < UNDO_RECORDS
    → IsUndoRecord u → AreApart at count (undo_place r) UNDO_BYTES
    → part (with_undo block r u) at count ≡ part block at count

abbrev pub UndoLengthKept : Type 0
UndoLengthKept = (block : List ℕ) (r : ℕ) (u : UndoRecord) → length block ≡ UNIT → r < UNDO_RECORDS
    → IsUndoRecord u → length (with_undo block r u) ≡ UNIT

abbrev pub IsNoUndoEmpty : Type 0
IsNoUndoEmpty = undo_bytes no_undo ≡ replicate UNDO_BYTES 0
