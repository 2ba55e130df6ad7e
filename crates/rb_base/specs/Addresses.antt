-- The address of an undo record in the bytes of a block, and where a header has its table slots.
use Rattle.std.specs.Prelude.{ℕ, ◌+◌, ◌*◌, ◌^◌, ◌<◌, List, ◌++◌, replicate}
use Rattle.byteorder.specs.Endian.{big_bytes}
use Rattle.rb_base.specs.Fields.{number_at}
use Rattle.rb_base.specs.declared.ids.Uba.{Uba}
use Rattle.rb_base.specs.declared.sizes.TheConstants.{BLOCK_HEAD, SLOT_BYTES}

-- what the 16 bytes of an address say
abbrev pub uba_at : List ℕ → ℕ → Uba
uba_at bytes at = record {
  block = number_at bytes at 4;
  rec = number_at bytes (at + 4) 2;
  ord = number_at bytes (at + 8) 8;
}

-- its bytes, two of them with no meaning
abbrev pub uba_bytes : Uba → List ℕ
uba_bytes u = big_bytes 4 u.block ++ big_bytes 2 u.rec ++ replicate 2 0 ++ big_bytes 8 u.ord

-- the address of no record
abbrev pub no_uba : Uba
no_uba = record { block = 0; rec = 0; ord = 0 }

-- Each field is a number of its type.
pub record IsUba (u : Uba) : Type 0 where
  pub block : u.block < 2 ^ 32
  pub rec : u.rec < 2 ^ 16
  pub ord : u.ord < 2 ^ 64

-- the first byte of table slot i in a header
abbrev pub slot_place : ℕ → ℕ
slot_place i = BLOCK_HEAD + SLOT_BYTES * i
