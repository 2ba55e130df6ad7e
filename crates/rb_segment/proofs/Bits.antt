-- A slot's bits with one more: the word in which `|` sets it.
use Rattle.std.proofs.Common.{ℕ, ◌*◌, ◌^◌, ◌%◌, ◌<◌, ◌==◌, bit_or, ap}
use Rattle.std.specs.Int.{w8}
use Rattle.std.proofs.lemmas.Nat.Bits.{bit_at_set_same, bit_at_set_other}
use Rattle.rb_ring.specs.declared.extents.TheConstants.{EXTENTS}
use Rattle.rb_segment.specs.Moves.{Also}

pub bit_added : (bits e : ℕ) → e < EXTENTS → Also bits e (bit_or bits (1 * 2 ^ e % 256))
bit_added bits e few = record {
  this = ap (λ (b : ℕ). b == 1) (bit_at_set_same w8 bits e few);
  others = λ f apart. ap (λ (b : ℕ). b == 1) (bit_at_set_other w8 bits e few f apart);
}
