-- What a patch leaves of its block's bytes. Slots, cells and entries are all read from such bytes, so it stands below the
-- crates of each.
use Rattle.std.proofs.Common.{◌≡◌, ℕ, ◌+◌, ◌^◌, ◌<◌, ◌≤◌, List, length, drop, refl, arith, ap, sym, ◌∙◌, inr, slice_index}
use Rattle.rb_base.specs.declared.sizes.TheConstants.{UNIT}
use Rattle.byteorder.specs.Endian.{big_bytes}
use Rattle.byteorder.specs.Numbers.{big_number-reads_back}
use Rattle.rb_base.specs.Blocks.{patched}
use Rattle.rb_base.specs.Fields.{part, number_at, overwritten, with_number, AreApart}
use Rattle.rb_base.specs.Groups.{Patch}
use Rattle.rb_base.proofs.Fronts.{number_of_part, byte_of_part}
use Rattle.rb_base.proofs.Overwriting.{length-overwritten, part_apart}

-- what is behind the log number in front
behind_number : (block : List ℕ) (number at count : ℕ) → length block ≡ UNIT → 8 ≤ at → part (with_number block 0 8 number) at count ≡ part block at count
behind_number block number at count long behind = part_apart block 0 (big_bytes 8 number) at count 8 (omega (arith, long)) refl (inr behind)

module _ (block : List ℕ) (number size : ℕ) (p : Patch) (long : length block ≡ UNIT) (within : p.at + size ≤ UNIT) (size_is : length p.bytes ≡ size) where
  numbered : (at count : ℕ) → 8 ≤ at → part (patched number p block) at count ≡ part (overwritten block p.at p.bytes) at count
  numbered at count behind = behind_number (overwritten block p.at p.bytes) number at count (length-overwritten block p.at p.bytes (omega (arith, long, size_is, within)) ∙ long) behind

  -- outside of the patch
  pub part_kept : (at count : ℕ) → 8 ≤ at → AreApart at count p.at size → part (patched number p block) at count ≡ part block at count
  part_kept at count behind apart = numbered at count behind ∙ part_apart block p.at p.bytes at count size (omega (arith, long, size_is, within)) size_is apart

  pub number_kept : (at count : ℕ) → 8 ≤ at → AreApart at count p.at size → number_at (patched number p block) at count ≡ number_at block at count
  number_kept at count behind apart = sym (number_of_part (patched number p block) at count) ∙ ap (λ (l : List ℕ). number_at l 0 count) (part_kept at count behind apart) ∙ number_of_part block at count

  pub byte_kept : (at : ℕ) → 8 ≤ at → AreApart at 1 p.at size → slice_index (patched number p block) at ≡ slice_index block at
  byte_kept at behind apart = sym (byte_of_part (patched number p block) at 1 (omega arith)) ∙ ap (λ (l : List ℕ). slice_index l 0) (part_kept at 1 behind apart) ∙ byte_of_part block at 1 (omega arith)

-- the number of the group in front
pub number_patched : (block : List ℕ) (number : ℕ) (p : Patch) → number < 2 ^ 64 → number_at (patched number p block) 0 8 ≡ number
number_patched block number p fits = big_number-reads_back 8 number (drop 8 (overwritten block p.at p.bytes)) fits
