-- What a group makes of one block: its own patches written over it in order, behind the log number in front.
use Rattle.std.proofs.Common.{◌≡◌, ◌≢◌, ◌⊎◌, inl, inr, ℕ, ◌+◌, ◌-◌, ◌<◌, ◌≤◌, ◌==◌, Bool, true, false, if◌then◌else◌, List, [], ◌∷◌, ◌++◌, length, take, drop, refl, arith, ap, sym, ◌∙◌}
use Rattle.std.proofs.lemmas.Bool.{cases_eq}
use Rattle.std.proofs.lemmas.Bool.Decides.{nat_tests}
use Rattle.std.specs.List.{AllByRecursion}
use Rattle.rb_base.specs.declared.sizes.TheConstants.{BLOCK_HEAD, UNIT}
use Rattle.byteorder.specs.Endian.{big_bytes}
use Rattle.byteorder.specs.Numbers.{length-bytes_high_first}
use Rattle.rb_base.specs.Blocks.{block_of, after_patch, after_group, shape_blocks, written_to, behind_head as behind, OneBlock, StaysBehind, AreBlocks}
use Rattle.rb_base.specs.Fields.{overwritten, with_number}
use Rattle.rb_base.specs.Groups.{Patch}
use Rattle.rb_base.specs.declared.shape.Shape.{Shape}
use Rattle.rb_base.proofs.Overwriting.{length-overwritten, drop_before, drop_behind}
use Rattle.rb_base.proofs.Blocks.{patch_own, patch_others, patch_keeps, block_long}

behind_written : (block bytes : List ℕ) (at : ℕ) → BLOCK_HEAD ≤ at → at ≤ length block → behind (overwritten block at bytes) ≡ overwritten (behind block) (at - BLOCK_HEAD) bytes
behind_written block bytes at head within =
    let split : at ≡ BLOCK_HEAD + (at - BLOCK_HEAD) = omega arith in
    ap (λ (n : ℕ). drop BLOCK_HEAD (overwritten block n bytes)) split ∙ drop_before block BLOCK_HEAD (at - BLOCK_HEAD) bytes (omega (arith, within, split))

same_written : (a b bytes : List ℕ) (at : ℕ) → BLOCK_HEAD ≤ at → at ≤ length a → at ≤ length b → behind a ≡ behind b → behind (overwritten a at bytes) ≡ behind (overwritten b at bytes)
same_written a b bytes at head la lb same =
    behind_written a bytes at head la ∙ ap (λ (l : List ℕ). overwritten l (at - BLOCK_HEAD) bytes) same ∙ sym (behind_written b bytes at head lb)

-- the log number stands in front
behind_numbered : (block : List ℕ) (number : ℕ) → 8 ≤ length block → behind (with_number block 0 8 number) ≡ behind block
behind_numbered block number long =
    let count = length-bytes_high_first 8 number in
    let eight : 8 ≡ 0 + length (big_bytes 8 number) = omega (arith, count) in
    let same : with_number block 0 8 number ≡ overwritten block 0 (big_bytes 8 number) = ap (λ (n : ℕ). take 0 block ++ big_bytes 8 number ++ drop n block) eight in
    ap (drop BLOCK_HEAD) same ∙ drop_behind block 0 (big_bytes 8 number) BLOCK_HEAD (omega (arith, count, long)) (omega (arith, count))

module _ (shape : Shape) (number which : ℕ) where
  -- in step with a copy, patch by patch
  in_step : (ps : List Patch) (blocks : List (List ℕ)) (copy : List ℕ) → AreBlocks shape blocks → which < shape_blocks shape → AllByRecursion StaysBehind ps → length copy ≡ UNIT → behind (block_of blocks which) ≡ behind copy
      → behind (block_of (after_group number ps blocks) which) ≡ behind (written_to which ps copy)
  in_step [] blocks copy are there valid long same = same
  in_step (p ∷ ps) blocks copy are there valid long same =
      in_step ps (after_patch number p blocks) (if p.block == which then overwritten copy p.at p.bytes else copy) (patch_keeps shape number p blocks are valid.0.within_block) there valid.1 (long_one (p.block == which)) (one (cases_eq p.block which))
    where
      long_one : (b : Bool) → length (if b then overwritten copy p.at p.bytes else copy) ≡ UNIT
      long_one true = length-overwritten copy p.at p.bytes (omega (arith, long, valid.0.within_block)) ∙ long
      long_one false = long

      unit : length (block_of blocks which) ≡ UNIT
      unit = block_long shape blocks which are there

      one : (p.block ≡ which) ⊎ (p.block ≢ which) → behind (block_of (after_patch number p blocks) which) ≡ behind (if p.block == which then overwritten copy p.at p.bytes else copy)
      one (inl is) = let test : (p.block == which) ≡ true = grind (arith, nat_tests) in
          rw test (ap (λ (w : ℕ). behind (block_of (after_patch number p blocks) w)) (sym is) ∙ ap behind (patch_own number p blocks (omega (arith, are.count, there, is)))
          ∙ behind_numbered (overwritten (block_of blocks p.block) p.at p.bytes) number (long_there is) ∙ ap (λ (w : ℕ). behind (overwritten (block_of blocks w) p.at p.bytes)) is
          ∙ same_written (block_of blocks which) copy p.bytes p.at valid.0.behind_head (omega (arith, unit, valid.0.within_block)) (omega (arith, long, valid.0.within_block)) same)
        where
          long_there : p.block ≡ which → 8 ≤ length (overwritten (block_of blocks p.block) p.at p.bytes)
          long_there is = let l = length-overwritten (block_of blocks which) p.at p.bytes (omega (arith, unit, valid.0.within_block)) in rw is (omega (arith, l, unit))
      one (inr ne) = let test : (p.block == which) ≡ false = grind (arith, nat_tests) in rw test (ap behind (patch_others number p blocks which (λ e. ne (sym e))) ∙ same)

pub one_block : OneBlock
one_block shape number which ps blocks are there valid =
    in_step shape number which ps blocks (block_of blocks which) are there valid (block_long shape blocks which are there) refl
