-- What a group makes of one of the blocks of a file: the whole block, its head among it.
use Rattle.std.proofs.Common.{◌≡◌, ◌≢◌, ◌⊎◌, inl, inr, ℕ, ◌+◌, ◌-◌, ◌^◌, ◌<◌, ◌≤◌, ◌==◌, Bool, true, false, if◌then◌else◌, List, [], ◌∷◌, ◌++◌, length, take, drop, refl, arith, ap, sym, ◌∙◌, subst, append_assoc}
use Rattle.std.proofs.lemmas.Bool.{cases_eq}
use Rattle.std.proofs.lemmas.Bool.Decides.{nat_tests}
use Rattle.std.proofs.lemmas.List.{drop_at, drop-drop, drop-take, length-append, take_at, take-take, take-append-drop}
use Rattle.std.specs.List.{AllByRecursion}
use Rattle.rb_base.specs.declared.sizes.TheConstants.{UNIT}
use Rattle.byteorder.specs.Endian.{big_bytes}
use Rattle.byteorder.specs.Numbers.{length-bytes_high_first}
use Rattle.rb_base.specs.Blocks.{block_of, after_patch, after_group, after_groups, shape_blocks, written_to, StaysBehind, AreBlocks}
use Rattle.rb_base.specs.Fields.{part, overwritten, with_number}
use Rattle.rb_base.specs.Groups.{Patch, IsGroup, IsPatch}
use Rattle.rb_base.specs.declared.shape.Shape.{Shape}
use Rattle.rb_base.proofs.Blocks.{patch_own, patch_others, patch_keeps, block_long, group_keeps}
use Rattle.rb_base.proofs.Overwriting.{length-overwritten, drop_before, part_apart}
use Rattle.law_redo.specs.Rolled.{has_block, numbered_by, after_block, after_blocks}

eight : (n : ℕ) → length (big_bytes 8 n) ≡ 8
eight n = length-bytes_high_first 8 n

-- a number that is written twice stands once
again_numbered : (n : ℕ) (z : List ℕ) → with_number (with_number z 0 8 n) 0 8 n ≡ with_number z 0 8 n
again_numbered n z = ap (λ (l : List ℕ). big_bytes 8 n ++ l) (drop_at (big_bytes 8 n) (drop 8 z) 8 (eight n))

-- as an overwriting
pub number_is : (n : ℕ) (z : List ℕ) → with_number z 0 8 n ≡ overwritten z 0 (big_bytes 8 n)
number_is n z = ap (λ (k : ℕ). big_bytes 8 n ++ drop k z) (sym (eight n))

pub number_long : (n : ℕ) (z : List ℕ) → 8 ≤ length z → length (with_number z 0 8 n) ≡ length z
number_long n z long = ap length (number_is n z) ∙ length-overwritten z 0 (big_bytes 8 n) (omega (arith, eight n, long))

-- bytes behind the number, and the number, in any order
apart_numbered : (n at : ℕ) (z bytes : List ℕ) → 8 ≤ at → at + length bytes ≤ length z
    → overwritten (with_number z 0 8 n) at bytes ≡ with_number (overwritten z at bytes) 0 8 n
apart_numbered n at z bytes behind within =
    let more : at ≡ 8 + (at - 8) = omega arith in
    let front = big_bytes 8 n in
    let rest = drop 8 z in
    let long = eight n in
    ap (λ (k : ℕ). overwritten (front ++ rest) k bytes) more
    ∙ by (at - 8) rest front long
    ∙ ap (λ (l : List ℕ). front ++ l) (sym (drop_before z 8 (at - 8) bytes (omega (arith, within))) ∙ ap (λ (k : ℕ). drop 8 (overwritten z k bytes)) (sym more))
  where
    by : (k : ℕ) (rest front : List ℕ) → length front ≡ 8 → overwritten (front ++ rest) (8 + k) bytes ≡ front ++ overwritten rest k bytes
    by k rest front long =
        let all = front ++ rest in
        let first : take (8 + k) all ≡ front ++ take k rest =
        sym (take-append-drop 8 (take (8 + k) all))
        ∙ ap (λ (l : List ℕ). l ++ drop 8 (take (8 + k) all)) (take-take 8 (8 + k) all (omega arith) ∙ take_at front rest 8 long)
        ∙ ap (λ (l : List ℕ). front ++ l) (drop-take 8 k all ∙ ap (take k) (drop_at front rest 8 long)) in
        let last : drop (8 + k + length bytes) all ≡ drop (k + length bytes) rest =
        ap (λ (n : ℕ). drop n all) (omega arith) ∙ sym (drop-drop (k + length bytes) 8 all) ∙ ap (drop (k + length bytes)) (drop_at front rest 8 long) in
        ap (λ (l : List ℕ). (l ++ bytes) ++ drop (8 + k + length bytes) all) first
        ∙ ap (λ (l : List ℕ). ((front ++ take k rest) ++ bytes) ++ l) last
        ∙ ap (λ (l : List ℕ). l ++ drop (k + length bytes) rest) (append_assoc front (take k rest) bytes)
        ∙ append_assoc front (take k rest ++ bytes) (drop (k + length bytes) rest)

-- the group's patches, where none is of the block
pub none_written : (which : ℕ) (ps : List Patch) (y : List ℕ) → has_block which ps ≡ false → written_to which ps y ≡ y
none_written which [] y none = refl
none_written which (p ∷ ps) y none =
    ap (written_to which ps) (same_by (p.block == which) (has_block which ps) (overwritten y p.at p.bytes) y none) ∙ none_written which ps y (none_of (p.block == which) (has_block which ps) none)
  where
    same_by : (b c : Bool) (x z : List ℕ) → (if b then true else c) ≡ false → (if b then x else z) ≡ z
    same_by true c x z is = cc
    same_by false c x z is = refl

    none_of : (b c : Bool) → (if b then true else c) ≡ false → c ≡ false
    none_of true c is = cc
    none_of false c is = is

-- a number written first, or last
pub written_numbered : (n which : ℕ) (ps : List Patch) (y : List ℕ) → length y ≡ UNIT → AllByRecursion StaysBehind ps
    → written_to which ps (with_number y 0 8 n) ≡ with_number (written_to which ps y) 0 8 n
written_numbered n which [] y long stay = refl
written_numbered n which (p ∷ ps) y long stay =
    ap (written_to which ps) (swap (p.block == which))
    ∙ written_numbered n which ps (if p.block == which then overwritten y p.at p.bytes else y) (still (p.block == which)) stay.1
  where
    within : p.at + length p.bytes ≤ length y
    within = let w = stay.0.within_block in omega (arith, w, long)

    swap : (b : Bool) → (if b then overwritten (with_number y 0 8 n) p.at p.bytes else with_number y 0 8 n) ≡ with_number (if b then overwritten y p.at p.bytes else y) 0 8 n
    swap true = let behind = stay.0.behind_head in apart_numbered n p.at y p.bytes (omega (arith, behind)) within
    swap false = refl

    still : (b : Bool) → length (if b then overwritten y p.at p.bytes else y) ≡ UNIT
    still true = length-overwritten y p.at p.bytes within ∙ long
    still false = long

-- the rest of a group over a block that its first patches have numbered
rest_numbered : (n which : ℕ) (ps : List Patch) (y : List ℕ) → length y ≡ UNIT → AllByRecursion StaysBehind ps
    → after_block n ps which (with_number y 0 8 n) ≡ numbered_by n ps which y
rest_numbered n which ps y long stay = by (has_block which ps) refl
  where
    by : (b : Bool) → has_block which ps ≡ b → (if b then numbered_by n ps which (with_number y 0 8 n) else with_number y 0 8 n) ≡ numbered_by n ps which y
    by true e = ap (λ (l : List ℕ). with_number l 0 8 n) (written_numbered n which ps y long stay) ∙ again_numbered n (written_to which ps y)
    by false e = ap (λ (l : List ℕ). with_number l 0 8 n) (sym (none_written which ps y e))

module _ (shape : Shape) (n which : ℕ) where
  pub block_after : (ps : List Patch) (blocks : List (List ℕ)) → AreBlocks shape blocks → which < shape_blocks shape → AllByRecursion StaysBehind ps
      → block_of (after_group n ps blocks) which ≡ after_block n ps which (block_of blocks which)
  block_after [] blocks are there stay = refl
  block_after (p ∷ ps) blocks are there stay =
      block_after ps (after_patch n p blocks) (patch_keeps shape n p blocks are stay.0.within_block) there stay.1 ∙ one (cases_eq p.block which)
    where
      x : List ℕ
      x = block_of blocks which

      long : length (block_of blocks which) ≡ UNIT
      long = block_long shape blocks which are there

      own : p.block ≡ which → block_of (after_patch n p blocks) which ≡ with_number (overwritten (block_of blocks which) p.at p.bytes) 0 8 n
      own is = ap (λ (w : ℕ). block_of (after_patch n p blocks) w) (sym is) ∙ patch_own n p blocks (omega (arith, are.count, there, is))
          ∙ ap (λ (w : ℕ). with_number (overwritten (block_of blocks w) p.at p.bytes) 0 8 n) is

      one : (p.block ≡ which) ⊎ (p.block ≢ which) → after_block n ps which (block_of (after_patch n p blocks) which) ≡ after_block n (p ∷ ps) which (block_of blocks which)
      one (inl is) =
          let test : (p.block == which) ≡ true = grind (arith, nat_tests) in
          ap (after_block n ps which) (own is)
          ∙ rest_numbered n which ps (overwritten (block_of blocks which) p.at p.bytes) (length-overwritten (block_of blocks which) p.at p.bytes (omega (arith, long, stay.0.within_block)) ∙ long) stay.1
          ∙ sym (rw test refl)
      one (inr ne) =
          let test : (p.block == which) ≡ false = grind (arith, nat_tests) in
          ap (after_block n ps which) (patch_others n p blocks which (λ e. ne (sym e))) ∙ sym (rw test refl)

-- each patch of a group stays behind the head
pub stays : (ps : List Patch) → AllByRecursion IsPatch ps → AllByRecursion StaysBehind ps
stays [] each = tt
stays (p ∷ ps) each = (record { behind_head = each.0.behind_head; within_block = each.0.within_block }, stays ps each.1)

-- groups, one after another
pub blocks_after : (shape : Shape) (n which : ℕ) (gs : List (List Patch)) (blocks : List (List ℕ)) → AreBlocks shape blocks → which < shape_blocks shape
    → AllByRecursion IsGroup gs → block_of (after_groups n gs blocks) which ≡ after_blocks n gs which (block_of blocks which)
blocks_after shape n which [] blocks are there valid = refl
blocks_after shape n which (g ∷ gs) blocks are there valid =
    blocks_after shape (n + 1) which gs (after_group n g blocks) (group_keeps shape n g blocks are valid.0.each) there valid.1
    ∙ ap (after_blocks (n + 1) gs which) (block_after shape n which g blocks are there (stays g valid.0.each))

pub groups_keep : (shape : Shape) (n : ℕ) (gs : List (List Patch)) (blocks : List (List ℕ)) → AreBlocks shape blocks → AllByRecursion IsGroup gs → AreBlocks shape (after_groups n gs blocks)
groups_keep shape n [] blocks are valid = are
groups_keep shape n (g ∷ gs) blocks are valid = groups_keep shape (n + 1) gs (after_group n g blocks) (group_keeps shape n g blocks are valid.0.each) valid.1
