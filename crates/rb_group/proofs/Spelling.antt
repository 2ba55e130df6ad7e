-- No patch's spelling begins another's, so no group's does, and how long they are.
use Rattle.std.proofs.Common.{◌≡◌, ℕ, suc, ◌+◌, ◌^◌, ◌<◌, List, [], ◌∷◌, ◌++◌, length, drop, arith, ap, refl, sym, ◌∙◌, append_assoc}
use Rattle.std.proofs.lemmas.List.{append-nil, drop-drop, take_at, drop_at}
use Rattle.std.specs.List.{flat_map, AllByRecursion}
use Rattle.byteorder.specs.Endian.{big_bytes}
use Rattle.byteorder.specs.Numbers.{big_number-reads_back}
use Rattle.rb_base.specs.Fields.{part, number_at}
use Rattle.rb_base.specs.Groups.{Patch, patch, patch_length, group_length, IsPatch, IsGroup}
use Rattle.rb_base.proofs.Fronts.{number_apart, part_apart}
use Rattle.rb_base.proofs.Counted.{Apart, counted_apart, counted_same, length_spelled}
use Rattle.rb_group.specs.Spelling.{patch_bytes, group_bytes, patches_in, group_in_front}

pub made : (a b : Patch) → a.block ≡ b.block → a.at ≡ b.at → a.bytes ≡ b.bytes → a ≡ b
made a b e f g = ap (λ (x : ℕ). patch x a.at a.bytes) e ∙ ap (λ (x : ℕ). patch b.block x a.bytes) f ∙ ap (λ (x : List ℕ). patch b.block b.at x) g

pub patch_apart : Apart patch_bytes IsPatch
patch_apart a b s t h i e =
    let one = number_apart 4 a.block b.block (big_bytes 2 a.at ++ (big_bytes 2 (length a.bytes) ++ (a.bytes ++ s))) (big_bytes 2 b.at ++ (big_bytes 2 (length b.bytes) ++ (b.bytes ++ t))) h.block_fits i.block_fits e in
    let two = number_apart 2 a.at b.at (big_bytes 2 (length a.bytes) ++ (a.bytes ++ s)) (big_bytes 2 (length b.bytes) ++ (b.bytes ++ t)) (omega (arith, h.within_block)) (omega (arith, i.within_block)) one.1 in
    let three = number_apart 2 (length a.bytes) (length b.bytes) (a.bytes ++ s) (b.bytes ++ t) (omega (arith, h.within_block)) (omega (arith, i.within_block)) two.1 in
    let four = part_apart a.bytes b.bytes s t three.0 three.1 in
    (made a b one.0 two.0 four.0, four.1)

pub length-patches : (patches : List Patch) → 2 + length (flat_map patch_bytes patches) ≡ group_length patches
length-patches patches = ap (λ (n : ℕ). 2 + n) (length_spelled patch_bytes patch_length (λ p. omega arith) patches)

pub length-group : (patches : List Patch) → length (group_bytes patches) ≡ group_length patches
length-group patches = let e = length-patches patches in omega (arith, e)

pub few_patches : (patches : List Patch) → IsGroup patches → length patches < 2 ^ 16
few_patches patches h = omega (arith, h.few)

pub group_same : (patches others : List Patch) → IsGroup patches → IsGroup others → group_bytes patches ≡ group_bytes others → patches ≡ others
group_same patches others h i e = counted_same patch_bytes IsPatch patches others patch_apart (few_patches patches h) (few_patches others i) h.each i.each e

pub group_prefix : (patches others : List Patch) (rest : List ℕ) → IsGroup patches → IsGroup others → group_bytes patches ++ rest ≡ group_bytes others → rest ≡ []
group_prefix patches others rest h i e =
    (counted_apart patch_bytes IsPatch patches others rest [] patch_apart (few_patches patches h) (few_patches others i) h.each i.each (e ∙ sym (append-nil (group_bytes others)))).1

-- patches read back from their spelling
patches_back : (patches : List Patch) (rest : List ℕ) → AllByRecursion IsPatch patches → patches_in (length patches) (flat_map patch_bytes patches ++ rest) ≡ patches
patches_back [] rest each = refl
patches_back (p ∷ patches) rest each =
    let valid = each.0 in
    let tail = flat_map patch_bytes patches ++ rest in
    let count = length p.bytes in
    let three : List ℕ = big_bytes 2 count ++ (p.bytes ++ tail) in
    let two : List ℕ = big_bytes 2 p.at ++ three in
    let bytes : List ℕ = big_bytes 4 p.block ++ two in
    let is : flat_map patch_bytes (p ∷ patches) ++ rest ≡ bytes = ap (λ (l : List ℕ). big_bytes 4 p.block ++ (big_bytes 2 p.at ++ (big_bytes 2 count ++ l))) (append_assoc p.bytes (flat_map patch_bytes patches) rest) in
    let block : number_at bytes 0 4 ≡ p.block = big_number-reads_back 4 p.block two (omega (arith, valid.block_fits)) in
    let at : number_at bytes 4 2 ≡ p.at = big_number-reads_back 2 p.at three (omega (arith, valid.within_block)) in
    let size : number_at bytes 6 2 ≡ count = big_number-reads_back 2 count (p.bytes ++ tail) (omega (arith, valid.within_block)) in
    let own : part bytes 8 (number_at bytes 6 2) ≡ p.bytes = ap (part bytes 8) size ∙ take_at p.bytes tail count refl in
    let behind : drop (8 + number_at bytes 6 2) bytes ≡ tail = ap (λ (n : ℕ). drop (8 + n) bytes) size ∙ sym (drop-drop count 8 bytes) ∙ drop_at p.bytes tail count refl in
    let first : patch (number_at bytes 0 4) (number_at bytes 4 2) (part bytes 8 (number_at bytes 6 2)) ≡ p = made (patch (number_at bytes 0 4) (number_at bytes 4 2) (part bytes 8 (number_at bytes 6 2))) p block at own in
    let others : patches_in (length patches) (drop (8 + number_at bytes 6 2) bytes) ≡ patches = ap (patches_in (length patches)) behind ∙ patches_back patches rest each.1 in
    ap (patches_in (suc (length patches))) is ∙ ap (λ (q : Patch). q ∷ patches_in (length patches) (drop (8 + number_at bytes 6 2) bytes)) first ∙ ap (λ (qs : List Patch). p ∷ qs) others

-- and a group, whatever stands behind it
pub group_back : (patches : List Patch) (rest : List ℕ) → IsGroup patches → group_in_front (group_bytes patches ++ rest) ≡ patches
unfolding group_in_front
group_back patches rest h =
    let tail = flat_map patch_bytes patches ++ rest in
    let count = big_number-reads_back 2 (length patches) tail (few_patches patches h) in
    ap (λ (n : ℕ). patches_in n tail) count ∙ patches_back patches rest h.each
