-- One more patch behind those of a group.
use Rattle.std.proofs.Common.{◌≡◌, ℕ, ◌+◌, ◌<◌, ◌≤◌, List, [], ◌∷◌, ◌++◌, length, take, drop, refl, arith, ap, ◌∙◌}
use Rattle.std.proofs.lemmas.List.{take_all, drop_at, take-append-le, drop-append-le, length-drop, length-append, length_push, map_push}
use Rattle.std.proofs.lemmas.List.Sums.{sum_by_push}
use Rattle.std.specs.List.{AllByRecursion}
use Rattle.rb_base.specs.declared.sizes.TheConstants.{GROUP_BYTES, GROUP_PATCHES}
use Rattle.rb_base.specs.Fields.{part}
use Rattle.rb_base.proofs.Each.{all_push, all_so}
use Rattle.rb_base.specs.Groups.{Patch, patch, patch_length, group_length, IsPatch, IsGroup}
use Rattle.rb_base.specs.Heads.{patch_of, patches_of, IsWithin, IsKept}
use Rattle.rb_base.specs.declared.group.Head.{Head}

-- each patch's bytes stay where they are
part_stays : (bytes more : List ℕ) (at count : ℕ) → at + count ≤ length bytes → part (bytes ++ more) at count ≡ part bytes at count
part_stays bytes more at count within =
    ap (take count) (drop-append-le at bytes more (omega arith)) ∙ take-append-le count (drop at bytes) more (omega (arith, length-drop at bytes))

patches_stay : (bytes more : List ℕ) (heads : List Head) → AllByRecursion (IsWithin bytes) heads → patches_of (bytes ++ more) heads ≡ patches_of bytes heads
patches_stay bytes more [] h = refl
patches_stay bytes more (head ∷ heads) h =
    let one = ap (patch head.block head.at) (part_stays bytes more head.start head.length h.0) in
    let rest = patches_stay bytes more heads h.1 in
    cc

within_more : (bytes more : List ℕ) (heads : List Head) → AllByRecursion (IsWithin bytes) heads → AllByRecursion (IsWithin (bytes ++ more)) heads
within_more bytes more heads h = all_so (IsWithin bytes) (IsWithin (bytes ++ more)) heads (λ head within. omega (arith, within, length-append bytes more)) h

part_behind : (bytes more : List ℕ) (at count : ℕ) → at ≡ length bytes → count ≡ length more → part (bytes ++ more) at count ≡ more
part_behind bytes more at count e f = ap (take count) (drop_at bytes more at (omega (arith, e))) ∙ take_all count more (omega (arith, f))

abbrev head_of : ℕ → ℕ → ℕ → ℕ → Head
head_of block at start count = record { block = block; at = at; start = start; length = count }

pub patches_pushed : (bytes more : List ℕ) (heads : List Head) (block at start count : ℕ) → AllByRecursion (IsWithin bytes) heads → start ≡ length bytes → count ≡ length more
    → patches_of (bytes ++ more) (heads ++ head_of block at start count ∷ []) ≡ patches_of bytes heads ++ patch block at more ∷ []
patches_pushed bytes more heads block at start count h e f =
    map_push (patch_of (bytes ++ more)) heads (head_of block at start count)
    ∙ ap (λ (ps : List Patch). ps ++ patch block at (part (bytes ++ more) start count) ∷ []) (patches_stay bytes more heads h)
    ∙ ap (λ (l : List ℕ). patches_of bytes heads ++ patch block at l ∷ []) (part_behind bytes more start count e f)

pub length_pushed : (patches : List Patch) (p : Patch) → group_length (patches ++ p ∷ []) ≡ group_length patches + patch_length p
length_pushed patches p = let e = sum_by_push patch_length patches p in omega (arith, e)

pub group_pushed : (patches : List Patch) (p : Patch) → IsGroup patches → IsPatch p → length patches < GROUP_PATCHES → group_length patches + patch_length p ≤ GROUP_BYTES → IsGroup (patches ++ p ∷ [])
group_pushed patches p h valid few room = record {
  few = omega (arith, length_push patches p);
  each = all_push IsPatch patches p h.each valid;
  within = omega (arith, length_pushed patches p);
}

pub kept_pushed : (bytes more : List ℕ) (heads : List Head) (block at start count : ℕ) → IsKept bytes heads → IsPatch (patch block at more) → length (patches_of bytes heads) < GROUP_PATCHES
    → group_length (patches_of bytes heads) + (8 + length more) ≤ GROUP_BYTES → start ≡ length bytes → count ≡ length more → IsKept (bytes ++ more) (heads ++ head_of block at start count ∷ [])
kept_pushed bytes more heads block at start count h valid few room e f =
    let pushed = patches_pushed bytes more heads block at start count h.each_within e f in
    record {
      valid = rw pushed (group_pushed (patches_of bytes heads) (patch block at more) h.valid valid few room);
      each_within = all_push (IsWithin (bytes ++ more)) heads (head_of block at start count) (within_more bytes more heads h.each_within) (omega (arith, length-append bytes more, e, f));
      filled = omega (arith, ap group_length pushed, length_pushed (patches_of bytes heads) (patch block at more), h.filled, length-append bytes more, length_push heads (head_of block at start count));
    }
