-- What the bytes at the front of a group say, and how far its reader has come.
use Rattle.std.proofs.Common.{◌≡◌, ◌≢◌, ℕ, ◌+◌, ◌^◌, ◌<◌, ◌≤◌, List, [], ◌∷◌, ◌++◌, length, take, drop, refl, arith, ap, sym, ◌∙◌}
use Rattle.std.proofs.lemmas.List.{length-append, length-drop, length-take-le, take-append-drop, drop-drop, append-nil}
use Rattle.std.specs.List.{flat_map}
use Rattle.rb_base.specs.declared.sizes.TheConstants.{GROUP_BYTES, GROUP_PATCHES}
use Rattle.byteorder.specs.Endian.{big_bytes}
use Rattle.rb_base.specs.Fields.{number_at}
use Rattle.rb_base.specs.Groups.{Patch, patch, group_length, IsPatch}
use Rattle.rb_base.proofs.Fronts.{IsBytes, IsBytes-drop, front_2, front_4}
use Rattle.rb_base.proofs.Counted.{IsFront, front_more, front_stuck, front_at_end, front_ended}
use Rattle.rb_group.specs.Spelling.{patch_bytes, SpellsGroup}
use Rattle.rb_group.proofs.Spelling.{patch_apart, few_patches, length-patches, length-group}

-- the fields at the front of the bytes
patch_front : (bytes : List ℕ) → IsBytes bytes → 8 ≤ length bytes → bytes ≡ big_bytes 4 (number_at bytes 0 4) ++ (big_bytes 2 (number_at bytes 4 2) ++ (big_bytes 2 (number_at bytes 6 2) ++ drop 8 bytes))
patch_front bytes fits long =
    let one = front_4 bytes fits (omega arith) in
    let two = front_2 (drop 4 bytes) (IsBytes-drop 4 bytes fits) (omega (arith, length-drop 4 bytes)) in
    let three = front_2 (drop 6 bytes) (IsBytes-drop 6 bytes fits) (omega (arith, length-drop 6 bytes)) in
    one ∙ ap (λ (x : List ℕ). big_bytes 4 (number_at bytes 0 4) ++ x)
    (two ∙ ap (λ (x : List ℕ). big_bytes 2 (number_at bytes 4 2) ++ x) (drop-drop 2 4 bytes ∙ three ∙ ap (λ (x : List ℕ). big_bytes 2 (number_at bytes 6 2) ++ x) (drop-drop 2 6 bytes)))

abbrev spelled : ℕ → ℕ → ℕ → List ℕ → List ℕ
spelled block at count behind = big_bytes 4 block ++ (big_bytes 2 at ++ (big_bytes 2 count ++ behind))

-- the patch that was read is spelled so
pub patch_found : (bytes : List ℕ) (block at count : ℕ) (own rest : List ℕ) → IsBytes bytes → 8 ≤ length bytes → count ≡ number_at bytes 6 2 → count ≤ length (drop 8 bytes)
    → block ≡ number_at bytes 0 4 → at ≡ number_at bytes 4 2 → own ≡ take count (drop 8 bytes) → rest ≡ drop count (drop 8 bytes) → bytes ≡ patch_bytes (patch block at own) ++ rest
patch_found bytes block at count own rest fits long count-is within block-is at-is own-is rest-is =
    let behind : drop 8 bytes ≡ own ++ rest = sym (take-append-drop count (drop 8 bytes)) ∙ ap (λ (x : List ℕ). x ++ drop count (drop 8 bytes)) (sym own-is) ∙ ap (λ (x : List ℕ). own ++ x) (sym rest-is) in
    let length-is : count ≡ length own = sym (length-take-le count (drop 8 bytes) within) ∙ ap length (sym own-is) in
    patch_front bytes fits long
    ∙ ap (λ (x : ℕ). spelled x (number_at bytes 4 2) (number_at bytes 6 2) (drop 8 bytes)) (sym block-is)
    ∙ ap (λ (x : ℕ). spelled block x (number_at bytes 6 2) (drop 8 bytes)) (sym at-is)
    ∙ ap (λ (x : ℕ). spelled block at x (drop 8 bytes)) (sym count-is ∙ length-is)
    ∙ ap (λ (x : List ℕ). spelled block at (length own) x) behind

-- how far the reader has come
abbrev pub IsRead : ℕ → List ℕ → ℕ → List Patch → List ℕ → Type 0
IsRead count bytes index held rest = IsFront patch_bytes IsPatch count bytes index held rest

pub none_read : (count : ℕ) (bytes rest : List ℕ) → IsBytes bytes → 2 ≤ length bytes → count ≡ number_at bytes 0 2 → rest ≡ drop 2 bytes → IsRead count bytes 0 [] rest
none_read count bytes rest fits long count-is rest-is = record {
  each = tt;
  counts = refl;
  whole = front_2 bytes fits long ∙ ap (λ (n : ℕ). big_bytes 2 n ++ drop 2 bytes) (sym count-is) ∙ ap (λ (l : List ℕ). big_bytes 2 count ++ l) (sym rest-is);
}

pub read_more : (count : ℕ) (bytes : List ℕ) (index : ℕ) (held : List Patch) (rest : List ℕ) (p : Patch) (behind : List ℕ) → IsRead count bytes index held rest → IsPatch p → rest ≡ patch_bytes p ++ behind
    → IsRead count bytes (index + 1) (held ++ p ∷ []) behind
read_more count bytes index held rest p behind h valid e = front_more patch_bytes IsPatch count bytes index held rest p behind h valid e

-- what is read stays within the bytes
pub read_fits : (count : ℕ) (bytes : List ℕ) (index : ℕ) (held : List Patch) (rest : List ℕ) → IsRead count bytes index held rest → group_length held ≤ length bytes
read_fits count bytes index held rest h =
    let e = length-patches held in
    let l = length-append (flat_map patch_bytes held) rest in
    let w = ap length h.whole in
    omega (arith, e, l, w)

-- where no patch comes next, the bytes spell no group
pub read_stuck : (count : ℕ) (bytes : List ℕ) (index : ℕ) (held : List Patch) (rest : List ℕ) → count < 2 ^ 16 → index < count → IsRead count bytes index held rest
    → ((p : Patch) (behind : List ℕ) → IsPatch p → rest ≢ patch_bytes p ++ behind) → (patches : List Patch) → SpellsGroup bytes patches → ⊥
read_stuck count bytes index held rest fits lt h none patches s =
    front_stuck patch_bytes IsPatch count bytes index held rest patch_apart fits lt h none patches (few_patches patches s.valid) s.valid.each s.whole

pub read_at_end : (count : ℕ) (bytes : List ℕ) (index : ℕ) (held : List Patch) (rest : List ℕ) → index ≤ count → count ≤ index → IsRead count bytes index held rest → IsRead count bytes count held rest
read_at_end count bytes index held rest le ge h = front_at_end patch_bytes IsPatch count bytes index held rest le ge h

pub read_ended : (count : ℕ) (bytes : List ℕ) (held : List Patch) (rest : List ℕ) → count < 2 ^ 16 → IsRead count bytes count held rest → (patches : List Patch) → SpellsGroup bytes patches → rest ≡ []
read_ended count bytes held rest fits h patches s =
    (front_ended patch_bytes IsPatch count bytes held rest patch_apart fits h patches (few_patches patches s.valid) s.valid.each s.whole).1

pub read_found : (count : ℕ) (bytes : List ℕ) (held : List Patch) (rest : List ℕ) → length bytes ≤ GROUP_BYTES → 0 < count → count ≤ GROUP_PATCHES → IsRead count bytes count held rest → rest ≡ [] → SpellsGroup bytes held
read_found count bytes held rest long some few h empty =
    let f = read_fits count bytes count held rest h in
    let c = h.counts in
    record {
      valid = record { few = omega (arith, c); each = h.each; within = omega (arith, f) };
      some = omega (arith, c);
      whole = h.whole ∙ ap (λ (n : ℕ). big_bytes 2 n ++ (flat_map patch_bytes held ++ rest)) (sym c) ∙ ap (λ (l : List ℕ). big_bytes 2 (length held) ++ (flat_map patch_bytes held ++ l)) empty
          ∙ ap (λ (l : List ℕ). big_bytes 2 (length held) ++ l) (append-nil (flat_map patch_bytes held));
    }

-- how long a group's spelling is
pub spelled_length : (bytes : List ℕ) (patches : List Patch) → SpellsGroup bytes patches → (2 ≤ length bytes) × (length bytes ≤ GROUP_BYTES)
spelled_length bytes patches s =
    let e = ap length s.whole in
    let l = length-group patches in
    let w = s.valid.within in
    (omega (arith, e, l), omega (arith, e, l, w))
