-- A new file is one of its layout, and has the blocks of a new file at home.
use Rattle.std.specs.Prelude.{◌≡◌, ◌≤◌, ◌<◌, ◌+◌, ◌*◌, ℕ, zero, suc, ◌-◌}
use Rattle.std.specs.Prelude.{◌++◌, ◌==◌, if◌then◌else◌}
use Rattle.std.specs.Prelude.{Bool, List, ◌∷◌, length, replicate, take, drop, get_or}
use Rattle.std.specs.List.{AllByRecursion, concat}
use Rattle.std.proofs.Common.{arith, ap, ◌∙◌, sym, refl, inl, inr, length-append}
use Rattle.std.proofs.lemmas.Bool.{cases_Bool}
use Rattle.std.proofs.lemmas.List.{take_at, take-append-le, drop_at, length-replicate, drop-drop, get_or_append_left}
use Rattle.std.proofs.lemmas.List.{get_or-append_right, get_or-replicate}
use Rattle.std.proofs.lemmas.List.Folds.{concat-append}
use Rattle.rb_base.specs.Blocks.{AreBlocks, block_kind, fresh_block, fresh_blocks, fresh_from, fresh_head}
use Rattle.rb_base.specs.Blocks.{fresh_rest, fresh_segment, shape_blocks}
use Rattle.rb_base.specs.Fields.{part}
use Rattle.rb_base.specs.declared.shape.Shape.{Shape}
use Rattle.rb_base.proofs.Blocks.{fresh_count}
use Rattle.rb_layout.specs.declared.layout.Layout.{Layout}
use Rattle.rb_layout.specs.Regions.{identity, block_offset, fresh_copy, fresh_file, fresh_first, fresh_front, shape_of}
use Rattle.rb_layout.specs.Regions.{HasIdentity}

length-segment : length fresh_segment ≡ 2016
length-segment = refl

length-rest : (kind : ℕ) → length (fresh_rest kind) ≡ 2016
length-rest kind = elim (cases_Bool (kind == 2)) [
  | inl e ↦ ap (λ (b : Bool). length (if b then fresh_segment else replicate 2016 0)) e ∙ length-segment
  | inr e ↦ ap (λ (b : Bool). length (if b then fresh_segment else replicate 2016 0)) e
      ∙ length-replicate {A = ℕ} 2016 0
]

pub fresh_unit : (shape : Shape) (which : ℕ) → length (fresh_block shape which) ≡ 2048
fresh_unit shape which =
    let kind = block_kind shape which in
    omega (arith, length-append (fresh_head kind which) (fresh_rest kind), length-rest kind)

from_units : (shape : Shape) (first count : ℕ)
    → AllByRecursion (λ block. length block ≡ 2048) (fresh_from shape first count)
from_units shape first zero = tt
from_units shape first (suc count) = (fresh_unit shape first, from_units shape (first + 1) count)

-- the blocks of a new file are as many as it has, each of a unit
pub fresh_are_blocks : (shape : Shape) → AreBlocks shape (fresh_blocks shape)
fresh_are_blocks shape = record {
  count = fresh_count shape 0 (shape_blocks shape);
  each = from_units shape 0 (shape_blocks shape);
}

pub units_long : (shape : Shape) (first count : ℕ) → length (concat (fresh_from shape first count)) ≡ 2048 * count
units_long shape first zero = refl
units_long shape first (suc count) =
    let one = fresh_unit shape first in
    let more = units_long shape (first + 1) count in
    let both = length-append (fresh_block shape first) (concat (fresh_from shape (first + 1) count)) in
    omega (arith, one, more, both)

-- the blocks of a new file, and more behind them
pub from_split : (shape : Shape) (first n m : ℕ)
    → fresh_from shape first (n + m) ≡ fresh_from shape first n ++ fresh_from shape (first + n) m
from_split shape first zero m =
    let none : first ≡ first + 0 = omega arith in
    ap (fresh_from shape first) {x = 0 + m} {y = m} (omega arith) ∙ ap (λ (k : ℕ). fresh_from shape k m) none
from_split shape first (suc n) m =
    let next : first + 1 + n ≡ first + suc n = omega arith in
    let more : suc n + m ≡ suc (n + m) = omega arith in
    ap (fresh_from shape first) more
    ∙ ap (λ (l : List (List ℕ)). fresh_block shape first ∷ l) (from_split shape (first + 1) n m)
    ∙ ap (λ (k : ℕ). fresh_block shape first ∷ (fresh_from shape (first + 1) n ++ fresh_from shape k m)) next

pub units_split : (shape : Shape) (first n m : ℕ)
    → concat (fresh_from shape first n) ++ concat (fresh_from shape (first + n) m)
    ≡ concat (fresh_from shape first (n + m))
units_split shape first n m = sym (ap concat (from_split shape first n m)
    ∙ concat-append (fresh_from shape first n) (fresh_from shape (first + n) m))

unit_at : (shape : Shape) (first count which : ℕ) → which < count
    → part (concat (fresh_from shape first count)) (2048 * which) 2048 ≡ fresh_block shape (first + which)
unit_at shape first zero which lt = absurd (omega arith)
unit_at shape first (suc count) zero lt =
    let rest = concat (fresh_from shape (first + 1) count) in
    let own : first ≡ first + 0 = omega arith in
    take_at (fresh_block shape first) rest 2048 (fresh_unit shape first) ∙ ap (fresh_block shape) own
unit_at shape first (suc count) (suc which) lt =
    let rest = concat (fresh_from shape (first + 1) count) in
    let all = fresh_block shape first ++ rest in
    let place : 2048 + 2048 * which ≡ 2048 * suc which = omega arith in
    let own : first + 1 + which ≡ first + suc which = omega arith in
    let behind : drop (2048 * suc which) all ≡ drop (2048 * which) rest =
    ap (λ (i : ℕ). drop i all) (sym place)
    ∙ sym (drop-drop (2048 * which) 2048 all)
    ∙ ap (drop (2048 * which)) (drop_at (fresh_block shape first) rest 2048 (fresh_unit shape first)) in
    ap (take 2048) behind
    ∙ unit_at shape (first + 1) count which (omega (arith, lt))
    ∙ ap (fresh_block shape) own

pub first_long : (version : ℕ) (l : Layout) → length (fresh_first version l) ≡ 6144
first_long version l =
    let zeros : List ℕ = replicate 2024 0 in
    let own : length (identity version l) ≡ 24 = omega arith in
    let copy : length fresh_copy ≡ 2048 = refl in
    omega (
      arith,
      own,
      copy,
      length-append (identity version l) (zeros ++ fresh_copy ++ fresh_copy),
      length-append zeros (fresh_copy ++ fresh_copy),
      length-append fresh_copy fresh_copy,
      length-replicate {A = ℕ} 2024 0,
    )

pub front_long : (version : ℕ) (l : Layout) → length (fresh_front version l) ≡ block_offset l 0
front_long version l = omega (
  arith,
  first_long version l,
  length-append (fresh_first version l) (replicate (block_offset l 0 - 6144) 0),
  length-replicate {A = ℕ} (block_offset l 0 - 6144) 0,
)

pub fresh_has_identity : (version : ℕ) (l : Layout) → HasIdentity version l (fresh_file version l)
fresh_has_identity version l =
    let rest : List ℕ = replicate 2024 0 ++ fresh_copy ++ fresh_copy in
    let zeros : List ℕ = replicate (block_offset l 0 - 6144) 0 in
    let units = concat (fresh_blocks (shape_of l)) in
    let long : length (identity version l) ≡ 24 = omega arith in
    let first = first_long version l in
    let front = front_long version l in record {
      front = take-append-le 24 (fresh_front version l) units (omega (arith, front))
          ∙ take-append-le 24 (fresh_first version l) zeros (omega (arith, first))
          ∙ take_at (identity version l) rest 24 long;
      whole = omega (
        arith,
        length-append (fresh_front version l) units,
        front,
        units_long (shape_of l) 0 (shape_blocks (shape_of l)),
      );
    }

-- The blocks of a new file stand at home.
pub fresh_home : (version : ℕ) (l : Layout) (which : ℕ) → which < shape_blocks (shape_of l)
    → part (fresh_file version l) (block_offset l which) 2048 ≡ fresh_block (shape_of l) which
fresh_home version l which lt =
    let front = fresh_front version l in
    let units = concat (fresh_blocks (shape_of l)) in
    let place : block_offset l 0 + 2048 * which ≡ block_offset l which = omega arith in
    let behind : drop (block_offset l which) (front ++ units) ≡ drop (2048 * which) units =
    ap (λ (i : ℕ). drop i (front ++ units)) (sym place)
    ∙ sym (drop-drop (2048 * which) (block_offset l 0) (front ++ units))
    ∙ ap (drop (2048 * which)) (drop_at front units (block_offset l 0) (front_long version l)) in
    ap (take 2048) behind ∙ unit_at (shape_of l) 0 (shape_blocks (shape_of l)) which lt
    ∙ ap (fresh_block (shape_of l)) {x = 0 + which} (omega arith)

-- All between its control copies and its blocks is zeros.
pub fresh_zero : (version : ℕ) (l : Layout) (at : ℕ) → 6144 ≤ at → at < block_offset l 0
    → get_or (fresh_file version l) at 0 ≡ 0
fresh_zero version l at behind before =
    let zeros : List ℕ = replicate (block_offset l 0 - 6144) 0 in
    let front = front_long version l in
    get_or_append_left (fresh_front version l) (concat (fresh_blocks (shape_of l))) 0 at (omega (arith, front, before))
    ∙ get_or-append_right (fresh_first version l) zeros 6144 at 0 (first_long version l) behind
    ∙ get_or-replicate (block_offset l 0 - 6144) (at - 6144) 0 0 (omega (arith, behind, before))
