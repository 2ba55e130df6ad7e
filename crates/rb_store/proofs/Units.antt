-- A file that grows by writes at its end, and bytes that are filled from their front on.
use Rattle.std.proofs.Common.{◌≡◌, ◌≤◌, ℕ, ◌+◌, ◌*◌, List, [], ◌++◌, length, take, drop, replicate, ◌∙◌, ap, sym, arith, append_assoc, length-append}
use Rattle.std.specs.List.{concat}
use Rattle.std.proofs.Math.Seq.{take-length}
use Rattle.std.proofs.lemmas.List.{drop_all, nil_from_length, append-nil, length-replicate, replicate-append-replicate, take_at, length-take-le}
use Rattle.rb_base.specs.Blocks.{fresh_block, fresh_from}
use Rattle.rb_base.specs.declared.shape.Shape.{Shape}
use Rattle.rb_base.specs.Fields.{overwritten}
use Rattle.rb_base.specs.declared.sizes.TheConstants.{UNIT}
use Rattle.rb_layout.specs.declared.layout.Layout.{Layout}
use Rattle.rb_layout.specs.Fresh.{first_long, fresh_unit, front_long, units_long, units_split}
use Rattle.rb_layout.specs.Regions.{block_offset, fresh_first, fresh_front, shape_of}

pub written_at_end : (old bytes : List ℕ) (at : ℕ) → at ≡ length old → overwritten old at bytes ≡ old ++ bytes
written_at_end old bytes at e =
    let front : take at old ≡ old = ap (λ (n : ℕ). take n old) e ∙ take-length old in
    let behind : drop (at + length bytes) old ≡ [] = drop_all (at + length bytes) old (omega arith) in
    ap (λ (l : List ℕ). l ++ bytes ++ drop (at + length bytes) old) front ∙ ap (λ (l : List ℕ). old ++ bytes ++ l) behind ∙ append-nil (old ++ bytes)

-- the first write of an empty file
pub first_written : (old new bytes : List ℕ) → length old ≡ 0 → new ≡ overwritten old 0 bytes → new ≡ bytes
first_written old new bytes empty now = now ∙ written_at_end old bytes 0 (sym empty) ∙ ap (λ (l : List ℕ). l ++ bytes) (nil_from_length old empty)

pub length_so_far : (version : ℕ) (file : List ℕ) (l : Layout) (n : ℕ) → file ≡ fresh_first version l ++ replicate n 0 → length file ≡ (3 * UNIT) + n
length_so_far version file l n is =
    ap length is ∙ length-append (fresh_first version l) (replicate n 0) ∙ ap (λ (k : ℕ). k + length (replicate {A = ℕ} n 0)) (first_long version l) ∙ ap (λ (k : ℕ). (3 * UNIT) + k) (length-replicate n 0)

-- `count` zeros more
pub zeros_written : (version : ℕ) (old new zeros : List ℕ) (l : Layout) (at n count more : ℕ) → old ≡ fresh_first version l ++ replicate n 0 → at ≡ (3 * UNIT) + n
    → zeros ≡ replicate count 0 → new ≡ overwritten old at zeros → n + count ≡ more → new ≡ fresh_first version l ++ replicate more 0
zeros_written version old new zeros l at n count more is place zero now total =
    now ∙ written_at_end old zeros at (place ∙ sym (length_so_far version old l n is)) ∙ ap (λ (f : List ℕ). f ++ zeros) is
    ∙ append_assoc (fresh_first version l) (replicate n 0) zeros ∙ ap (λ (f : List ℕ). fresh_first version l ++ (replicate n 0 ++ f)) zero
    ∙ ap (λ (f : List ℕ). fresh_first version l ++ f) (replicate-append-replicate n count 0 ∙ ap (λ (k : ℕ). replicate k 0) total)

-- a piece of blocks more
pub blocks_written : (version : ℕ) (old new piece : List ℕ) (l : Layout) (first count : ℕ) → old ≡ fresh_front version l ++ concat (fresh_from (shape_of l) 0 first)
    → piece ≡ concat (fresh_from (shape_of l) first count) → new ≡ overwritten old (block_offset l first) piece → new ≡ fresh_front version l ++ concat (fresh_from (shape_of l) 0 (first + count))
blocks_written version old new piece l first count is bytes now =
    let shape = shape_of l in
    let front = fresh_front version l in
    let units = concat (fresh_from shape 0 first) in
    let long : block_offset l first ≡ length old = let whole = ap length is in let f = front_long version l in let u = units_long shape 0 first in omega (arith, whole, f, u, length-append front units) in
    let own : first ≡ 0 + first = omega arith in
    now ∙ written_at_end old piece (block_offset l first) long ∙ ap (λ (f : List ℕ). f ++ piece) is ∙ append_assoc front units piece
    ∙ ap (λ (f : List ℕ). front ++ (units ++ f)) (bytes ∙ ap (λ (k : ℕ). concat (fresh_from shape k count)) own)
    ∙ ap (λ (f : List ℕ). front ++ f) (units_split shape 0 first count)

-- where such a piece begins
pub blocks_end : (version : ℕ) (file : List ℕ) (l : Layout) (first : ℕ) → file ≡ fresh_front version l ++ concat (fresh_from (shape_of l) 0 first) → length file ≡ block_offset l first
blocks_end version file l first is =
    let whole = ap length is in
    let f = front_long version l in
    let u = units_long (shape_of l) 0 first in omega (arith, whole, f, u, length-append (fresh_front version l) (concat (fresh_from (shape_of l) 0 first)))

-- one block more
filled_more : (old new bytes front : List ℕ) (at : ℕ) → at ≤ length old → length bytes ≡ UNIT → new ≡ overwritten old at bytes → take at old ≡ front → take (at + UNIT) new ≡ front ++ bytes
filled_more old new bytes front at within long now before =
    let rest = drop (at + length bytes) old in
    let size = length-take-le at old within in
    ap (take (at + UNIT)) now
    ∙ take_at (take at old ++ bytes) rest (at + UNIT) (omega (arith, size, long, length-append (take at old) bytes))
    ∙ ap (λ (f : List ℕ). f ++ bytes) before

pub block_put : (shape : Shape) (old new : List ℕ) (first k : ℕ) → UNIT * (k + 1) ≤ length old → new ≡ overwritten old (UNIT * k) (fresh_block shape (first + k))
    → take (UNIT * k) old ≡ concat (fresh_from shape first k) → take (UNIT * (k + 1)) new ≡ concat (fresh_from shape first (k + 1))
block_put shape old new first k room now before =
    let block = fresh_block shape (first + k) in
    let one : concat (fresh_from shape (first + k) 1) ≡ block = append-nil block in
    let place : UNIT * k + UNIT ≡ UNIT * (k + 1) = omega arith in
    ap (λ (n : ℕ). take n new) (sym place)
    ∙ filled_more old new block (concat (fresh_from shape first k)) (UNIT * k) (omega (arith, room)) (fresh_unit shape (first + k)) now before
    ∙ ap (λ (f : List ℕ). concat (fresh_from shape first k) ++ f) (sym one)
    ∙ units_split shape first k 1
