-- The fields of a cell written one behind another, over zeros.
use Rattle.std.proofs.Common.{◌≡◌, ℕ, ◌+◌, ◌≤◌, List, [], ◌∷◌, ◌++◌, length, drop, set, replicate, arith, ap, sym, ◌∙◌}
use Rattle.std.proofs.lemmas.List.{drop-replicate, length-replicate}
use borrow.Rule.Slice.PartMut.{put_mid}
use Rattle.rb_base.specs.declared.sizes.TheConstants.{VALUE_BYTES}
use Rattle.rb_cell.specs.declared.cell.TheConstants.{CELL_BYTES, HEAD_BYTES}
use Rattle.byteorder.specs.Endian.{big_bytes}
use Rattle.rb_base.specs.Fields.{with_number}
use Rattle.rb_base.proofs.Written.{byte_next, number_next, part_next, nothing_yet}
use Rattle.rb_cell.specs.declared.cell.Cell.{Cell}
use Rattle.rb_cell.specs.Cells.{cell_bytes}

abbrev zeros : List ℕ
zeros = replicate CELL_BYTES 0

abbrev spelled : Cell → ℕ → List ℕ → List ℕ → List ℕ
spelled cell count value rest = cell.state ∷ cell.lock ∷ (big_bytes 2 count ++ (big_bytes 8 cell.key ++ (value ++ rest)))

pub cell_written : (cell : Cell) (two eight part : List ℕ) (size count : ℕ) → length cell.value.items ≤ VALUE_BYTES → two ≡ with_number (set (set zeros 0 cell.state) 1 cell.lock) 2 2 size → eight ≡ with_number two 4 8 cell.key
    → part ≡ cell.value.items → size ≡ length cell.value.items → count ≡ length cell.value.items → put_mid HEAD_BYTES count eight part ≡ cell_bytes cell
cell_written cell two eight part size count short two-is eight-is part-is size-is count-is =
    let long = length-replicate {A = ℕ} CELL_BYTES 0 in
    let head = cell.state ∷ cell.lock ∷ [] in
    let h1 = byte_next zeros zeros [] 0 cell.state (nothing_yet zeros 0 (omega arith)) (omega (arith, long)) in
    let h2 = byte_next zeros (set zeros 0 cell.state) (cell.state ∷ []) 1 cell.lock h1 (omega (arith, long)) in
    let h3 = number_next zeros (set (set zeros 0 cell.state) 1 cell.lock) head two 2 2 size h2 two-is (omega (arith, long)) in
    let h4 = number_next zeros two (head ++ big_bytes 2 size) eight 4 8 cell.key h3 eight-is (omega (arith, long)) in
    let h5 = part_next zeros eight ((head ++ big_bytes 2 size) ++ big_bytes 8 cell.key) part HEAD_BYTES count h4 (ap length part-is ∙ sym count-is) (omega (arith, long)) in
    h5.whole
    ∙ ap (λ (n : ℕ). spelled cell n part (drop (HEAD_BYTES + count) zeros)) size-is
    ∙ ap (λ (l : List ℕ). spelled cell (length cell.value.items) l (drop (HEAD_BYTES + count) zeros)) part-is
    ∙ ap (spelled cell (length cell.value.items) cell.value.items) (drop-replicate (HEAD_BYTES + count) CELL_BYTES 0 ∙ ap (λ (n : ℕ). replicate n 0) (omega arith))
