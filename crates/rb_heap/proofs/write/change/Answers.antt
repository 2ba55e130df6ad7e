use Rattle.std.proofs.Common.{◌++◌, ◌∷◌, [], refl, ap, ◌∙◌, append_assoc, List}
use Rattle.rb_base.specs.Groups.{Patch, patch}
use Rattle.rb_cell.specs.Cells.{cell_patch}
use Rattle.rb_heap.specs.Homes.{entry_patch, home_patches}
use Rattle.rb_heap.proofs.write.change.Goals as goal

pub returns-clause-patches : goal.returns-clause-patches
returns-clause-patches c =
    let group = c.args.group.now in
    let first = patch c.args.no c.cell_place.result c.cell_bytes.result in
    let second = patch c.args.no c.entry_place.result c.entry_bytes.result in
    c.push-2.ensures
    ∙ ap (λ (l : List Patch). l ++ second ∷ []) c.push.ensures
    ∙ append_assoc group (first ∷ []) (second ∷ [])
    ∙ rw (c.cell_place.ensures, c.cell_bytes.ensures.bytes, c.entry_place.ensures, c.entry_bytes.ensures.bytes) refl
