use Rattle.std.proofs.Common.{sym, arith}
use Rattle.std.proofs.lemmas.List.{length-take-le}
use Rattle.test_parts.proofs.group.most_patches.Goals as goal

pub slice_bounds-is_group-end-2 : goal.slice_bounds-is_group-end-2
slice_bounds-is_group-end-2 g c = sym (length-take-le 362 _ (omega (arith, c.small_patches.type_inv)))
