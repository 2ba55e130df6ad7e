use Rattle.std.proofs.Common.{length, take, drop, arith, ap, ◌∙◌}
use Rattle.std.proofs.lemmas.List.{length-drop, take_rest}
use Rattle.rb_group.proofs.Reading.{patch_found}
use Rattle.rb_group.proofs.read.read_patch.Goals as goal

pub returns-clause-found : goal.returns-clause-found
returns-clause-found c =
    let bytes = c.args.bytes.now in
    let rest = take_rest bytes 8 in
    let l = length-drop 8 bytes in
    let count = c.u16_at-length.result in
    patch_found bytes c.u32_at.result c.u16_at-at.result count c.split_at.result.0.now c.split_at.result.1.now (λ i. omega (arith, c.type_inv.bytes i)) (omega arith) c.u16_at-length.ensures (omega (arith, l, ap length rest))
    c.u32_at.ensures c.u16_at-at.ensures (c.split_at.ensures.front ∙ ap (take count) rest) (c.split_at.ensures.back ∙ ap (drop count) rest)
