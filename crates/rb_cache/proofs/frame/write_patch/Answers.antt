use Rattle.std.proofs.Common.{length, arith, ap}
use Rattle.rb_base.specs.Groups.{patch, IsPatch}
use Rattle.rb_base.proofs.Each.{all_at}
use Rattle.rb_cache.proofs.frame.write_patch.Goals as goal

pub overwrite-requires : goal.overwrite-requires
overwrite-requires c =
    let p = patch c.patch_block.result c.patch_at.result c.patch_bytes.result.now in
    let valid = all_at IsPatch c.args.group.now c.args.place p c.requires.valid.each c.requires.place in
    record { within = omega (arith, valid.within_block, c.requires.unit, c.from-at.ensures, c.patch_at.ensures p, ap length (c.patch_bytes.ensures p)) }
