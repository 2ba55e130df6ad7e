use Rattle.std.proofs.Common.{◌+◌, ◌-◌, length, arith}
use Rattle.rb_group.proofs.Writing.{patch_written}
use Rattle.rb_group.proofs.write.put_patch.Goals as goal

pub returns-clause-into : goal.returns-clause-into
returns-clause-into c =
    let place = c.args.place in
    let own = c.args.bytes.now in
    patch_written c.args.into.now c.put_u32.new.bytes c.put_u16.new.bytes c.put_u16-2.new.bytes c.copy_from_slice.new.self own place (place + 8 + length own - (place + 8)) (place + 8 + length own) c.args.block c.args.at
    c.requires.room c.put_u32.ensures c.put_u16.ensures c.put_u16-2.ensures c.copy_from_slice.ensures.after (omega arith) (omega arith)
