use Rattle.std.proofs.Common.{◌≡◌, ◌++◌, length, take, drop}
use Rattle.std.specs.List.{flat_map}
use Rattle.byteorder.specs.Endian.{big_bytes}
use Rattle.rb_base.specs.Groups.{group_length}
use Rattle.rb_group.specs.Spelling.{patch_bytes}
use Rattle.rb_group.proofs.write.encode.Given as goal

abbrev pub invariant-loop-i : goal.invariant-loop-i
invariant-loop-i l = record {
  place : l.place ≡ group_length (take l.i l.group);
  whole : l.into ≡ (big_bytes 2 (length l.group) ++ flat_map patch_bytes (take l.i l.group)) ++ drop l.place l.fn.into;
}
