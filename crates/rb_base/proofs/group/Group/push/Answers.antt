use Rattle.std.proofs.Common.{rules, ◌≡◌, ◌+◌, ◌<◌, ◌≤◌, ◌++◌, List, length, arith, sym, subst}
use Rattle.rb_base.specs.declared.sizes.TheConstants.{GROUP_BYTES, GROUP_PATCHES}
use Rattle.rb_base.specs.Groups.{Patch, patch, group_length, IsPatch}
use Rattle.rb_base.specs.Heads.{patches_of}
use Rattle.rb_base.proofs.Groups.{patches_pushed, kept_pushed}
use Rattle.rb_base.proofs.group.Group.push.Goals as goal

pub invariant_of-self : goal.invariant_of-self
invariant_of-self c =
    let a = c.self.inside in
    let bytes : c.try_extend_from_slice.new.self.items ≡ a.bytes.items ++ c.args.bytes.now = search rules in
    let few : length (patches_of a.bytes.items a.heads.items) < GROUP_PATCHES = subst (λ (ps : List Patch). length ps < GROUP_PATCHES) (sym c.self.view_is) c.requires.count in
    let room : group_length (patches_of a.bytes.items a.heads.items) + (8 + length c.args.bytes.now) ≤ GROUP_BYTES =
    subst (λ (ps : List Patch). group_length ps + (8 + length c.args.bytes.now) ≤ GROUP_BYTES) (sym c.self.view_is) c.requires.room in
    let valid : IsPatch (patch c.args.block c.args.at c.args.bytes.now) = record { block_fits = c.ranges.block.fits; some = c.requires.some; behind_head = c.requires.behind_head; within_block = c.requires.within_block } in
    rw (bytes, c.push.ensures.items) (kept_pushed a.bytes.items c.args.bytes.now a.heads.items c.args.block c.args.at _ _ c.self.invariant valid few room c.len.ensures.value (omega arith))

pub returns : goal.returns
returns c =
    let a = c.self.inside in
    let bytes : c.try_extend_from_slice.new.self.items ≡ a.bytes.items ++ c.args.bytes.now = search rules in
    rw (bytes, c.push.ensures.items, ← c.self.view_is) (patches_pushed a.bytes.items c.args.bytes.now a.heads.items c.args.block c.args.at _ _ c.self.invariant.each_within c.len.ensures.value (omega arith))
