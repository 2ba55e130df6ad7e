use Rattle.std.proofs.Common.{◌≡◌, ◌+◌, length, drop, ap, sym, ◌∙◌, subst}
use Rattle.std.proofs.lemmas.List.{take_at}
use Rattle.rb_base.specs.Blocks.{AreBlocks, after_group}
use Rattle.rb_base.proofs.Blocks.{group_keeps, group_count}
use Rattle.rb_plainstore.proofs.plain.PlainStoreStore.apply.Goals as goal

pub invariant_of-self : goal.invariant_of-self
invariant_of-self c =
    let shape = c.self.inside.shape in
    let old = c.self.inside.blocks.items in
    let lsn = c.self.inside.lsn + 1 in
    let new = c.patch.new.blocks in
    let is : new ≡ after_group lsn c.args.group.now old = c.patch.ensures.patched ∙ ap (after_group lsn c.args.group.now) c.as_mut_slice.ensures.value in
    let len : length new ≡ c.self.inside.blocks.len = ap length is ∙ group_count lsn c.args.group.now old ∙ sym c.self.inside.blocks.ok.0 in
    record {
      shape_fits = c.self.invariant.shape_fits;
      are_blocks = subst (AreBlocks shape) (sym is ∙ sym (take_at new (drop (length new) old) c.self.inside.blocks.len len)) (group_keeps shape lsn c.args.group.now old c.self.invariant.are_blocks c.patch.ensures.valid.each);
      loaded_there = c.self.invariant.loaded_there;
    }
