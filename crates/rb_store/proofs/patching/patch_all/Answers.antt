use Rattle.std.proofs.Common.{[], ◌≡◌, ◌<◌, ℕ, length, get_or, subst, sym, arith, ◌∙◌}
use Rattle.std.proofs.lemmas.List.{get_or_default}
use Rattle.rb_base.specs.Groups.{Patch, patch}
use Rattle.rb_base.proofs.Each.{all_at}
use Rattle.rb_layout.specs.Regions.{block_count}
use Rattle.rb_layout.specs.declared.layout.Layout.{Layout}
use Rattle.rb_store.proofs.PatchLemmas.{all_patched, fills_joined, first_patched, more_leaves, more_patched, patched_again, waits_joined}
use Rattle.rb_store.proofs.patching.patch_all.Goals as goal

pub loop-i-init : goal.loop-i-init
loop-i-init g c = first_patched g.D.Disk g.D.Disk.tells c.args.cache.now c.args.disk.now c.args.number c.args.group.now c.requires.memory c.requires.batch c.requires.calm c.requires.clean
    (λ told im left. g.met.D.Disk.only_now c.args.disk.now im told left)

pub patch-requires-clause-there : goal.patch-requires-clause-there
patch-requires-clause-there g c =
    let p = patch c.patch_block.result 0 [] in
    let in_group : c.loop-i.i < length c.args.group.now = omega (arith, c.patches-i-end.ensures.count, c.loop-i-test.true, c.loop-i.auto.i-end) in
    let within = all_at (λ (q : Patch). q.block < block_count c.args.cache.now.layout) c.args.group.now c.loop-i.i p c.requires.within in_group in
    subst (λ (l : Layout). c.patch_block.result < block_count l) (sym c.loop-i.invariant.keeps.layout) (subst (λ (b : ℕ). b < block_count c.args.cache.now.layout) (sym (c.patch_block.ensures p)) within)

pub returns-in_err-patch-clause-any_moment : goal.returns-in_err-patch-clause-any_moment
returns-in_err-patch-clause-any_moment g c = λ told groups long log.
    let i = c.loop-i.invariant in
    more_leaves g.D.Disk c.args.cache.now c.loop-i.cache c.args.disk.now c.loop-i.disk c.args.number c.args.group.now c.loop-i.i i.keeps (i.told told) c.patch.new.disk groups long log
    (c.in_err-patch.ensures.any_moment told)

pub loop-i-preserved : goal.loop-i-preserved
loop-i-preserved g c =
    let i = c.loop-i.invariant in
    let e = c.in_ok-patch.ensures in
    record {
      memory = e.memory;
      batch = e.batch;
      keeps = record { layout = e.keeps.layout ∙ i.keeps.layout; head = e.keeps.head ∙ i.keeps.head };
      numbers = e.numbers ∙ i.numbers;
      waits = waits_joined c.args.cache.now c.loop-i.cache c.patch.new.self i.waits e.waits;
      fills = fills_joined c.args.cache.now c.loop-i.cache c.patch.new.self i.fills e.fills;
      still = e.counted.still ∙ i.still;
      told = λ told.
          let q = patch c.patch_block.result 0 [] in
          let p = get_or c.args.group.now c.loop-i.i q in
          let block : c.patch_block.result ≡ p.block = c.patch_block.ensures q in
          more_patched g.D.Disk c.args.cache.now c.loop-i.cache c.args.disk.now c.loop-i.disk c.args.number c.args.group.now c.loop-i.i i.keeps (i.told told)
          p c.patch.new.self c.patch.new.disk c.requires.few (get_or_default c.args.group.now c.loop-i.i q p (omega (arith, c.patches-i-end.ensures.count, c.loop-i-test.true, c.loop-i.auto.i-end))) (omega (arith, c.patches-i-end.ensures.count, c.loop-i-test.true, c.loop-i.auto.i-end))
          (rw (← block) (e.own told)) (rw (← block) (e.others told)) (e.settled told) (e.done told) (e.any_moment told);
    }

pub returns-clause-seen : goal.returns-clause-seen
returns-clause-seen g c = λ told k lt.
    let i = c.loop-i.invariant in
    all_patched g.D.Disk c.args.cache.now c.loop-i.cache c.args.disk.now c.loop-i.disk c.args.number c.args.group.now c.loop-i.i i.keeps (i.told told)
    (omega (arith, c.patches-i-end.ensures.count, c.loop-i-test.false, c.loop-i.auto.i-end)) k lt

-- a patch of a block that has them all
pub loop-i-preserved-then-is_patched_before : goal.loop-i-preserved-then-is_patched_before
loop-i-preserved-then-is_patched_before g c =
    let i = c.loop-i.invariant in
    let lt : c.loop-i.i < length c.args.group.now = omega (arith, c.patches-i-end.ensures.count, c.loop-i-test.true, c.loop-i.auto.i-end) in
    record {
      memory = i.memory;
      batch = i.batch;
      keeps = i.keeps;
      numbers = i.numbers;
      waits = i.waits;
      fills = i.fills;
      still = i.still;
      told = λ told.
          let q = patch 0 0 [] in
          let p = get_or c.args.group.now c.loop-i.i q in
          patched_again g.D.Disk c.args.cache.now c.loop-i.cache c.args.disk.now c.loop-i.disk c.args.number c.args.group.now c.loop-i.i i.keeps (i.told told)
          p (get_or_default c.args.group.now c.loop-i.i q p lt) lt (c.is_patched_before.ensures c.if-is_patched_before.true q);
    }
