use Rattle.std.proofs.Common.{◌≡◌, ◌<◌, length, take, get_or, List, ℕ, [], ◌∷◌, ◌++◌, arith, refl, ap, sym, ◌∙◌}
use Rattle.std.proofs.lemmas.List.{take_more}
use Rattle.rb_base.specs.Blocks.{after_patch, after_group}
use Rattle.rb_base.specs.Groups.{Patch, patch, IsPatch}
use Rattle.rb_base.proofs.Blocks.{group_append}
use Rattle.rb_base.proofs.Each.{all_at}
use Rattle.rb_plainstore.proofs.patching.patch.Goals as goal

-- a patch of these parts is the one at that place
this : (group : List Patch) (i block at : ℕ) (bytes : List ℕ) → ((d : Patch) → block ≡ (get_or group i d).block) → ((d : Patch) → at ≡ (get_or group i d).at) → ((d : Patch) → bytes ≡ (get_or group i d).bytes) → (d : Patch)
    → patch block at bytes ≡ get_or group i d
this group i block at bytes e f g d = rw (e d, f d, g d) refl

there : (c : goal.After-patch_bytes) → c.loop-i.i < length c.args.group.now
there c = omega (arith, c.patches-count.ensures.count, c.loop-i-test.true)

pub patch_one-requires-clause-block : goal.patch_one-requires-clause-block
patch_one-requires-clause-block c =
    let p = patch c.patch_block.result c.patch_at.result c.patch_bytes.result.now in
    let within = all_at (λ (q : Patch). q.block < length c.args.blocks.now) c.args.group.now c.loop-i.i p c.requires.within (there c) in
    omega (arith, within, c.patch_block.ensures p, c.loop-i.auto.blocks)

pub patch_one-requires-clause-within : goal.patch_one-requires-clause-within
patch_one-requires-clause-within c =
    let p = patch c.patch_block.result c.patch_at.result c.patch_bytes.result.now in
    let valid = all_at IsPatch c.args.group.now c.loop-i.i p c.patches-count.ensures.valid.each (there c) in
    omega (arith, valid.within_block, c.patch_at.ensures p, ap length (c.patch_bytes.ensures p))

pub loop-i-preserved : goal.loop-i-preserved
loop-i-preserved c =
    let group = c.args.group.now in
    let before = c.args.blocks.now in
    let lsn = c.args.lsn in
    let p = patch c.patch_block.result c.patch_at.result c.patch_bytes.result.now in
    let more = take_more group c.loop-i.i p (omega (arith, c.patches-count.ensures.count, c.loop-i-test.true)) in
    c.patch_one.ensures
    ∙ ap (after_patch lsn p) c.loop-i.invariant
    ∙ sym (group_append lsn (take c.loop-i.i group) (p ∷ []) before)
    ∙ ap (λ (q : Patch). after_group lsn (take c.loop-i.i group ++ q ∷ []) before) (this group c.loop-i.i c.patch_block.result c.patch_at.result c.patch_bytes.result.now c.patch_block.ensures c.patch_at.ensures c.patch_bytes.ensures p)
    ∙ ap (λ (l : List Patch). after_group lsn l before) (sym more)
