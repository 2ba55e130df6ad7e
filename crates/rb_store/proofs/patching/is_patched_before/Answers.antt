use Rattle.std.proofs.Common.{◌≡◌, ◌<◌, ◌-◌, ℕ, List, true, length, get_or, take, sym, ◌∙◌, ap, arith}
use Rattle.std.proofs.lemmas.Bool.{eqb-true}
use Rattle.std.proofs.lemmas.List.{get_or-take, length-take}
use Rattle.law_redo.specs.Rolled.{has_block}
use Rattle.rb_base.specs.Groups.{Patch}
use Rattle.rb_store.proofs.PatchLemmas.{has_at}
use Rattle.rb_store.proofs.patching.is_patched_before.Goals as goal

-- a patch in front of another, and of the same block, is among those in front of it
has_before : (g : List Patch) (i j : ℕ) (d : Patch) → i < length g → j < i → (get_or g j d).block ≡ (get_or g i d).block → has_block (get_or g i d).block (take i g) ≡ true
has_before g i j d within here same =
    has_at (get_or g i d).block (take i g) j d (omega (arith, length-take i g, within, here)) (ap (λ (p : Patch). p.block) (get_or-take i g j d here) ∙ same)

pub returns-then-patch_block-block : goal.returns-then-patch_block-block
returns-then-patch_block-block c = λ same d.
    let i = c.args.i in
    has_before c.args.group.now i (i - 1) d c.requires (omega (arith, c.if-i-gt0.true))
    (sym (c.patch_block.ensures d) ∙ eqb-true c.patch_block.result c.patch_block-block.result same ∙ c.patch_block-block.ensures d)

pub returns-else-patch_block-block : goal.returns-else-patch_block-block
returns-else-patch_block-block c = λ same d.
    has_before c.args.group.now c.args.i 0 d c.requires (omega (arith, c.if-i-gt0.true))
    (sym (c.patch_block-else-patch_block-block.ensures d) ∙ eqb-true c.patch_block-else-patch_block-block.result c.patch_block-block.result same ∙ c.patch_block-block.ensures d)
