use Rattle.std.proofs.Common.{◌≡◌, ℕ, ◌+◌, ◌==◌, Bool, true, false, if◌then◌else◌, List, [], ◌∷◌, ◌++◌, take, get_or, arith, ap, sym, ◌∙◌, refl}
use Rattle.std.proofs.lemmas.List.{take_more}
use Rattle.rb_base.specs.Blocks.{written_to}
use Rattle.rb_base.specs.Groups.{Patch, patch}
use Rattle.law_redo.specs.Rolled.{has_block}
use Rattle.rb_cache.proofs.frame.write_patches.Goals as goal

written_more : (which : ℕ) (ps : List Patch) (p : Patch) (x : List ℕ) → written_to which (ps ++ p ∷ []) x ≡ written_to which (p ∷ []) (written_to which ps x)
written_more which [] p x = refl
written_more which (q ∷ ps) p x = written_more which ps p _

has_more : (which : ℕ) (ps : List Patch) (p : Patch) → has_block which (ps ++ p ∷ []) ≡ (if has_block which (p ∷ []) then true else has_block which ps)
has_more which [] p = by (p.block == which)
  where
    by : (b : Bool) → (if b then true else false) ≡ (if (if b then true else false) then true else false)
    by true = refl
    by false = refl
has_more which (q ∷ ps) p = by (q.block == which) (has_block which (p ∷ [])) (has_more which ps p)
  where
    by : (a b : Bool) → has_block which (ps ++ p ∷ []) ≡ (if b then true else has_block which ps) → (if a then true else has_block which (ps ++ p ∷ [])) ≡ (if b then true else (if a then true else has_block which ps))
    by true true rest = refl
    by true false rest = refl
    by false b rest = rest

-- whether there is one, once one more was looked at
joined : (c : goal.Joined-write_patch) (d : Patch)
    → has_block c.args.no (take (c.loop-place.place + 1) c.args.group.now) ≡ (if has_block c.args.no (get_or c.args.group.now c.loop-place.place d ∷ []) then true else has_block c.args.no (take c.loop-place.place c.args.group.now))
    → c.if-write_patch.any ≡ has_block c.args.no (take (c.loop-place.place + 1) c.args.group.now)
joined c d more = elim c.if-write_patch.branch [
  | goal.then-write_patch w ↦
      let own : has_block c.args.no (get_or c.args.group.now c.loop-place.place d ∷ []) ≡ true = sym (c.write_patch.ensures.own d) ∙ w.if-write_patch.true in
      w.any-is ∙ w.if-write_patch.true ∙ sym (more ∙ ap (λ (b : Bool). if b then true else has_block c.args.no (take c.loop-place.place c.args.group.now)) own)
  | goal.else-write_patch w ↦
      let own : has_block c.args.no (get_or c.args.group.now c.loop-place.place d ∷ []) ≡ false = sym (c.write_patch.ensures.own d) ∙ w.if-write_patch.false in
      w.any-is ∙ c.loop-place.invariant.any ∙ sym (more ∙ ap (λ (b : Bool). if b then true else has_block c.args.no (take c.loop-place.place c.args.group.now)) own)
]

pub loop-place-preserved : goal.loop-place-preserved
loop-place-preserved c =
    let i = c.loop-place.invariant in
    let d = patch 0 0 [] in
    let p = get_or c.args.group.now c.loop-place.place d in
    let more : take (c.loop-place.place + 1) c.args.group.now ≡ take c.loop-place.place c.args.group.now ++ p ∷ [] = take_more c.args.group.now c.loop-place.place d (omega (arith, c.patches-place-end.ensures.count, c.loop-place-test.true, c.loop-place.auto.place-end)) in
    record {
      written = c.write_patch.ensures.written d ∙ ap (written_to c.args.no (p ∷ [])) i.written
          ∙ sym (ap (λ (ps : List Patch). written_to c.args.no ps c.args.bytes.now) more ∙ written_more c.args.no (take c.loop-place.place c.args.group.now) p c.args.bytes.now);
      any = joined c d (ap (has_block c.args.no) more ∙ has_more c.args.no (take c.loop-place.place c.args.group.now) p);
      unit = c.write_patch.ensures.unit;
    }
