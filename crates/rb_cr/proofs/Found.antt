-- The record of an address, as the segments say it.
use Rattle.std.proofs.Common.{◌≡◌, ◌≤◌, ℕ, List, Some, None, get_or, sym, ◌∙◌, ap, subst}
use Rattle.rb_base.specs.Blocks.{AreBlocks}
use Rattle.rb_base.specs.declared.ids.Uba.{Uba}
use Rattle.rb_base.specs.declared.shape.Shape.{Shape}
use Rattle.rb_cr.specs.Records.{walk_found}
use Rattle.rb_segment.specs.Header.{record_in}
use Rattle.law_blocks.specs.Says.{place_of, walk_record, walk_undo}
use Rattle.law_blocks.specs.Standing.{env_of, segments_of}
use Rattle.rb_undoblock.specs.Undo.{no_undo}
use Rattle.rb_undoblock.specs.declared.record.UndoRecord.{UndoRecord}
use Rattle.rb_cr.proofs.Beyond.{record_none}

module _ (shape shape2 : Shape) (blocks : List (List ℕ)) (u : Uba) (same : shape ≡ shape2) where
  -- none is there of a segment that a file hasn't
  pub gone_is : AreBlocks shape2 blocks → shape.segments ≤ (place_of shape u).seg → None ≡ (env_of shape2 blocks).store (place_of shape2 u)
  gone_is whole behind =
      let far : shape2.segments ≤ (place_of shape2 u).seg = subst (λ (z : Shape). z.segments ≤ (place_of z u).seg) same behind in
      sym (ap (walk_record shape2 (place_of shape2 u).seg) (record_none shape2 blocks (place_of shape2 u).seg whole far (place_of shape2 u).index))

  -- the record that stands at the place which was found
  pub found_is : (seg at : ℕ) (undo : UndoRecord) → (place_of shape u).seg ≡ seg → record_in (segments_of shape blocks seg) (place_of shape u).index ≡ Some (get_or (segments_of shape blocks seg).undo at no_undo)
      → undo ≡ get_or (segments_of shape blocks seg).undo at no_undo → walk_found shape2 (Some (record { seg = seg; undo = undo })) ≡ (env_of shape2 blocks).store (place_of shape2 u)
  found_is seg at undo seg_is there is =
      subst (λ (z : Shape). walk_found z (Some (record { seg = seg; undo = undo })) ≡ (env_of z blocks).store (place_of z u)) same
      (ap (λ (r : UndoRecord). Some (walk_undo shape seg r)) is
      ∙ (sym (ap (walk_record shape seg) there) ∙ ap (λ (g : ℕ). walk_record shape g (record_in (segments_of shape blocks g) (place_of shape u).index)) (sym seg_is)))

  -- or none, where it is gone
  pub none_is : (seg : ℕ) → (place_of shape u).seg ≡ seg → record_in (segments_of shape blocks seg) (place_of shape u).index ≡ None → None ≡ (env_of shape2 blocks).store (place_of shape2 u)
  none_is seg seg_is gone =
      subst (λ (z : Shape). None ≡ (env_of z blocks).store (place_of z u)) same
      (sym (ap (walk_record shape seg) gone) ∙ ap (λ (g : ℕ). walk_record shape g (record_in (segments_of shape blocks g) (place_of shape u).index)) (sym seg_is))
