use Rattle.std.proofs.Common.{◌+◌, ◌*◌, ◌≡◌, ℕ, List, ◌++◌, drop, replicate, ap, ◌∙◌}
use Rattle.rb_base.specs.Fields.{with_number}
use Rattle.rb_base.specs.declared.sizes.TheConstants.{UNIT}
use Rattle.rb_layout.specs.Regions.{file_version, fresh_first, identity}
use Rattle.rb_layout.specs.declared.layout.Layout.{Layout}
use Rattle.rb_store.proofs.new_file.first_units.Goals as goal

-- the identity, and the number of each control copy, over zeros
first_is : (zeros : List ℕ) (l : Layout) → zeros ≡ replicate (3 * UNIT) 0 → with_number (with_number (identity file_version l ++ drop 24 zeros) (UNIT + 8) 8 1) (2 * UNIT + 8) 8 1 ≡ fresh_first file_version l
first_is zeros l e = ap (λ (z : List ℕ). with_number (with_number (identity file_version l ++ drop 24 z) (UNIT + 8) 8 1) (2 * UNIT + 8) 8 1) e

pub returns : goal.returns
returns c = c.put_u64-2.ensures ∙ ap (λ (f : List ℕ). with_number f (2 * UNIT + 8) 8 1) (c.put_u64.ensures ∙ ap (λ (f : List ℕ). with_number f (UNIT + 8) 8 1) c.put_identity.ensures.bytes)
    ∙ first_is c.empty_units-units.result c.args.layout.now c.empty_units-units.ensures
