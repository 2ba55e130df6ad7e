use Rattle.std.proofs.Common.{◌≡◌, ℕ, ◌==◌, nat_lt, Bool, true, false, if◌then◌else◌, List, [], ◌∷◌, ap, sym, ◌∙◌, refl}
use Rattle.rb_base.specs.Blocks.{written_to}
use Rattle.rb_base.specs.Fields.{number_at}
use Rattle.rb_base.specs.Groups.{Patch}
use Rattle.law_redo.specs.Rolled.{after_block, has_block, step}
use Rattle.rb_cache.proofs.NumberLemmas.{behind_of, front_of}
use Rattle.rb_cache.proofs.frame.Frame.patch.Goals as goal

-- a group that isn't of a block leaves it
untouched : (which : ℕ) (ps : List Patch) (x : List ℕ) → has_block which ps ≡ false → written_to which ps x ≡ x
untouched which [] x none = refl
untouched which (p ∷ ps) x none =
    let test : (p.block == which) ≡ false = front_of (p.block == which) (has_block which ps) none in
    rw test (untouched which ps x (behind_of (p.block == which) (has_block which ps) none))

step_none : (n which : ℕ) (ps : List Patch) (x : List ℕ) → has_block which ps ≡ false → step n ps which x ≡ x
step_none n which ps x none = by (nat_lt (number_at x 0 8) n)
  where
    by : (b : Bool) → (if b then after_block n ps which x else x) ≡ x
    by true = rw none refl
    by false = refl

same : (c : goal.Else-write_patches) → c.write_patches.new.bytes ≡ c.args.self.now.bytes
same c = c.write_patches.ensures.written
    ∙ untouched c.args.self.now.block c.args.group.now c.args.self.now.bytes (sym c.write_patches.ensures.any ∙ c.if-write_patches.false)

pub returns-else-write_patches-clause-bytes : goal.returns-else-write_patches-clause-bytes
returns-else-write_patches-clause-bytes c = same c
    ∙ sym (step_none c.args.number c.args.self.now.block c.args.group.now c.args.self.now.bytes (sym c.write_patches.ensures.any ∙ c.if-write_patches.false))

pub returns-else-write_patches-clause-clean : goal.returns-else-write_patches-clause-clean
returns-else-write_patches-clause-clean c = λ clean. ap (λ (bytes : List ℕ). record c.args.self.now { bytes = bytes }) (same c)
