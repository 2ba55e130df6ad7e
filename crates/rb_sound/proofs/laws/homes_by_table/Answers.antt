use Rattle.std.proofs.Common.{◌≡◌, ℕ, ◌+◌, ◌-◌, ◌*◌, ◌<◌, ◌≤◌, arith, subst, add-one}
use Rattle.std.proofs.Math.Nat.{mul-le-mul_right, suc-mul}
use Rattle.std.proofs.lemmas.Nat.{mod-mul-add}
use Rattle.rb_base.specs.Blocks.{block_of}
use Rattle.rb_heap.specs.Soundness.{IsHomeSound}
use Rattle.rb_sound.proofs.laws.homes_by_table.Goals as goal

within : (a tables b h : ℕ) → a + 1 ≤ tables → h < b → a * b + h < tables * b
within a tables b h le lt =
    let more : (a + 1) * b ≤ tables * b = mul-le-mul_right b le in
    let apart : (a + 1) * b ≡ a * b + b = rw add-one (suc-mul a b) in
    omega (arith, more, apart, lt)

pub returns : goal.returns
returns c shape commit wrap_of blocks t h all some few_tables few =
    let which = (t - 1) * shape.blocks + h in
    subst (λ (home : ℕ). IsHomeSound shape commit wrap_of home (block_of blocks which)) (mod-mul-add (t - 1) shape.blocks h few) (all which (within (t - 1) shape.tables shape.blocks h (omega arith) few))
