use Rattle.std.proofs.Common.{◌≡◌, ◌≤◌, ◌+◌, ◌-◌, ◌*◌, ◌∙◌, ℕ, length, take, arith, ap, sym}
use Rattle.std.specs.List.{concat}
use Rattle.std.proofs.Math.Seq.{take-length}
use Rattle.rb_base.proofs.Overwriting.{length-overwritten}
use Rattle.rb_base.specs.Blocks.{fresh_block, fresh_from}
use Rattle.rb_base.specs.Fields.{overwritten}
use Rattle.rb_base.specs.declared.sizes.TheConstants.{UNIT}
use Rattle.rb_layout.specs.Fresh.{fresh_unit}
use Rattle.rb_twin.proofs.ImagePut.{part_put}
use Rattle.rb_store.proofs.Units.{block_put}
use Rattle.rb_store.proofs.new_file.put_blocks.Goals as goal

pub loop-k-preserved : goal.loop-k-preserved
loop-k-preserved c =
    let k = c.loop-k.k in
    let shape = c.args.shape in
    let old = c.loop-k.into in
    let copied = c.copy_from_slice.new.self in
    let whole = c.loop-k.invariant.long in
    let room : UNIT * (k + 1) ≤ length old = omega (arith, whole, c.loop-k-test.true) in
    let is = c.copy_from_slice.ensures.after ∙ c.fresh_block.ensures in
    let size : UNIT * k + UNIT - UNIT * k ≡ UNIT = omega arith in
    let long : length copied ≡ UNIT * k + UNIT - UNIT * k = ap length is ∙ fresh_unit shape (c.args.first + k) ∙ sym size in
    let now = part_put old (UNIT * k) (UNIT * k + UNIT - UNIT * k) copied long ∙ ap (overwritten old (UNIT * k)) is in
    record {
      long = ap length now ∙ length-overwritten old (UNIT * k) (fresh_block shape (c.args.first + k)) (omega (arith, room, fresh_unit shape (c.args.first + k))) ∙ whole;
      put = block_put shape old _ c.args.first k room now c.loop-k.invariant.put;
    }

pub returns : goal.returns
returns c =
    let long = c.loop-k.invariant.long in
    let all : c.loop-k.k ≡ c.args.count = omega (arith, c.loop-k-test.false, c.loop-k.auto.k-end) in
    sym (ap (λ (n : ℕ). take n c.loop-k.into) (sym long) ∙ take-length c.loop-k.into)
    ∙ ap (λ (k : ℕ). take (UNIT * k) c.loop-k.into) (sym all)
    ∙ c.loop-k.invariant.put
    ∙ ap (λ (k : ℕ). concat (fresh_from c.args.shape c.args.first k)) all
