use Rattle.std.proofs.Common.{◌≡◌, ◌+◌, arith, ap, sym, ◌∙◌, List, ℕ, ◌++◌, ◌∷◌, [], length}
use Rattle.rb_base.specs.Blocks.{fresh_block, fresh_from}
use Rattle.rb_base.proofs.Blocks.{fresh_count}
use Rattle.rb_layout.specs.Fresh.{from_split}
use Rattle.rb_plainstore.proofs.fresh.fresh_blocks.Goals as goal

pub push_reserved-requires : goal.push_reserved-requires
push_reserved-requires c =
    let blocks = c.loop-no.blocks in
    omega (arith, blocks.ok.0, ap length c.loop-no.invariant.made, fresh_count c.args.shape 0 c.loop-no.no, c.loop-no.invariant.room, c.loop-no-test.true)

pub loop-no-preserved : goal.loop-no-preserved
loop-no-preserved c =
    let shape = c.args.shape in
    let no = c.loop-no.no in
    let behind : no ≡ 0 + no = omega arith in
    record {
      made =
          c.push_reserved.ensures.items
          ∙ ap (λ (blocks : List (List ℕ)). blocks ++ c.fresh_block.result ∷ []) c.loop-no.invariant.made
          ∙ ap (λ (block : List ℕ). fresh_from shape 0 no ++ block ∷ []) c.fresh_block.ensures
          ∙ ap (λ (n : ℕ). fresh_from shape 0 no ++ fresh_block shape n ∷ []) behind
          ∙ sym (from_split shape 0 no 1);
      room = omega (arith, c.push_reserved.ensures.capacity, c.loop-no.invariant.room);
    }
