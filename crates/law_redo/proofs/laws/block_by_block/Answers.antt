use Rattle.law_redo.proofs.OneAfter.{block_after, blocks_after}
use Rattle.law_redo.proofs.laws.block_by_block.Goals as goal

pub returns : goal.returns
returns c = record {
  one = λ shape n which g blocks are there stay. block_after shape n which g blocks are there stay;
  several = λ shape n which gs blocks are there valid. blocks_after shape n which gs blocks are there valid;
}
