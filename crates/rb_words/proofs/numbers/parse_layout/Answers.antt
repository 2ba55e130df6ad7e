use Rattle.std.proofs.Common.{arith}
use Rattle.rb_words.proofs.Spelling.{none_unless, layout_in_range}
use Rattle.rb_words.proofs.numbers.parse_layout.Goals as goal

pub returns-clause-none : goal.returns-clause-none
returns-clause-none c = none_unless c.new.result _ (λ none. λ l asked. none (c.new.ensures.in_range.1
    (layout_in_range c.args.parameters.now _ _ _ _ c.in_ok-tables.tables c.in_ok-blocks.blocks c.in_ok-segments.segments c.in_ok-log.log l
    c.in-len4.len_at_least c.in-len4.len_below
    (record {
      tables_is = c.in_ok-tables.ensures.found;
      blocks_is = c.in_ok-blocks.ensures.found;
      segments_is = c.in_ok-segments.ensures.found;
      log_is = c.in_ok-log.ensures.found;
      tables_fit = omega arith;
      blocks_fit = omega arith;
      segments_fit = omega arith;
      log_fit = omega arith;
    }) asked)))
