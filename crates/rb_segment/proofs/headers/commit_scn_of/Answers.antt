use Rattle.std.proofs.Common.{ℕ, List, [], true, false, refl, sym, ap, ◌∙◌}
use Rattle.rb_base.specs.Blocks.{block_of, header_block}
use Rattle.rb_base.specs.Logs.{more_logs, no_logs}
use Rattle.rb_base.specs.declared.shape.Shape.{Shape}
use Rattle.rb_txntable.specs.Slots.{header_newest}
use Rattle.rb_txntable.proofs.Greatest.{greatest-zero, greatest_next}
use Rattle.rb_segment.proofs.headers.commit_scn_of.Goals as goal

pub loop-g-init : goal.loop-g-init
loop-g-init g c =
    let s = g.S.Store in
    record {
      logs = no_logs s c.args.store.now c.requires;
      so_far = λ told. sym (greatest-zero (λ (k : ℕ). header_newest (block_of (s.blocks c.args.store.now) (header_block (s.shape_of c.args.store.now) k))));
    }

pub loop-g-preserved : goal.loop-g-preserved
loop-g-preserved g c =
    let s = g.S.Store in
    let old = c.args.store.now in
    let inv = c.loop-g.invariant in
    record {
      logs = more_logs s old c.loop-g.store c.header_newest.new.store [] [] true inv.logs c.in_ok-header_newest.ensures.logs;
      so_far = λ told.
          greatest_next (λ (k : ℕ). header_newest (block_of (s.blocks old) (header_block (s.shape_of old) k))) c.loop-g.g c.loop-g.commit c.in_ok-header_newest.field-0 c.max-commit.result
          (inv.so_far told)
          (c.in_ok-header_newest.ensures.told told
          ∙ ap (λ (b : List (List ℕ)). header_newest (block_of b (header_block c.shape-shape.result c.loop-g.g))) (inv.logs.blocks told refl)
          ∙ ap (λ (shape : Shape). header_newest (block_of (s.blocks old) (header_block shape c.loop-g.g))) c.shape-shape.ensures.shape)
          c.max-commit.ensures;
    }

pub returns-in_err-header_newest-clause-logs : goal.returns-in_err-header_newest-clause-logs
returns-in_err-header_newest-clause-logs g c =
    rw c.from_residual.ensures.0 (more_logs g.S.Store c.args.store.now c.loop-g.store c.header_newest.new.store [] [] false c.loop-g.invariant.logs c.in_err-header_newest.ensures.logs)
