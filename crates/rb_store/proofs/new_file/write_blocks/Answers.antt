use Rattle.std.proofs.Common.{◌≡◌, ◌+◌, ◌++◌, ◌∙◌, ℕ, List, arith, ap, sym, refl, append-nil}
use Rattle.rb_base.specs.Blocks.{fresh_from, shape_blocks}
use Rattle.std.specs.List.{concat}
use Rattle.rb_base.specs.Fields.{overwritten}
use Rattle.rb_base.specs.declared.shape.Shape.{Shape}
use Rattle.rb_layout.specs.Regions.{block_count, block_offset, file_version, fresh_front, shape_of}
use Rattle.rb_layout.specs.declared.layout.Layout.{Layout}
use Rattle.rb_store.proofs.Units.{blocks_end, blocks_written}
use Rattle.rb_store.proofs.new_file.write_blocks.Goals as goal

pub write_at-requires : goal.write_at-requires
write_at-requires g c told =
    let l = c.args.layout.now in
    let end = blocks_end file_version (g.D.Disk.content c.loop-first.disk) l c.loop-first.first (c.loop-first.invariant.written told) in
    omega (arith, end, c.block_at.ensures)

-- a piece that was put where it belongs
piece_written : (l : Layout) (old new piece : List ℕ) (first count at : ℕ) → old ≡ fresh_front file_version l ++ concat (fresh_from (shape_of l) 0 first) → piece ≡ concat (fresh_from (shape_of l) first count)
    → at ≡ block_offset l first → new ≡ overwritten old at piece → new ≡ fresh_front file_version l ++ concat (fresh_from (shape_of l) 0 (first + count))
piece_written l old new piece first count at is bytes place now =
    blocks_written file_version old new piece l first count is bytes (now ∙ ap (λ (i : ℕ). overwritten old i piece) place)

pub loop-first-preserved : goal.loop-first-preserved
loop-first-preserved g c =
    let l = c.args.layout.now in
    let inv = c.loop-first.invariant in
    let first = c.loop-first.first in
    let count = c.min-count.result in
    let end : c.block_count-end.result ≡ block_count l = c.block_count-end.ensures.blocks ∙ ap shape_blocks c.shape-shape.ensures.shape in
    record {
      within = omega (arith, inv.within, c.min-count.ensures, end, c.loop-first-test.true);
      written = λ told. piece_written l (g.D.Disk.content c.loop-first.disk) (g.D.Disk.content c.write_at.new.self) c.put_blocks.new.into first count c.block_at.result
          (inv.written told) (c.put_blocks.ensures ∙ ap (λ (s : Shape). concat (fresh_from s first count)) c.shape-shape.ensures.shape) c.block_at.ensures (c.in_ok-write_at.ensures.written told);
      still = c.in_ok-write_at.ensures.counted.still ∙ inv.still;
    }

pub loop-first-init : goal.loop-first-init
loop-first-init g c = record {
  within = omega arith;
  written = λ told. c.requires told ∙ sym (append-nil (fresh_front file_version c.args.layout.now));
  still = refl;
}

pub returns-clause-written : goal.returns-clause-written
returns-clause-written g c told =
    let l = c.args.layout.now in
    let inv = c.loop-first.invariant in
    let end : c.block_count-end.result ≡ block_count l = c.block_count-end.ensures.blocks ∙ ap shape_blocks c.shape-shape.ensures.shape in
    inv.written told ∙ ap (λ (k : ℕ). fresh_front file_version l ++ concat (fresh_from (shape_of l) 0 k)) (omega (arith, inv.within, c.loop-first-test.false, end))
