use Rattle.rb_base.specs.declared.sizes.TheConstants.{UNIT}
use Rattle.rb_layout.specs.Regions.{file_version, fresh_first}
use Rattle.std.proofs.Common.{◌*◌, ◌≡◌, ◌≤◌, ◌+◌, ◌-◌, ◌++◌, ◌∙◌, ℕ, ap, min, take, replicate, arith}
use Rattle.std.proofs.lemmas.List.{take-replicate}
use Rattle.rb_store.proofs.Units.{first_written, length_so_far, zeros_written}
use Rattle.rb_store.proofs.new_file.write_front.Goals as goal
use Rattle.rb_store.specs.declared.pieces.TheConstants.{PIECE_BYTES}

few_taken : (left most count : ℕ) → count ≡ min left most → count ≤ most
few_taken left most count is = omega (arith, is)

at_end : (at long : ℕ) → (3 * UNIT) ≤ at → long ≡ (3 * UNIT) + (at - (3 * UNIT)) → at ≤ long
at_end at long begun is = omega (arith, begun, is)

pub loop-at-init : goal.loop-at-init
loop-at-init g c = record {
  begun = omega arith;
  within = omega arith;
  written = λ told. first_written (g.D.Disk.content c.args.disk.now) (g.D.Disk.content c.write_at.new.self) c.first_units.result (c.requires told) (c.in_ok-write_at.ensures.written told) ∙ c.first_units.ensures;
  still = c.in_ok-write_at.ensures.counted.still;
}

pub loop-at-preserved : goal.loop-at-preserved
loop-at-preserved g c =
    let at = c.loop-at.at in
    let count = c.min-count.result in
    let inv = c.loop-at.invariant in record {
      begun = omega (arith, inv.begun);
      within = omega (arith, c.min-count.ensures, c.block_at-end.ensures, inv.within);
      written = λ told. zeros_written file_version (g.D.Disk.content c.loop-at.disk) (g.D.Disk.content c.write_at-in-loop-at.new.self) (take count (replicate PIECE_BYTES 0)) c.args.layout.now at (at - (3 * UNIT)) count (at + count - (3 * UNIT))
          (inv.written told) (omega (arith, inv.begun)) (take-replicate count PIECE_BYTES 0 (omega (arith, c.min-count.ensures))) (c.in_ok-write_at-2.ensures.written told) (omega (arith, inv.begun));
      still = c.in_ok-write_at-2.ensures.counted.still ∙ inv.still;
    }

pub slice_bounds-empty-end : goal.slice_bounds-empty-end
slice_bounds-empty-end g c = few_taken (c.block_at-end.result - c.loop-at.at) PIECE_BYTES c.min-count.result c.min-count.ensures

pub write_at-requires-in-loop-at : goal.write_at-requires-in-loop-at
write_at-requires-in-loop-at g c told =
    let inv = c.loop-at.invariant in
    at_end c.loop-at.at _ inv.begun (length_so_far file_version (g.D.Disk.content c.loop-at.disk) c.args.layout.now (c.loop-at.at - (3 * UNIT)) (inv.written told))

pub returns-clause-written : goal.returns-clause-written
returns-clause-written g c told =
    let inv = c.loop-at.invariant in
    inv.written told ∙ ap (λ (k : ℕ). fresh_first file_version c.args.layout.now ++ replicate k 0) (omega (arith, inv.within, c.loop-at-test.false, c.block_at-end.ensures))
