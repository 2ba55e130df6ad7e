use Rattle.std.proofs.Common.{◌≡◌, ℕ, ◌+◌, ◌-◌, take, drop, arith, ap, ◌∙◌}
use Rattle.rb_undoblock.specs.declared.record.TheConstants.{UNDO_BYTES}
use Rattle.rb_undoblock.specs.Undo.{undo_at, undo_of}
use Rattle.rb_undoblock.proofs.read.undo_at.Goals as goal

pub returns : goal.returns
unfolding undo_at
returns c =
    let block = c.args.block.now in
    let place = c.undo_place-place.result in
    let long : place + UNDO_BYTES - place ≡ UNDO_BYTES = omega arith in
    rw (c.u64_at.ensures, c.u64_at-2.ensures, c.u32_at.ensures, c.u32_at-2.ensures, c.u16_at.ensures, c.uba_at.ensures, c.array_at.ensures, c.array_at-2.ensures)
    (ap (λ (count : ℕ). undo_of (take count (drop place block))) long ∙ ap (λ (at : ℕ). undo_of (take UNDO_BYTES (drop at block))) c.undo_place-place.ensures)
