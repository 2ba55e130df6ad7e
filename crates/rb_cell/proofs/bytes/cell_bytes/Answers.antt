use Rattle.std.proofs.Common.{◌+◌, ◌-◌, length, arith, ap, ◌∙◌}
use Rattle.rb_cell.specs.declared.cell.TheConstants.{HEAD_BYTES}
use Rattle.rb_cell.proofs.Writing.{cell_written}
use Rattle.rb_cell.proofs.bytes.cell_bytes.Goals as goal

pub returns-clause-bytes : goal.returns-clause-bytes
returns-clause-bytes c =
    let value = c.as_slice-value.ensures.value in
    let long = ap length value in
    cell_written c.args.cell.now c.put_u16.new.bytes c.put_u64.new.bytes c.copy_from_slice.new.self (length c.as_slice-value.result.now) (HEAD_BYTES + length c.as_slice-value.result.now - HEAD_BYTES)
    (omega (arith, long, c.as_slice-value.ensures.fits)) c.put_u16.ensures c.put_u64.ensures (c.copy_from_slice.ensures.after ∙ value) long (omega (arith, long))

pub returns-clause-sound : goal.returns-clause-sound
returns-clause-sound c =
    let value = ap length c.as_slice-value.ensures.value in
    record { key_fits = omega arith; short_value = omega (arith, value, c.as_slice-value.ensures.fits) }
