use Rattle.std.proofs.Common.{◌≡◌, ℕ, ◌+◌, ◌-◌, take, drop, arith, ap, ◌∙◌}
use Rattle.rb_itl.specs.declared.slots.TheConstants.{ENTRY_BYTES}
use Rattle.rb_itl.specs.Entries.{entry_of}
use Rattle.rb_itl.proofs.read.entry.Goals as goal

pub returns : goal.returns
returns c =
    let place = c.entry_place-place.result in
    let long : place + ENTRY_BYTES - place ≡ ENTRY_BYTES = omega arith in
    c.entry_from.ensures ∙ ap (λ (count : ℕ). entry_of (take count (drop place c.args.block.now))) long ∙ ap (λ (from : ℕ). entry_of (take ENTRY_BYTES (drop from c.args.block.now))) c.entry_place-place.ensures
