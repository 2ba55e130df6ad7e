use Rattle.std.proofs.Common.{◌≡◌, ◌+◌, ◌≤◌, ◌∙◌, [], ◌∷◌, List, ℕ, length, slice_index, ap, sym, subst, arith, refl}
use Rattle.std.proofs.lemmas.Result.{on_ok_weaker}
use Rattle.rb_base.proofs.Fronts.{byte_of_part}
use Rattle.rb_base.proofs.Overwriting.{part_written}
use Rattle.rb_base.specs.Fields.{part, overwritten}
use Rattle.rb_base.specs.Moments.{weaker}
use Rattle.rb_disk.specs.DiskModel.{Torn}
use Rattle.rb_disk.specs.Ranges.{TornFrom}
use Rattle.rb_layout.specs.Regions.{log_offset}
use Rattle.rb_log.specs.GroupSlots.{SameButGate}
use Rattle.rb_log.specs.Slots.{slot_of}
use Rattle.rb_log.proofs.TornPlaces.{torn_gate}
use Rattle.rb_log.proofs.Writes.{gate_at}
use Rattle.rb_log.proofs.flush.open_gate.Given.{Over}
use Rattle.rb_log.proofs.flush.open_gate.Goals.{After-log_at}
use Rattle.rb_log.proofs.flush.open_gate.Goals as goal

-- where the gate stands
at : (g : Over) (c : After-log_at g) → c.log_at.result ≡ log_offset (slot_of c.args.layout.now c.args.head c.args.place)
at g c = c.log_at.ensures ∙ ap log_offset c.slot_behind-slot.ensures.slot

pub write_synced-requires : goal.write_synced-requires
write_synced-requires g c = record { within = λ told. omega (arith, c.requires.whole told, c.log_at.ensures, c.slot_behind-slot.ensures.below) }

-- whatever is left of it, all else is as it was
same : (g : Over) (c : After-log_at g) → g.D.Disk.tells → (k : List ℕ) → Torn c.log_at.result 1 (g.D.Disk.content c.args.disk.now) k → SameButGate c.args.layout.now c.args.head c.args.place (g.D.Disk.content c.args.disk.now) k
same g c told k torn = torn_gate c.args.layout.now c.args.head c.requires.slot c.args.place (g.D.Disk.content c.args.disk.now) k c.requires.place (c.requires.whole told) (subst (λ (i : ℕ). Torn i 1 (g.D.Disk.content c.args.disk.now) k) (at g c) torn)

pub returns-clause-same : goal.returns-clause-same
returns-clause-same g c told = same g (goal.at.returns-clause-same g c).After-log_at told (g.D.Disk.content c.write_synced.new.disk) (c.write_synced.ensures.torn told)

pub returns-clause-opened : goal.returns-clause-opened
returns-clause-opened g c told =
    let here = (goal.at.returns-clause-opened g c).After-log_at in
    let file = g.D.Disk.content c.args.disk.now in
    let new = g.D.Disk.content c.write_synced.new.disk in
    let slot = slot_of c.args.layout.now c.args.head c.args.place in
    let i = log_offset slot in
    let below = c.slot_behind-slot.ensures.below in
    let fits : i + 1 ≤ length file = omega (arith, c.requires.whole told, below, c.slot_behind-slot.ensures.slot) in
    on_ok_weaker c.write_synced.result (λ is.
    gate_at new slot ∙ sym (byte_of_part new i 1 (omega arith)) ∙ ap (λ (f : List ℕ). slice_index (part f i 1) 0) (is ∙ ap (λ (k : ℕ). overwritten file k (1 ∷ [])) (at g here))
    ∙ ap (λ (f : List ℕ). slice_index f 0) (part_written file i (1 ∷ []) 1 fits refl))
    (c.write_synced.ensures.written told)

pub returns-clause-any_moment : goal.returns-clause-any_moment
returns-clause-any_moment g c told =
    let here = (goal.at.returns-clause-any_moment g c).After-log_at in
    let disk = c.args.disk.now in
    weaker g.D.Disk.moment g.D.Disk.image_since disk c.write_synced.new.disk (TornFrom c.log_at.result 1 (g.D.Disk.image disk)) _
    (λ k from. same g here told k (subst (λ (f : List ℕ). Torn c.log_at.result 1 f k) (c.requires.synced told from.0 from.1) from.2)) (c.write_synced.ensures.any_moment told)
