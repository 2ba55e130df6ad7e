use Rattle.std.proofs.Common.{◌≡◌, ◌+◌, ◌<◌, ◌≤◌, ◌∙◌, [], ◌∷◌, List, ℕ, length, slice_index, ap, sym, subst, arith, refl}
use Rattle.std.proofs.lemmas.Result.{on_ok_weaker}
use Rattle.rb_base.proofs.Fronts.{byte_of_part}
use Rattle.rb_base.proofs.Overwriting.{part_written}
use Rattle.rb_base.specs.Fields.{part, overwritten}
use Rattle.rb_base.specs.Moments.{weaker}
use Rattle.rb_disk.specs.DiskModel.{Torn}
use Rattle.rb_disk.specs.Ranges.{TornFrom}
use Rattle.rb_layout.specs.Regions.{log_offset, file_length}
use Rattle.rb_log.specs.GroupLaws.{same_group_log, counted_log}
use Rattle.rb_log.specs.GroupSlots.{KeptLog, LogState}
use Rattle.rb_log.specs.Slots.{slot_of, slot_at}
use Rattle.rb_log.proofs.TornPlaces.{torn_gate}
use Rattle.rb_log.proofs.Writes.{gate_at}
use Rattle.rb_log.proofs.log.Log.shut.Goals as goal

pub returns-clause-closed : goal.returns-clause-closed
returns-clause-closed g c told =
    let file = g.D.Disk.content c.args.disk.now in
    let new = g.D.Disk.content c.write_synced.new.disk in
    let slot = c.slot_behind-slot.result in
    let at = log_offset slot in
    let whole = c.requires.whole told in
    let log = ap (λ (s : LogState). s.layout.log) c.self.view_is in
    let units = ap (λ (s : LogState). file_length s.layout) c.self.view_is in
    let fits : at + 1 ≤ length file = omega (arith, whole, units, c.slot_behind-slot.ensures.below) in
    let place : slot ≡ slot_of c.args.self.now.layout c.args.self.now.head c.args.self.now.used = c.slot_behind-slot.ensures.slot ∙ ap (λ (s : LogState). slot_of s.layout s.head s.used) c.self.view_is in
    on_ok_weaker c.write_synced.result (λ is.
    ap (λ (s : ℕ). slice_index (slot_at new s) 0) (sym place) ∙ gate_at new slot ∙ sym (byte_of_part new at 1 (omega arith)) ∙ ap (λ (f : List ℕ). slice_index (part f at 1) 0) (is ∙ ap (λ (i : ℕ). overwritten file i (0 ∷ [])) c.log_at.ensures)
    ∙ ap (λ (f : List ℕ). slice_index f 0) (part_written file at (0 ∷ []) 1 fits refl))
    (c.write_synced.ensures.written told)

pub returns-clause-any_moment : goal.returns-clause-any_moment
returns-clause-any_moment g c told groups counts log =
    let disk = c.args.disk.now in
    let now = c.args.self.now in
    let image = g.D.Disk.image disk in
    let file = g.D.Disk.content disk in
    let head_slot : now.head.slot < now.layout.log = subst (λ (s : LogState). s.head.slot < s.layout.log) c.self.view_is c.self.invariant.slot in
    let place : c.log_at.result ≡ log_offset (slot_of now.layout now.head now.used) = c.log_at.ensures ∙ ap log_offset (c.slot_behind-slot.ensures.slot ∙ ap (λ (s : LogState). slot_of s.layout s.head s.used) c.self.view_is) in
    let here : (k : List ℕ) → TornFrom c.log_at.result 1 image k → KeptLog image now.layout now.head groups k =
    λ k from.
    let same = c.requires.synced told from.0 from.1 in
    let was = same_group_log now.layout now.head file from.0 groups head_slot same log in
    let torn = torn_gate now.layout now.head head_slot now.used from.0 k (omega (arith, c.requires.full)) (same.long ∙ c.requires.whole told) (subst (λ (i : ℕ). Torn i 1 from.0 k) place from.2) in record {
      outside = (from.0, from.1, torn.outside);
      log = counted_log now.layout now.head from.0 k 0 now.used groups (omega (arith, counts)) c.requires.full (λ j lt. torn.units j (omega (arith, lt, c.requires.full)) (λ is. omega (arith, is, lt))) was;
    } in
    weaker g.D.Disk.moment g.D.Disk.image_since disk c.write_synced.new.disk (TornFrom c.log_at.result 1 image) _ here (c.write_synced.ensures.any_moment told)
