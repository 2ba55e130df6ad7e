use Rattle.std.proofs.Common.{◌≡◌, ◌<◌, ◌≤◌, ◌+◌, ◌-◌, ◌*◌, ◌∙◌, List, ℕ, length, take, drop, slice_index, ap, arith, subst, Result, Ok, Err, OnOk, OnErr}
use Rattle.std.proofs.lemmas.List.{length-take-le, length-drop}
use Rattle.std.proofs.lemmas.Result.{on_ok_weaker}
use Rattle.rb_base.specs.declared.sizes.TheConstants.{UNIT}
use Rattle.rb_base.specs.Fields.{overwritten}
use Rattle.rb_base.specs.Moments.{LeavesOnly, Passes}
use Rattle.rb_base.proofs.Overwriting.{length-overwritten}
use Rattle.rb_disk.specs.DiskModel.{Torn, Follows}
use Rattle.rb_disk.specs.Writes.{none_is_torn}
use Rattle.rb_layout.specs.Regions.{log_offset, file_length}
use Rattle.rb_log.specs.GroupSlots.{StagedFrom}
use Rattle.rb_log.specs.Slots.{slot_of}
use Rattle.rb_log.proofs.WaitingLemmas.{flat_part}
use Rattle.rb_log.proofs.RunWrites.{AreBeside, line_written, round_written, line_images, round_images, start, one_write}
use Rattle.rb_log.proofs.Writes.{byte_inside}
use Rattle.rb_log.proofs.flush.write_run.Given.{Over}
use Rattle.rb_log.proofs.flush.write_run.Goals.{After-as_flattened-bytes}
use Rattle.rb_log.proofs.flush.write_run.Goals as goal

-- where the run is written
at : (g : Over) (c : After-as_flattened-bytes g) → c.log_at-at.result + 1 ≡ log_offset (slot_of c.args.layout.now c.args.head c.args.place) + 1
at g c = ap (λ (n : ℕ). n + 1) (c.log_at-at.ensures ∙ ap log_offset c.slot_behind-slot.ensures.slot)

-- and what: the units side by side
size : (g : Over) (c : After-as_flattened-bytes g) → length c.as_flattened-bytes.result.now ≡ UNIT * length c.args.units.now
size g c = omega (arith, c.as_flattened-bytes.ensures.len)

beside : (g : Over) (c : After-as_flattened-bytes g) → AreBeside c.args.units.now c.as_flattened-bytes.result.now
beside g c = record { long = size g c; each = rw c.as_flattened-bytes.ensures.value (λ k lt. flat_part c.args.units.now k c.told-units lt) }

line : (g : Over) (c : After-as_flattened-bytes g) → c.slot_behind-slot.result + length c.args.units.now < c.args.layout.now.log → slot_of c.args.layout.now c.args.head c.args.place + length c.args.units.now < c.args.layout.now.log
line g c lt = omega (arith, lt, c.slot_behind-slot.ensures.slot)

full : (g : Over) (c : After-as_flattened-bytes g) → c.args.layout.now.log ≤ c.slot_behind-slot.result + length c.args.units.now → slot_of c.args.layout.now c.args.head c.args.place + length c.args.units.now ≡ c.args.layout.now.log
full g c ge = omega (arith, ge, c.requires.line, c.slot_behind-slot.ensures.slot)

-- all but the last byte, and that one
abbrev own : (g : Over) → After-as_flattened-bytes g → List ℕ
own g c = take (length c.as_flattened-bytes.result.now - 1) c.as_flattened-bytes.result.now

abbrev last : (g : Over) → After-as_flattened-bytes g → List ℕ
last g c = let bytes = c.as_flattened-bytes.result.now in take (length bytes - (length bytes - 1)) (drop (length bytes - 1) bytes)

most : (g : Over) (c : After-as_flattened-bytes g) → length (own g c) ≡ UNIT * length c.args.units.now - 1
most g c = omega (arith, length-take-le (length c.as_flattened-bytes.result.now - 1) c.as_flattened-bytes.result.now (omega arith), size g c)

one_byte : (g : Over) (c : After-as_flattened-bytes g) → length (last g c) ≡ 1
one_byte g c =
    let bytes = c.as_flattened-bytes.result.now in
    let long = length-drop (length bytes - 1) bytes in
    omega (arith, length-take-le (length bytes - (length bytes - 1)) (drop (length bytes - 1) bytes) (omega (arith, long)), size g c, c.requires.some)

last_is : (g : Over) (c : After-as_flattened-bytes g) → slice_index (last g c) 0 ≡ slice_index c.as_flattened-bytes.result.now (UNIT * length c.args.units.now - 1)
last_is g c =
    let bytes = c.as_flattened-bytes.result.now in
    byte_inside bytes (length bytes - 1) (length bytes - (length bytes - 1)) 0 (omega (arith, size g c, c.requires.some)) ∙ ap (slice_index bytes) (omega (arith, size g c))

pub returns-then-slot-units-clause-written : goal.returns-then-slot-units-clause-written
returns-then-slot-units-clause-written g c told =
    let r = c.requires in
    let here = (goal.at.returns-then-slot-units-clause-written g c).After-as_flattened-bytes in
    let file = g.D.Disk.content c.args.disk.now in
    let bytes = c.as_flattened-bytes.result.now in
    on_ok_weaker c.write_at.result
    (λ is. line_written c.args.layout.now c.args.head r.slot c.args.place c.args.units.now bytes (beside g here) r.room r.line r.some file (g.D.Disk.content c.write_at.new.self) (line g here (omega (arith, c.if-slot-units.true))) (r.whole told) (is ∙ ap (λ (i : ℕ). overwritten file i bytes) (at g here)))
    (c.write_at.ensures.written told)

pub returns-then-slot-units-clause-images : goal.returns-then-slot-units-clause-images
returns-then-slot-units-clause-images g c told =
    let r = c.requires in
    let here = (goal.at.returns-then-slot-units-clause-images g c).After-as_flattened-bytes in
    line_images c.args.layout.now c.args.head r.slot c.args.place (length c.args.units.now) r.room r.some g.D.Disk c.args.disk.now c.write_at.new.self _ _ (at g here) (size g here) (line g here (omega (arith, c.if-slot-units.true))) (r.sized told) (c.write_at.ensures.images told)

-- before the first write
begins : (g : Over) (c : After-as_flattened-bytes g) → g.D.Disk.tells → LeavesOnly g.D.Disk.moment g.D.Disk.image_since c.args.disk.now c.args.disk.now (StagedFrom c.args.layout.now c.args.head c.args.place (length c.args.units.now) (g.D.Disk.image c.args.disk.now))
begins g c told = start c.args.layout.now c.args.head c.requires.slot c.args.place (length c.args.units.now) c.requires.room c.requires.some g.D.Disk c.args.disk.now (λ f left. g.met.D.Disk.only_now c.args.disk.now f told left)

pub returns-then-slot-units-clause-any_moment : goal.returns-then-slot-units-clause-any_moment
returns-then-slot-units-clause-any_moment g c told =
    let r = c.requires in
    let here = (goal.at.returns-then-slot-units-clause-any_moment g c).After-as_flattened-bytes in
    let disk = c.args.disk.now in
    one_write c.args.layout.now c.args.head r.slot c.args.place (length c.args.units.now) r.room r.some g.D.Disk disk disk c.write_at.new.self (begins g here told) (c.write_at.ensures.time told)
    (line_images c.args.layout.now c.args.head r.slot c.args.place (length c.args.units.now) r.room r.some g.D.Disk disk c.write_at.new.self _ _ (at g here) (size g here) (line g here (omega (arith, c.if-slot-units.true))) (r.sized told) (c.write_at.ensures.images told))

-- the images behind the first write of two, which leaves any gate of the first slot
one : (g : Over) (c : After-as_flattened-bytes g) → g.D.Disk.tells → c.args.layout.now.log ≤ c.slot_behind-slot.result + length c.args.units.now → (mid : g.row.D.Denot) → Follows (Torn (c.log_at-at.result + 1) (length (own g c))) (g.D.Disk.image c.args.disk.now) (g.D.Disk.image mid)
    → (e k : List ℕ) → g.D.Disk.image mid e → Torn (log_offset 0) 1 e k → StagedFrom c.args.layout.now c.args.head c.args.place (length c.args.units.now) (g.D.Disk.image c.args.disk.now) k
one g c told ge mid images =
    let r = c.requires in
    round_images c.args.layout.now c.args.head r.slot c.args.place (length c.args.units.now) r.room r.some g.D.Disk c.args.disk.now mid _ _ (at g c) (most g c) (full g c ge) (r.sized told) images

-- what a crash leaves behind it
first_moment : (g : Over) (c : After-as_flattened-bytes g) → g.D.Disk.tells → c.args.layout.now.log ≤ c.slot_behind-slot.result + length c.args.units.now → (mid : g.row.D.Denot) → Follows (Torn (c.log_at-at.result + 1) (length (own g c))) (g.D.Disk.image c.args.disk.now) (g.D.Disk.image mid)
    → Passes (g.D.Disk.moment c.args.disk.now) (g.D.Disk.moment mid) (g.D.Disk.image_since c.args.disk.now) (g.D.Disk.image_since mid) (g.D.Disk.image mid)
    → LeavesOnly g.D.Disk.moment g.D.Disk.image_since c.args.disk.now mid (StagedFrom c.args.layout.now c.args.head c.args.place (length c.args.units.now) (g.D.Disk.image c.args.disk.now))
first_moment g c told ge mid images time =
    one_write c.args.layout.now c.args.head c.requires.slot c.args.place (length c.args.units.now) c.requires.room c.requires.some g.D.Disk c.args.disk.now c.args.disk.now mid (begins g c told) time (λ k left. one g c told ge mid images k k left (none_is_torn (log_offset 0) 1 k))

pub returns-in_err-write_at-clause-images : goal.returns-in_err-write_at-clause-images
returns-in_err-write_at-clause-images g c told k left = one g (goal.at.returns-in_err-write_at-clause-images g c).After-as_flattened-bytes told (omega (arith, c.if-slot-units.false)) c.write_at-2.new.self (c.write_at-2.ensures.images told) k k left (none_is_torn (log_offset 0) 1 k)

pub returns-in_err-write_at-clause-any_moment : goal.returns-in_err-write_at-clause-any_moment
returns-in_err-write_at-clause-any_moment g c told = first_moment g (goal.at.returns-in_err-write_at-clause-any_moment g c).After-as_flattened-bytes told (omega (arith, c.if-slot-units.false)) c.write_at-2.new.self (c.write_at-2.ensures.images told) (c.write_at-2.ensures.time told)

-- both writes
pub returns-clause-written : goal.returns-clause-written
returns-clause-written g c told =
    let r = c.requires in
    let here = (goal.at.returns-clause-written g c).After-as_flattened-bytes in
    let file = g.D.Disk.content c.args.disk.now in
    let mid = g.D.Disk.content c.write_at-2.new.self in
    let bytes = c.as_flattened-bytes.result.now in
    on_ok_weaker c.write_at-3.result
    (λ is. round_written c.args.layout.now c.args.head r.slot c.args.place c.args.units.now bytes (beside g here) r.room r.line r.some file mid (g.D.Disk.content c.write_at-3.new.self) (own g here) (last g here) (full g here (omega (arith, c.if-slot-units.false))) (r.whole told) (ap (λ (k : ℕ). take (k - 1) bytes) (size g here))
    (most g here) (c.in_ok-write_at.ensures.written told ∙ ap (λ (i : ℕ). overwritten file i (own g here)) (at g here)) (one_byte g here) (last_is g here) (is ∙ ap (λ (i : ℕ). overwritten mid i (last g here)) c.log_at.ensures))
    (c.write_at-3.ensures.written told)

-- the second write, of the gate of the first slot
gate_torn : (g : Over) (c : After-as_flattened-bytes g) (i : ℕ) (e k : List ℕ) → i ≡ log_offset 0 → Torn i (length (last g c)) e k → Torn (log_offset 0) 1 e k
gate_torn g c i e k is torn = subst (λ (j : ℕ). Torn j 1 e k) is (subst (λ (n : ℕ). Torn i n e k) (one_byte g c) torn)

pub returns-clause-images : goal.returns-clause-images
returns-clause-images g c told k left =
    let here = (goal.at.returns-clause-images g c).After-as_flattened-bytes in
    let from = c.write_at-3.ensures.images told k left in
    one g here told (omega (arith, c.if-slot-units.false)) c.write_at-2.new.self (c.write_at-2.ensures.images told) from.0 k from.1 (gate_torn g here _ from.0 k c.log_at.ensures from.2)

pub returns-clause-any_moment : goal.returns-clause-any_moment
returns-clause-any_moment g c told =
    let r = c.requires in
    let disk = c.args.disk.now in
    let here = (goal.at.returns-clause-any_moment g c).After-as_flattened-bytes in
    let ge : c.args.layout.now.log ≤ c.slot_behind-slot.result + length c.args.units.now = omega (arith, c.if-slot-units.false) in
    let mid = c.write_at-2.new.self in
    one_write c.args.layout.now c.args.head r.slot c.args.place (length c.args.units.now) r.room r.some g.D.Disk disk mid c.write_at-3.new.self (first_moment g here told ge mid (c.write_at-2.ensures.images told) (c.write_at-2.ensures.time told)) (c.write_at-3.ensures.time told)
    (λ k left. let from = c.write_at-3.ensures.images told k left in one g here told ge mid (c.write_at-2.ensures.images told) from.0 k from.1 (gate_torn g here _ from.0 k c.log_at.ensures from.2))

-- each write lies within the file
within : (at count : ℕ) (f h : List ℕ) (n : ℕ) → at + count ≤ n → length f ≡ n → Torn at count f h → length h ≡ n
within at count f h n le long torn = omega (arith, le, long, torn.no_shorter, torn.no_longer)

pub returns-clause-whole : goal.returns-clause-whole
returns-clause-whole g c told =
    let r = c.requires in
    let here = (goal.at.returns-clause-whole g c).After-as_flattened-bytes in
    let file = g.D.Disk.content c.args.disk.now in
    let mid = g.D.Disk.content c.write_at-2.new.self in
    let new = g.D.Disk.content c.write_at-3.new.self in
    let long = most g here in
    let first : length mid ≡ file_length c.args.layout.now =
    ap length (c.in_ok-write_at.ensures.written told) ∙ length-overwritten file (c.log_at-at.result + 1) (own g here) (omega (arith, r.whole told, long, at g here, r.line, r.some)) ∙ r.whole told in
    ends c.write_at-3.result (λ is. ap length is ∙ length-overwritten mid c.log_at.result (last g here) (omega (arith, first, c.log_at.ensures, one_byte g here)) ∙ first) (λ torn. within c.log_at.result 1 mid new (file_length c.args.layout.now) (omega (arith, c.log_at.ensures)) first (subst (λ (n : ℕ). Torn c.log_at.result n mid new) (one_byte g here) torn)) (c.write_at-3.ensures.written told) (c.write_at-3.ensures.torn told)
  where
    ends : {T E P Q R : Type 0} (r : Result T E) → (P → R) → (Q → R) → OnOk r P → OnErr r Q → R
    ends (Ok x) one two ok err = one ok
    ends (Err e) one two ok err = two err
