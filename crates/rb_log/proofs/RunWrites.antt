-- The writes of one run: what they leave in a file, and in the images of a disk.
use Rattle.std.proofs.Common.{◌≡◌, inl, inr, ℕ, ◌+◌, ◌-◌, ◌*◌, ◌≤◌, ◌<◌, List, [], length, take, drop, get_or, slice_index, sym, ◌∙◌, ap, subst, arith}
use Rattle.std.proofs.lemmas.Bool.{cases_lt}
use Rattle.std.proofs.lemmas.List.{take-take}
use Rattle.rb_base.specs.declared.sizes.TheConstants.{UNIT}
use Rattle.rb_base.specs.Fields.{part, overwritten}
use Rattle.rb_base.specs.Moments.{Passes, begun, goes_on}
use Rattle.rb_base.proofs.Fronts.{byte_of_part}
use Rattle.rb_base.proofs.Overwriting.{part_written, part_apart, length-overwritten}
use Rattle.rb_disk.specs.declared.disk.Disk.{Ghosts}
use Rattle.rb_disk.specs.Moments.{Leaves}
use Rattle.rb_disk.specs.DiskModel.{Torn, Follows}
use Rattle.rb_disk.specs.Writes.{done_is_torn}
use Rattle.rb_layout.specs.Regions.{file_length, log_offset}
use Rattle.rb_layout.specs.declared.layout.Head.{Head}
use Rattle.rb_layout.specs.declared.layout.Layout.{Layout}
use Rattle.rb_log.specs.GroupLaws.{slot_on, slot_round}
use Rattle.rb_log.specs.GroupSlots.{SameButGroups, StagedFrom}
use Rattle.rb_log.specs.Slots.{slot_at, slot_of, gate_of}
use Rattle.rb_log.specs.WaitingUnits.{body_of, gate_after, UnitsWritten}
use Rattle.rb_log.proofs.TornPlaces.{body_part, torn_run, torn_round, groups_all}
use Rattle.rb_log.proofs.Writes.{part_inside, byte_inside, gate_at}

-- units of one size stand side by side in these bytes
pub record AreBeside (units : List (List ℕ)) (bytes : List ℕ) : Type 0 where
  pub long : length bytes ≡ UNIT * length units
  pub each : (k : ℕ) → k < length units → part bytes (UNIT * k) UNIT ≡ get_or units k []

module _ (l : Layout) (head : Head) (slot : head.slot < l.log) (place : ℕ) (units : List (List ℕ)) (bytes : List ℕ) (beside : AreBeside units bytes) (room : place + length units < l.log) (line : slot_of l head place + length units ≤ l.log) (some : 0 < length units) where
  -- the gate after a unit
  byte_is : (k : ℕ) → k < length units → slice_index bytes (UNIT * k + (UNIT - 1)) ≡ gate_after (get_or units k [])
  byte_is k lt = sym (byte_inside bytes (UNIT * k) UNIT (UNIT - 1) (omega arith)) ∙ ap (λ (b : List ℕ). slice_index b (UNIT - 1)) (beside.each k lt)

  last_byte : (k : ℕ) → k + 1 ≡ length units → slice_index bytes (UNIT * length units - 1) ≡ gate_after (get_or units k [])
  last_byte k last = ap (slice_index bytes) (omega (arith, last)) ∙ byte_is k (omega (arith, last))

  -- units that stand in a file, by their places, and the gate after them
  in_places : (f m : List ℕ) → part m (log_offset (slot_of l head place) + 1) (UNIT * length units - 1) ≡ take (UNIT * length units - 1) bytes → SameButGroups l head place (length units) f m
      → gate_of l head m (place + length units) ≡ slice_index bytes (UNIT * length units - 1) → UnitsWritten l head place units f m
  in_places f m is others after = record { others = others; bodies = body; gates = gate }
    where
      body : (k : ℕ) → k < length units → drop 1 (slot_at m (slot_of l head (place + k))) ≡ body_of (get_or units k [])
      body k lt =
          let a = slot_of l head place in
          let n = UNIT * length units - 1 in
          let at : slot_of l head (place + k) ≡ a + k = slot_on l head place k slot (omega (arith, line, lt)) in
          ap (λ (s : ℕ). drop 1 (slot_at m s)) at ∙ body_part m (a + k) ∙ ap (λ (i : ℕ). part m i (UNIT - 1)) (omega arith) ∙ sym (part_inside m (log_offset a + 1) n (UNIT * k) (UNIT - 1) (omega (arith, lt)))
          ∙ ap (λ (b : List ℕ). part b (UNIT * k) (UNIT - 1)) is ∙ part_inside bytes 0 n (UNIT * k) (UNIT - 1) (omega (arith, lt)) ∙ ap (λ (i : ℕ). part bytes i (UNIT - 1)) (omega arith)
          ∙ sym (take-take (UNIT - 1) UNIT (drop (UNIT * k) bytes) (omega arith)) ∙ ap (take (UNIT - 1)) (beside.each k lt)

      gate : (k : ℕ) → k < length units → gate_of l head m (place + (k + 1)) ≡ gate_after (get_or units k [])
      gate k lt = elim (cases_lt (k + 1) (length units)) [
        | inr last ↦ ap (gate_of l head m) (omega (arith, last, lt)) ∙ after ∙ last_byte k (omega (arith, last, lt))
        | inl more ↦
            let a = slot_of l head place in
            let n = UNIT * length units - 1 in
            let i = UNIT * k + (UNIT - 1) in
            let at : slot_of l head (place + (k + 1)) ≡ a + (k + 1) = slot_on l head place (k + 1) slot (omega (arith, line, more)) in
            ap (λ (s : ℕ). slice_index (slot_at m s) 0) at ∙ gate_at m (a + (k + 1)) ∙ ap (slice_index m) (omega arith) ∙ sym (byte_inside m (log_offset a + 1) n i (omega (arith, more)))
            ∙ ap (λ (b : List ℕ). slice_index b i) is ∙ byte_inside bytes 0 n i (omega (arith, more)) ∙ ap (slice_index bytes) (omega arith) ∙ byte_is k lt
      ]

  -- a run that doesn't reach the end
  pub line_written : (f m : List ℕ) → slot_of l head place + length units < l.log → length f ≡ file_length l → m ≡ overwritten f (log_offset (slot_of l head place) + 1) bytes → UnitsWritten l head place units f m
  line_written f m before whole is =
      let a = slot_of l head place in
      let n = length units in
      let at = log_offset a + 1 in
      let long = beside.long in
      let fits : at + UNIT * n ≤ length f = omega (arith, whole, before) in
      let there : part m at (UNIT * n) ≡ bytes = ap (λ (g : List ℕ). part g at (UNIT * n)) is ∙ part_written f at bytes (UNIT * n) (omega (arith, fits, long)) long in
      let torn : Torn at (UNIT * n) f m = subst (λ (k : ℕ). Torn at k f m) long (subst (λ (g : List ℕ). Torn at (length bytes) f g) (sym is) (done_is_torn at f bytes (omega (arith, fits)))) in
      let end : slot_of l head (place + n) ≡ a + n = slot_on l head place n slot before in
      let gate : gate_of l head m (place + n) ≡ slice_index bytes (UNIT * n - 1) =
      ap (λ (s : ℕ). slice_index (slot_at m s) 0) end ∙ gate_at m (a + n) ∙ ap (slice_index m) (omega (arith, some)) ∙ sym (byte_inside m at (UNIT * n) (UNIT * n - 1) (omega (arith, some))) ∙ ap (λ (b : List ℕ). slice_index b (UNIT * n - 1)) there in
      in_places f m (sym (take-take (UNIT * n - 1) (UNIT * n) (drop at m) (omega arith)) ∙ ap (take (UNIT * n - 1)) there) (torn_run l head slot place n f m room before whole torn) gate

  -- one that does: the gate behind it is that of the first slot
  pub round_written : (f e m own last : List ℕ) → slot_of l head place + length units ≡ l.log → length f ≡ file_length l → own ≡ take (UNIT * length units - 1) bytes → length own ≡ UNIT * length units - 1 → e ≡ overwritten f (log_offset (slot_of l head place) + 1) own
      → length last ≡ 1 → slice_index last 0 ≡ slice_index bytes (UNIT * length units - 1) → m ≡ overwritten e (log_offset 0) last → UnitsWritten l head place units f m
  round_written f e m own last full whole own_is long first one last_is second =
      let a = slot_of l head place in
      let n = length units in
      let at = log_offset a + 1 in
      let fits : at + (UNIT * n - 1) ≤ length f = omega (arith, whole, full, some) in
      let long_e : length e ≡ length f = ap length first ∙ length-overwritten f at own (omega (arith, fits, long)) in
      let there : part e at (UNIT * n - 1) ≡ take (UNIT * n - 1) bytes = ap (λ (g : List ℕ). part g at (UNIT * n - 1)) first ∙ part_written f at own (UNIT * n - 1) (omega (arith, fits, long)) long ∙ own_is in
      let still : part m at (UNIT * n - 1) ≡ part e at (UNIT * n - 1) = ap (λ (g : List ℕ). part g at (UNIT * n - 1)) second ∙ part_apart e (log_offset 0) last at (UNIT * n - 1) 1 (omega (arith, long_e, whole, one)) one (inr (omega arith)) in
      let torn : Torn at (UNIT * n - 1) f e = subst (λ (k : ℕ). Torn at k f e) long (subst (λ (g : List ℕ). Torn at (length own) f g) (sym first) (done_is_torn at f own (omega (arith, fits)))) in
      let gated : Torn (log_offset 0) 1 e m = subst (λ (k : ℕ). Torn (log_offset 0) k e m) one (subst (λ (g : List ℕ). Torn (log_offset 0) (length last) e g) (sym second) (done_is_torn (log_offset 0) e last (omega (arith, long_e, whole)))) in
      let end : slot_of l head (place + n) ≡ 0 = slot_round l head place n slot room full in
      let after : gate_of l head m (place + n) ≡ slice_index bytes (UNIT * n - 1) =
      ap (λ (s : ℕ). slice_index (slot_at m s) 0) end ∙ gate_at m 0 ∙ sym (byte_of_part m (log_offset 0) 1 (omega arith)) ∙ ap (λ (g : List ℕ). slice_index (part g (log_offset 0) 1) 0) second
      ∙ ap (λ (g : List ℕ). slice_index g 0) (part_written e (log_offset 0) last 1 (omega (arith, long_e, whole, one)) one) ∙ last_is in
      in_places f m (still ∙ there) (torn_round l head slot place n f e m some room full whole torn gated) after

module _ (l : Layout) (head : Head) (slot : head.slot < l.log) (place count : ℕ) (room : place + count < l.log) (some : 0 < count) {D : Type 0} (d : Ghosts D) where
  -- what the images of a disk are behind one write, or two
  pub line_images : (old new : D) (at size : ℕ) → at ≡ log_offset (slot_of l head place) + 1 → size ≡ UNIT * count → slot_of l head place + count < l.log → ((c : List ℕ) → d.image old c → length c ≡ file_length l) → Follows (Torn at size) (d.image old) (d.image new)
      → Follows (SameButGroups l head place count) (d.image old) (d.image new)
  line_images old new at size at_is size_is before sized follows c left =
      let from = follows c left in
      (from.0, from.1, torn_run l head slot place count from.0 c room before (sized from.0 from.1) (subst (λ (k : ℕ). Torn (log_offset (slot_of l head place) + 1) k from.0 c) size_is (subst (λ (k : ℕ). Torn k size from.0 c) at_is from.2)))

  pub round_images : (old mid : D) (at size : ℕ) → at ≡ log_offset (slot_of l head place) + 1 → size ≡ UNIT * count - 1 → slot_of l head place + count ≡ l.log → ((c : List ℕ) → d.image old c → length c ≡ file_length l) → Follows (Torn at size) (d.image old) (d.image mid)
      → (e c : List ℕ) → d.image mid e → Torn (log_offset 0) 1 e c → StagedFrom l head place count (d.image old) c
  round_images old mid at size at_is size_is full sized first e c left torn =
      let from = first e left in
      (from.0, from.1, torn_round l head slot place count from.0 e c some room full (sized from.0 from.1) (subst (λ (k : ℕ). Torn (log_offset (slot_of l head place) + 1) k from.0 e) size_is (subst (λ (k : ℕ). Torn k size from.0 e) at_is from.2)) torn)

  pub start : (disk : D) → ((c : List ℕ) → d.image_since disk (d.moment disk) c → d.image disk c) → Leaves d disk disk (StagedFrom l head place count (d.image disk))
  start disk only_now = begun d.moment d.image_since disk (StagedFrom l head place count (d.image disk)) (λ c left. (c, only_now c left, groups_all l head slot place count c))

  pub one_write : (old mid new : D) → Leaves d old mid (StagedFrom l head place count (d.image old)) → Passes (d.moment mid) (d.moment new) (d.image_since mid) (d.image_since new) (d.image new) → ((c : List ℕ) → d.image new c → StagedFrom l head place count (d.image old) c)
      → Leaves d old new (StagedFrom l head place count (d.image old))
  one_write old mid new so_far time here = goes_on d.moment d.image_since old mid new (StagedFrom l head place count (d.image old)) (d.image new) so_far time here
