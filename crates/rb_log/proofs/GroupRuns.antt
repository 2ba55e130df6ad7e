-- Step one of a flush: how far several runs have come.
use Rattle.std.proofs.Common.{◌≡◌, inl, inr, ℕ, ◌+◌, ◌-◌, ◌≤◌, ◌<◌, List, [], length, take, drop, get_or, slice_index, ◌∙◌, ap, subst, arith}
use Rattle.std.proofs.lemmas.Bool.{cases_lt}
use Rattle.std.proofs.lemmas.List.{length-take-le, length-drop, get_or-take, get_or-drop}
use Rattle.rb_base.specs.Moments.{begun, weaker, joined}
use Rattle.rb_disk.specs.declared.disk.Disk.{Ghosts}
use Rattle.rb_disk.specs.Moments.{Leaves}
use Rattle.rb_disk.specs.DiskModel.{Follows}
use Rattle.rb_layout.specs.Regions.{file_length}
use Rattle.rb_layout.specs.declared.layout.Head.{Head}
use Rattle.rb_layout.specs.declared.layout.Layout.{Layout}
use Rattle.rb_log.specs.GroupSlots.{SameButGroups, StagedFrom}
use Rattle.rb_log.specs.Slots.{log_unit, gate_of}
use Rattle.rb_log.specs.WaitingUnits.{body_of, gate_after, UnitsWritten}
use Rattle.rb_log.proofs.TornPlaces.{groups_wider, groups_both, groups_all}

-- so many of the units are written
pub record SomeWritten (l : Layout) (head : Head) (end : ℕ) (units : List (List ℕ)) (done : ℕ) (f c : List ℕ) : Type 0 where
  pub others : SameButGroups l head end done f c
  pub bodies : (k : ℕ) → k < done → drop 1 (log_unit l head c (end + k)) ≡ body_of (get_or units k [])
  pub gates : (k : ℕ) → k < done → gate_of l head c (end + (k + 1)) ≡ gate_after (get_or units k [])

module _ (l : Layout) (head : Head) (slot : head.slot < l.log) (end : ℕ) (units : List (List ℕ)) (room : end + length units < l.log) where
  pub none_written : (f : List ℕ) → SomeWritten l head end units 0 f f
  none_written f = record {
    others = groups_all l head slot end 0 f;
    bodies = λ k lt. absurd (omega (arith, lt));
    gates = λ k lt. absurd (omega (arith, lt));
  }

  pub all_written : (done : ℕ) (f c : List ℕ) → done ≡ length units → SomeWritten l head end units done f c → UnitsWritten l head end units f c
  all_written done f c all was = record {
    others = subst (λ (n : ℕ). SameButGroups l head end n f c) all was.others;
    bodies = λ k lt. was.bodies k (omega (arith, all, lt));
    gates = λ k lt. was.gates k (omega (arith, all, lt));
  }

  -- a run more
  module _ (run : List (List ℕ)) (done count : ℕ) (within : done + count ≤ length units) (run_is : run ≡ take count (drop done units)) where
    size : length run ≡ count
    size = ap length run_is ∙ length-take-le count (drop done units) (omega (arith, length-drop done units, within))

    unit_is : (k : ℕ) → done ≤ k → k < done + count → get_or run (k - done) [] ≡ get_or units k []
    unit_is k behind lt =
        let i = k - done in
        ap (λ (us : List (List ℕ)). get_or us i []) run_is ∙ get_or-take count (drop done units) i [] (omega (arith, lt, behind)) ∙ get_or-drop done units i [] ∙ ap (λ (j : ℕ). get_or units j []) (omega (arith, behind))

    one_more : (f m c : List ℕ) → SomeWritten l head end units done f m → UnitsWritten l head (end + done) run m c → SomeWritten l head end units (done + count) f c
    one_more f m c was wrote =
        let others : SameButGroups l head (end + done) count m c = subst (λ (k : ℕ). SameButGroups l head (end + done) k m c) size wrote.others in
        let same : (k : ℕ) → k < done → log_unit l head c (end + k) ≡ log_unit l head m (end + k) = λ k lt. others.units (end + k) (omega (arith, lt, room, within)) (inl (omega (arith, lt))) in
        let gate_same : (k : ℕ) → k < done → gate_of l head c (end + (k + 1)) ≡ gate_of l head m (end + (k + 1)) = λ k lt. elim (cases_lt (k + 1) done) [
          | inl before ↦ ap (λ (u : List ℕ). slice_index u 0) (same (k + 1) before)
          | inr here ↦ subst (λ (p : ℕ). gate_of l head c p ≡ gate_of l head m p) (omega (arith, lt, here)) others.gate
        ] in
        record {
          others = groups_both l head slot end (done + count) f m c (groups_wider l head slot end (done + count) end done f m (omega arith) (omega arith) (omega (arith, room, within)) was.others)
              (groups_wider l head slot end (done + count) (end + done) count m c (omega arith) (omega arith) (omega (arith, room, within)) others);
          bodies = λ k lt. elim (cases_lt k done) [
            | inl before ↦ ap (drop 1) (same k before) ∙ was.bodies k before
            | inr behind ↦ ap (λ (p : ℕ). drop 1 (log_unit l head c p)) (omega (arith, behind)) ∙ wrote.bodies (k - done) (omega (arith, size, lt, behind)) ∙ ap body_of (unit_is k behind lt)
          ];
          gates = λ k lt. elim (cases_lt k done) [
            | inl before ↦ gate_same k before ∙ was.gates k before
            | inr behind ↦ ap (gate_of l head c) (omega (arith, behind)) ∙ wrote.gates (k - done) (omega (arith, size, lt, behind)) ∙ ap gate_after (unit_is k behind lt)
          ];
        }

  module _ {D : Type 0} (d : Ghosts D) where
    -- Step one has come so far on a disk.
    pub record StagedSome (done : ℕ) (old new : D) : Type 0 where
      pub file : SomeWritten l head end units done (d.content old) (d.content new)
      pub images : (c : List ℕ) → d.image new c → StagedFrom l head end (length units) (d.image old) c
      pub any_moment : Leaves d old new (StagedFrom l head end (length units) (d.image old))
      pub whole : length (d.content new) ≡ file_length l

    pub none_staged : (disk : D) → ((c : List ℕ) → d.image_since disk (d.moment disk) c → d.image disk c) → length (d.content disk) ≡ file_length l → StagedSome 0 disk disk
    none_staged disk only_now whole = record {
      file = none_written (d.content disk);
      images = λ c here. (c, here, groups_all l head slot end (length units) c);
      any_moment = begun d.moment d.image_since disk (StagedFrom l head end (length units) (d.image disk)) (λ c left. (c, only_now c left, groups_all l head slot end (length units) c));
      whole = whole;
    }

    module _ (run : List (List ℕ)) (done count : ℕ) (within : done + count ≤ length units) (run_is : run ≡ take count (drop done units)) (old mid new : D) (so_far : StagedSome done old mid) where
      wider : (e c : List ℕ) → d.image mid e → SameButGroups l head (end + done) (length run) e c → StagedFrom l head end (length units) (d.image old) c
      wider e c left same =
          let from = so_far.images e left in
          let long = size run done count within run_is in
          (from.0, from.1, groups_both l head slot end (length units) from.0 e c from.2 (groups_wider l head slot end (length units) (end + done) (length run) e c (omega arith) (omega (arith, long, within)) room same))

      -- what a crash leaves after one run more
      pub more_moment : Leaves d mid new (StagedFrom l head (end + done) (length run) (d.image mid)) → Leaves d old new (StagedFrom l head end (length units) (d.image old))
      more_moment leaves =
          let P = StagedFrom l head end (length units) (d.image old) in
          joined d.moment d.image_since old mid new P so_far.any_moment (weaker d.moment d.image_since mid new (StagedFrom l head (end + done) (length run) (d.image mid)) P (λ c from. wider from.0 c from.1 from.2) leaves)

      pub more_staged : UnitsWritten l head (end + done) run (d.content mid) (d.content new) → Leaves d mid new (StagedFrom l head (end + done) (length run) (d.image mid)) → Follows (SameButGroups l head (end + done) (length run)) (d.image mid) (d.image new) → length (d.content new) ≡ file_length l
          → StagedSome (done + count) old new
      more_staged wrote leaves follows whole = record {
        file = one_more run done count within run_is (d.content old) (d.content mid) (d.content new) so_far.file wrote;
        images = λ c left. let from = follows c left in wider from.0 c from.1 from.2;
        any_moment = more_moment leaves;
        whole = whole;
      }
