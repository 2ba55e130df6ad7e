use Rattle.std.proofs.Common.{◌≡◌, ◌≢◌, ℕ, List, length, ap, subst, sym, ◌∙◌}
use Rattle.std.proofs.lemmas.Result.{on_ok_weaker}
use Rattle.rb_base.specs.Moments.{joined}
use Rattle.rb_disk.specs.Moments.{Leaves, Rests, rests_leave}
use Rattle.rb_disk.specs.Ranges.{SameBut}
use Rattle.rb_layout.specs.Regions.{block_count, file_length, shape_of, twin_offset}
use Rattle.rb_layout.specs.declared.layout.Layout.{Layout}
use Rattle.rb_twin.specs.Twins.{home, kept, twin_gate, IsTwin, Repaired}
use Rattle.rb_store.specs.Meaning.{AreHomesHeaded, IsHeaded}
use Rattle.rb_store.proofs.opening.repair_homes.Given.{Over}
use Rattle.rb_store.proofs.opening.repair_homes.Goals.{After-repair, In_ok-repair}
use Rattle.rb_store.proofs.opening.repair_homes.Goals as goal

leaves : (g : Over) (c : After-repair g) → g.D.Disk.tells → IsTwin c.args.layout.now (g.D.Disk.content c.args.disk.now)
    → Leaves g.D.Disk c.args.disk.now c.repair.new.disk (Repaired (g.D.Disk.image c.args.disk.now) c.args.layout.now (g.D.Disk.content c.args.disk.now))
leaves g c told = subst (λ (l : Layout). IsTwin l (g.D.Disk.content c.args.disk.now) → Leaves g.D.Disk c.args.disk.now c.repair.new.disk (Repaired (g.D.Disk.image c.args.disk.now) l (g.D.Disk.content c.args.disk.now)))
    c.requires.layout (c.repair.ensures.any_moment told)

pub returns-in_err-repair-clause-foreign : goal.returns-in_err-repair-clause-foreign
returns-in_err-repair-clause-foreign g c told = subst (λ (l : Layout). (IsTwin l (g.D.Disk.content c.args.disk.now) → ⊥) → Rests g.D.Disk c.args.disk.now c.repair.new.disk) c.requires.layout (c.repair.ensures.foreign told)

pub returns-in_err-repair-clause-any_moment : goal.returns-in_err-repair-clause-any_moment
returns-in_err-repair-clause-any_moment g c told = leaves g (goal.at.returns-in_err-repair-clause-any_moment g c).After-repair told

module _ (g : Over) (c : In_ok-repair g) where
  -- what the repair says, in the layout that was read
  pub at : (P : Layout → Type 0) → P c.args.twin.now.layout → P c.args.layout.now
  at P p = subst P c.requires.layout p

pub returns-clause-repaired : goal.returns-clause-repaired
returns-clause-repaired g c told = on_ok_weaker c.check_homes.result (λ headed.
    let l = c.args.layout.now in
    let old = g.D.Disk.content c.args.disk.now in
    let mid = g.D.Disk.content c.repair.new.disk in
    let still = c.check_homes.ensures.same told in
    let same : g.D.Disk.content c.check_homes.new.disk ≡ mid = still.same in
    let e = c.in_ok-repair.ensures in
    let ok = (goal.at.returns-clause-repaired g c).In_ok-repair in
    let shut = at g ok (λ m. twin_gate m mid ≢ 1) (e.shut told) in
    let homes = at g ok (λ m. (which : ℕ) → home m mid which ≡ kept m old which) (e.homes told) in
    let outside = at g ok (λ m. SameBut (twin_offset m 0) (file_length m) old mid) (e.outside told) in
    let whole = at g ok (λ m. length mid ≡ file_length m) (e.whole told) in
    record {
      twin = at g ok (λ m. IsTwin m old) (e.twin told);
      shut = subst (λ (x : List ℕ). twin_gate l x ≢ 1) (sym same) shut;
      homes = λ which. ap (λ (x : List ℕ). home l x which) same ∙ homes which;
      outside = subst (λ (x : List ℕ). SameBut (twin_offset l 0) (file_length l) old x) (sym same) outside;
      only = λ im here. e.only told (c.requires.only told) im (still.crashes.no_more im here) ∙ sym same;
      whole = ap length same ∙ whole;
      headed = subst (λ (x : List ℕ). AreHomesHeaded l c.args.last x (block_count l)) (sym same) headed;
    }) (c.check_homes.ensures.headed told)

pub returns-clause-none : goal.returns-clause-none
returns-clause-none g c told is twin keeps =
    let l = c.args.layout.now in
    let old = g.D.Disk.content c.args.disk.now in
    let mid = g.D.Disk.content c.repair.new.disk in
    let ok = (goal.at.returns-clause-none g c).In_ok-repair in
    let homes = at g ok (λ m. (which : ℕ) → home m mid which ≡ kept m old which) (c.in_ok-repair.ensures.homes told) in
    c.check_homes.ensures.none told is (λ which lt. subst (λ (x : List ℕ). IsHeaded (shape_of l) c.args.last which x) (sym (homes which)) (keeps which lt))

pub returns-clause-any_moment : goal.returns-clause-any_moment
returns-clause-any_moment g c told twin =
    let image = Repaired (g.D.Disk.image c.args.disk.now) c.args.layout.now (g.D.Disk.content c.args.disk.now) in
    let first = leaves g (goal.at.returns-clause-any_moment g c).After-repair told twin in
    let mid = c.repair.new.disk in
    joined g.D.Disk.moment g.D.Disk.image_since c.args.disk.now mid c.check_homes.new.disk image first
    (rests_leave g.D.Disk mid c.check_homes.new.disk image (λ im left. g.met.D.Disk.only_now mid im told left)
    (λ im here. first.each im (g.met.D.Disk.now_counts mid (g.D.Disk.moment c.args.disk.now) im told first.later here)) (c.check_homes.ensures.same told))

pub returns-clause-foreign : goal.returns-clause-foreign
returns-clause-foreign g c told none =
    let ok = (goal.at.returns-clause-foreign g c).In_ok-repair in
    absurd (none (at g ok (λ m. IsTwin m (g.D.Disk.content c.args.disk.now)) (c.in_ok-repair.ensures.twin told)))
