use Rattle.std.proofs.Common.{◌≡◌, ◌∙◌, ℕ, List, IsTrue, true, false, length, slice_index, ap, sym, subst, arith}
use Rattle.rb_base.specs.Fields.{part}
use Rattle.rb_base.specs.Moments.{LeavesOnly, weaker, joined}
use Rattle.rb_base.proofs.Fronts.{byte_of_part}
use Rattle.rb_disk.specs.Moments.{Rests, rests, rests_leave}
use Rattle.rb_layout.specs.Regions.{twin_offset, block_count}
use Rattle.rb_twin.specs.Batches.{IsBatch, batch_in, with_batch}
use Rattle.rb_twin.specs.Twins.{IsTwin, Repaired, twin_area, twin_gate, home}
use Rattle.rb_twin.specs.TwinLaws.{kept_open}
use Rattle.rb_twin.proofs.KeptBlocks.{repair_still, repair_later}
use Rattle.rb_twin.proofs.steps.repair_file.Given.{Over}
use Rattle.rb_twin.proofs.steps.repair_file.Goals.{After-read_at, After-finish}
use Rattle.rb_twin.proofs.steps.repair_file.Goals as goal
use Rattle.rb_twin.specs.declared.batch.TheConstants.{AREA}

-- The read leaves all as it was.
still : (g : Over) (c : After-read_at g) → g.D.Disk.tells → Rests g.D.Disk c.args.disk.now c.read_at.new.self
still g c told = rests g.D.Disk c.args.disk.now c.read_at.new.self (c.read_at.ensures.content told) (c.read_at.ensures.images told) (c.read_at.ensures.time told)

begun : (g : Over) (c : After-read_at g) → g.D.Disk.tells → IsTwin c.args.layout.now (g.D.Disk.content c.args.disk.now)
    → LeavesOnly g.D.Disk.moment g.D.Disk.image_since c.args.disk.now c.read_at.new.self (Repaired (g.D.Disk.image c.args.disk.now) c.args.layout.now (g.D.Disk.content c.args.disk.now))
begun g c told twin =
    let disk = c.args.disk.now in
    rests_leave g.D.Disk disk c.read_at.new.self _ (λ f left. g.met.D.Disk.only_now disk f told left) (repair_still c.args.layout.now (g.D.Disk.image disk) (g.D.Disk.content disk) (c.requires.whole told) (c.requires.synced told) twin) (still g c told)

pub returns-in_err-read_at-clause-any_moment : goal.returns-in_err-read_at-clause-any_moment
returns-in_err-read_at-clause-any_moment g c told twin = begun g (goal.at.returns-in_err-read_at-clause-any_moment g c).After-read_at told twin

pub returns-then-area-ne-OPEN-clause-any_moment : goal.returns-then-area-ne-OPEN-clause-any_moment
returns-then-area-ne-OPEN-clause-any_moment g c told twin = begun g (goal.at.returns-then-area-ne-OPEN-clause-any_moment g c).After-read_at told twin

pub returns-then-not-is_batch-clause-any_moment : goal.returns-then-not-is_batch-clause-any_moment
returns-then-not-is_batch-clause-any_moment g c told twin = begun g (goal.at.returns-then-not-is_batch-clause-any_moment g c).After-read_at told twin

-- what was read is the twin area, and its first byte the gate
area_of : (at : ℕ) (n : ℕ) (file : List ℕ) (l : _) → at ≡ twin_offset l 0 → n ≡ AREA → part file at n ≡ twin_area l file
area_of at n file l here long = ap (λ (i : ℕ). part file i n) here ∙ ap (part file (twin_offset l 0)) long

gate_of : (area file : List ℕ) (l : _) → area ≡ twin_area l file → slice_index area 0 ≡ twin_gate l file
gate_of area file l is = ap (λ (a : List ℕ). slice_index a 0) is ∙ byte_of_part file (twin_offset l 0) AREA (omega arith)

pub returns-then-not-is_batch-clause-none : goal.returns-then-not-is_batch-clause-none
returns-then-not-is_batch-clause-none g c told err twin =
    let l = c.args.layout.now in
    let file = g.D.Disk.content c.args.disk.now in
    let read = c.in_ok-read_at.ensures.value told ∙ area_of c.twin_at.result (length c.args.area.now) file l c.twin_at.ensures c.requires.area in
    let valid = twin (sym (gate_of c.read_at.new.into file l read) ∙ c.if-area-ne-OPEN.false) in
    let yes = c.is_batch.ensures.1 (subst (λ (a : List ℕ). IsBatch (block_count l) (batch_in a)) (sym read) valid) in
    let wrong : false ≡ true = subst IsTrue c.if-not-is_batch.true yes in absurd (cc)

pub finish-requires-clause-staged : goal.finish-requires-clause-staged
finish-requires-clause-staged g c told =
    let l = c.args.layout.now in
    let file = g.D.Disk.content c.args.disk.now in
    let read = c.in_ok-read_at.ensures.value told ∙ area_of c.twin_at.result (length c.args.area.now) file l c.twin_at.ensures c.requires.area in
    ap (λ (f : List ℕ). batch_in (twin_area l f)) (c.read_at.ensures.content told) ∙ ap batch_in (sym read)

done : (g : Over) (c : After-finish g) → g.D.Disk.tells
    → LeavesOnly g.D.Disk.moment g.D.Disk.image_since c.args.disk.now c.read_at.new.self (Repaired (g.D.Disk.image c.args.disk.now) c.args.layout.now (g.D.Disk.content c.args.disk.now))
    → LeavesOnly g.D.Disk.moment g.D.Disk.image_since c.args.disk.now c.finish.new.disk (Repaired (g.D.Disk.image c.args.disk.now) c.args.layout.now (g.D.Disk.content c.args.disk.now))
done g c told one =
    let disk = c.args.disk.now in
    let mid = c.read_at.new.self in
    let new = c.finish.new.disk in
    let later = weaker g.D.Disk.moment g.D.Disk.image_since mid new _ _ (repair_later c.args.layout.now (g.D.Disk.image disk) (g.D.Disk.image mid) (g.D.Disk.content disk) (g.D.Disk.content mid) (c.read_at.ensures.images told) (c.read_at.ensures.content told)) (c.finish.ensures.any_moment told) in
    joined g.D.Disk.moment g.D.Disk.image_since disk mid new _ one later

pub returns-in_err-finish-clause-any_moment : goal.returns-in_err-finish-clause-any_moment
returns-in_err-finish-clause-any_moment g c told twin =
    let here = goal.at.returns-in_err-finish-clause-any_moment g c in done g here.After-finish told (begun g here.After-read_at told twin)

pub returns-clause-any_moment : goal.returns-clause-any_moment
returns-clause-any_moment g c told twin =
    let here = goal.at.returns-clause-any_moment g c in done g here.After-finish told (begun g here.After-read_at told twin)

-- the batch that was found
found : (g : Over) (c : After-finish g) → g.D.Disk.tells → IsTwin c.args.layout.now (g.D.Disk.content c.args.disk.now)
found g c told opened =
    let l = c.args.layout.now in
    let file = g.D.Disk.content c.args.disk.now in
    let read = c.in_ok-read_at.ensures.value told ∙ area_of c.twin_at.result (length c.args.area.now) file l c.twin_at.ensures c.requires.area in
    subst (λ (a : List ℕ). IsBatch (block_count l) (batch_in a)) read (c.is_batch.ensures.0 c.if-not-is_batch.false)

pub returns-clause-twin : goal.returns-clause-twin
returns-clause-twin g c told = found g (goal.at.returns-clause-twin g c).After-finish told

pub returns-clause-homes : goal.returns-clause-homes
returns-clause-homes g c told which =
    let l = c.args.layout.now in
    let file = g.D.Disk.content c.args.disk.now in
    let read = c.in_ok-read_at.ensures.value told ∙ area_of c.twin_at.result (length c.args.area.now) file l c.twin_at.ensures c.requires.area in
    let opened = sym (gate_of c.read_at.new.into file l read) ∙ c.if-area-ne-OPEN.false in
    c.in_ok-finish.ensures.homes told which ∙ ap (λ (f : List ℕ). with_batch (batch_in c.read_at.new.into) which (home l f which)) (c.read_at.ensures.content told) ∙ ap (λ (a : List ℕ). with_batch (batch_in a) which (home l file which)) read ∙ sym (kept_open l file which opened)

-- A file that was found to have a batch is none of the others.
pub returns-in_err-finish-clause-foreign : goal.returns-in_err-finish-clause-foreign
returns-in_err-finish-clause-foreign g c told foreign = absurd (foreign (found g (goal.at.returns-in_err-finish-clause-foreign g c).After-finish told))

pub returns-clause-foreign : goal.returns-clause-foreign
returns-clause-foreign g c told foreign = absurd (foreign (found g (goal.at.returns-clause-foreign g c).After-finish told))
