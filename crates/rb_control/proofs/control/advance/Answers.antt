use Rattle.std.proofs.Common.{◌*◌, ◌≡◌, ◌-◌, ◌≤◌, ◌∙◌, List, [], ◌∷◌, ℕ, length, ap, arith, subst}
use Rattle.std.proofs.lemmas.Result.{on_ok_weaker}
use Rattle.rb_base.specs.Fields.{overwritten}
use Rattle.rb_base.specs.Moments.{LeavesOnly, weaker, joined}
use Rattle.rb_base.specs.declared.sizes.TheConstants.{UNIT}
use Rattle.rb_disk.specs.DiskModel.{Torn}
use Rattle.rb_disk.specs.Moments.{rests_leave}
use Rattle.rb_disk.specs.Ranges.{SameBut}
use Rattle.rb_layout.specs.Regions.{log_offset}
use Rattle.rb_control.specs.Heads.{head_of, copy_offset, copy_unit, moved, other_copy, Advanced}
use Rattle.rb_control.specs.HeadLaws.{still, first_move, second_move, control_torn, both_outside, length-copy, moved_head}
use Rattle.rb_control.proofs.control.advance.Given.{Over}
use Rattle.rb_control.proofs.control.advance.Goals.{After-write_synced}
use Rattle.rb_control.proofs.control.advance.Goals as goal

pub returns-in_err-other-clause-any_moment : goal.returns-in_err-other-clause-any_moment
returns-in_err-other-clause-any_moment g c told =
    let disk = c.args.disk.now in
    rests_leave g.D.Disk disk c.chosen_copy.new.disk _ (λ f left. g.met.D.Disk.only_now disk f told left)
    (λ f left. still (g.D.Disk.image disk) (g.D.Disk.content disk) c.args.head f left (c.requires.synced told f left))
    (c.chosen_copy.ensures.same told)

-- the copy that is written
other : (g : Over) (c : After-write_synced g) → g.D.Disk.tells
    → 1 - c.in_ok-other.field-0 ≡ other_copy (g.D.Disk.content c.args.disk.now)
other g c told = ap (λ (copy : ℕ). 1 - copy) (c.in_ok-other.ensures.copy told)

fits : (g : Over) (c : After-write_synced g) → g.D.Disk.tells → log_offset 0 ≤ length (g.D.Disk.content c.args.disk.now)
fits g c told = omega (arith, c.requires.whole told)

unit : (g : Over) (c : After-write_synced g) → length c.unit_of-unit.result ≡ UNIT
unit g c = ap length c.unit_of-unit.ensures ∙ length-copy c.args.head

-- where it is written, and what that leaves of a file
wrote_from : (g : Over) (c : After-write_synced g) (f h : List ℕ) → Torn c.copy_start.result (length c.unit_of-unit.result) f h
    → Torn (copy_offset (1 - c.in_ok-other.field-0)) UNIT f h
wrote_from g c f h torn =
    subst (λ (at : ℕ). Torn at UNIT f h) c.copy_start.ensures (subst (λ (n : ℕ). Torn c.copy_start.result n f h) (unit g c) torn)

outside : (g : Over) (c : After-write_synced g) → g.D.Disk.tells
    → SameBut UNIT (4 * UNIT) (g.D.Disk.content c.args.disk.now) (g.D.Disk.content c.write_synced.new.disk)
outside g c told =
    let file = g.D.Disk.content c.args.disk.now in
    let new = g.D.Disk.content c.write_synced.new.disk in
    let torn = subst (λ (f : List ℕ). Torn c.copy_start.result (length c.unit_of-unit.result) f new)
    ((c.chosen_copy.ensures.same told).same) (c.write_synced.ensures.torn told) in
    control_torn file new _ _ (omega arith) (omega arith) (fits g c told) (wrote_from g c file new torn)

first : (g : Over) (c : After-write_synced g) → g.D.Disk.tells
    → LeavesOnly g.D.Disk.moment g.D.Disk.image_since c.args.disk.now c.write_synced.new.disk
    (Advanced (g.D.Disk.image c.args.disk.now) (head_of (g.D.Disk.content c.args.disk.now)) c.args.head)
first g c told =
    let disk = c.args.disk.now in
    let file = g.D.Disk.content disk in
    let image = g.D.Disk.image disk in
    let P = Advanced image (head_of file) c.args.head in
    let same = c.chosen_copy.ensures.same told in
    let one = rests_leave g.D.Disk disk c.chosen_copy.new.disk P (λ f left. g.met.D.Disk.only_now disk f told left)
    (λ f left. still image file c.args.head f left (c.requires.synced told f left)) same in
    let two = weaker g.D.Disk.moment g.D.Disk.image_since c.chosen_copy.new.disk c.write_synced.new.disk _ P
    (λ k from.
    let here = same.crashes.no_more from.0 from.1 in
    first_move image file from.0 k c.args.head (1 - c.in_ok-other.field-0) here (c.requires.synced told from.0 here)
    (fits g c told) (other g c told) (wrote_from g c from.0 k from.2))
    (c.write_synced.ensures.any_moment told) in
    joined g.D.Disk.moment g.D.Disk.image_since disk c.chosen_copy.new.disk c.write_synced.new.disk P one two

pub returns-in_err-write_synced-clause-outside : goal.returns-in_err-write_synced-clause-outside
returns-in_err-write_synced-clause-outside g c told =
    outside g (goal.at.returns-in_err-write_synced-clause-outside g c).After-write_synced told

pub returns-in_err-write_synced-clause-any_moment : goal.returns-in_err-write_synced-clause-any_moment
returns-in_err-write_synced-clause-any_moment g c told =
    first g (goal.at.returns-in_err-write_synced-clause-any_moment g c).After-write_synced told

pub returns-clause-outside : goal.returns-clause-outside
returns-clause-outside g c told =
    let one = outside g (goal.at.returns-clause-outside g c).After-write_synced told in
    let mid = g.D.Disk.content c.write_synced.new.disk in
    let new = g.D.Disk.content c.write_synced-2.new.disk in
    let room : log_offset 0 ≤ length mid =
    omega (arith, one.long, fits g (goal.at.returns-clause-outside g c).After-write_synced told) in
    both_outside _ mid new one
    (control_torn mid new (3 * UNIT) 1 (omega arith) (omega arith) room (c.write_synced-2.ensures.torn told))

-- the other copy is the new one
wrote : (g : Over) (c : goal.After-write_synced-2 g) → g.D.Disk.tells → g.D.Disk.content c.write_synced.new.disk
    ≡ overwritten (g.D.Disk.content c.args.disk.now) (copy_offset (1 - c.in_ok-other.field-0)) (copy_unit c.args.head)
wrote g c told =
    let file = g.D.Disk.content c.args.disk.now in
    c.in_ok-write_synced.ensures.written told
    ∙ ap (λ (f : List ℕ). overwritten f c.copy_start.result c.unit_of-unit.result) (c.chosen_copy.ensures.same told).same
    ∙ ap (λ (at : ℕ). overwritten file at c.unit_of-unit.result) c.copy_start.ensures
    ∙ ap (overwritten file (copy_offset (1 - c.in_ok-other.field-0))) c.unit_of-unit.ensures

pub returns-clause-any_moment : goal.returns-clause-any_moment
returns-clause-any_moment g c told =
    let here = (goal.at.returns-clause-any_moment g c).After-write_synced in
    let disk = c.args.disk.now in
    let mid = c.write_synced.new.disk in
    let new = c.write_synced-2.new.disk in
    let file = g.D.Disk.content disk in
    let image = g.D.Disk.image disk in
    let P = Advanced image (head_of file) c.args.head in
    let last = weaker g.D.Disk.moment g.D.Disk.image_since mid new _ P
    (λ k from.
    second_move image file from.0 k c.args.head (1 - c.in_ok-other.field-0) (g.met.D.Disk.reads_an_image disk told)
    (fits g here told) (other g here told) (omega arith) (omega arith)
    (c.in_ok-write_synced.ensures.durable told from.0 from.1 ∙ wrote g c told) from.2)
    (c.write_synced-2.ensures.any_moment told) in
    joined g.D.Disk.moment g.D.Disk.image_since disk mid new P (first g here told) last

-- an Ok leaves the file that a move makes
is_moved : (g : Over) (c : goal.After-write_synced-2 g) (f : List ℕ) → g.D.Disk.tells
    → 1 - c.in_ok-other.field-0 ≡ other_copy (g.D.Disk.content c.args.disk.now)
    → f ≡ overwritten (g.D.Disk.content c.write_synced.new.disk) (3 * UNIT) ((1 - c.in_ok-other.field-0) ∷ [])
    → f ≡ moved (g.D.Disk.content c.args.disk.now) c.args.head
is_moved g c f told copy is =
    let file = g.D.Disk.content c.args.disk.now in
    is ∙ ap (λ (h : List ℕ). overwritten h (3 * UNIT) ((1 - c.in_ok-other.field-0) ∷ [])) (wrote g c told)
    ∙ ap (λ (k : ℕ). overwritten (overwritten file (copy_offset k) (copy_unit c.args.head)) (3 * UNIT) (k ∷ [])) copy

pub returns-clause-written : goal.returns-clause-written
returns-clause-written g c told =
    let copy = other g (goal.at.returns-clause-written g c).After-write_synced told in
    on_ok_weaker c.write_synced-2.result (λ is. is_moved g c _ told copy is) (c.write_synced-2.ensures.written told)

pub returns-clause-advanced : goal.returns-clause-advanced
returns-clause-advanced g c told =
    let here = (goal.at.returns-clause-advanced g c).After-write_synced in
    on_ok_weaker c.write_synced-2.result
    (λ is. ap head_of (is_moved g c _ told (other g here told) is)
    ∙ moved_head (g.D.Disk.content c.args.disk.now) c.args.head (fits g here told) (omega arith) (omega arith))
    (c.write_synced-2.ensures.written told)
