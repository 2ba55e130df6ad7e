use Rattle.std.proofs.Common.{◌≡◌, Bool, true, Result, Ok, Some, map, refl, sym, ap, ◌∙◌, arith}
use Rattle.rb_copies.specs.Copies.{copy_key}
use Rattle.rb_copies.specs.declared.homes.CopyKey.{CopyKey}
use Rattle.rb_cr.specs.Clauses.{answer_to}
use Rattle.rb_cr.specs.Pages.{AreNext, PageRows}
use Rattle.rb_cr.specs.Scratches.{shown_by}
use Rattle.rb_cr.specs.declared.faults.CrFault.{CrFault}
use Rattle.law_read.specs.Reading.{rows_in}
use Rattle.law_blocks.specs.Says.{walk_cell}
use Rattle.rb_cr.proofs.Firsts.{turns_there}
use Rattle.rb_cr.proofs.GoingOn.{firsts, kept_goes_on, seconds}
use Rattle.rb_cr.proofs.Sharing.{kept_shows}
use Rattle.rb_cr.proofs.Shown.{next_same}
use Rattle.rb_cr.proofs.nexts.next_shared.Goals as goal

pub returns-in-Some-clause-given : goal.returns-in-Some-clause-given
returns-in-Some-clause-given g c = λ told h read is.
    let s = g.S.Store in
    let w = c.args.wanted in
    let snap = c.args.snapshot.now in
    let at = c.in-Some.ensures.some in
    next_same w.after w.lo w.hi (rows_in (map walk_cell at.0.cells)) (answer_to h snap) c.next_kept.new.row
    (kept_shows (s.shape_of c.args.store.now) (s.blocks c.args.store.now) c.args.copies.now.kept c.args.block h snap read (c.requires.none told) at.0 at.1) (at.3.given is)

pub returns-in-Some-clause-none : goal.returns-in-Some-clause-none
returns-in-Some-clause-none g c = λ told h read is k wanted.
    let s = g.S.Store in
    let at = c.in-Some.ensures.some in
    sym (kept_shows (s.shape_of c.args.store.now) (s.blocks c.args.store.now) c.args.copies.now.kept c.args.block h c.args.snapshot.now read (c.requires.none told) at.0 at.1 k) ∙ at.3.none is k wanted

pub returns-in-Some-clause-turns : goal.returns-in-Some-clause-turns
returns-in-Some-clause-turns g c =
    let at = c.in-Some.ensures.some in
    turns_there c.args.block c.args.number c.args.snapshot.now.scn c.in-Some.found c.args.copies.now c.touch.new.self
    (record { home = at.0; there = at.1; unchanged = at.2; high = omega arith }) c.touch.ensures.used

pub returns-clause-given : goal.returns-clause-given
returns-clause-given g c = λ told h read is.
    let w = c.args.wanted in
    next_same w.after w.lo w.hi (shown_by c.build_shared.new.scratch) (answer_to h c.args.snapshot.now) c.next.new.row ((c.in_ok-build_shared.ensures.told told h read).rows) (c.next.ensures.given is)

ok_is : (a b : Bool) → ◌≡◌ {A = Result Bool CrFault} (Ok a) (Ok b) → a ≡ b
ok_is a b same = cc

-- the rows behind it are of the home that is kept
pub returns-in-Some-clause-page : goal.returns-in-Some-clause-page
returns-in-Some-clause-page g c = λ is.
    let w = c.args.wanted in
    let s = g.S.Store in
    let at = c.in-Some.ensures.some in
    let key : CopyKey = copy_key c.args.block c.args.snapshot.now.scn in
    let rows = c.in-Some.ensures.page (ap (λ (z : Bool). Some z) (ok_is c.in-Some.found true is)) at.0 at.1 in
    let P : PageRows → Type 0 = λ left. left.kept ≡ Some key in
    let Q : PageRows → Type 0 = λ left. AreNext (Some c.next_kept.new.row.key) w.lo w.hi at.0.cells left.rows in
    kept_goes_on s c.args.store.now c.touch.new.self.kept c.args.block c.args.snapshot.now (Some c.next_kept.new.row.key) w.lo w.hi c.next_kept.new.page key refl (firsts P Q c.next_kept.new.page rows)
    (λ told. (at.0, c.touch.ensures.same key ∙ at.1, at.2 ∙ c.requires.number told, c.requires.none told, seconds P Q c.next_kept.new.page rows))
