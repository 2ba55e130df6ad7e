use Rattle.std.proofs.Common.{◌≡◌, ◌∙◌, ℕ, Bool, List, Option, Result, true, false, None, Some, Ok, IfSome, sym, ap, subst}
use Rattle.rb_base.specs.declared.faults.Failed.{Failed}
use Rattle.rb_base.specs.Blocks.{block_of}
use Rattle.rb_cr.specs.Builds.{IsHomeRead}
use Rattle.rb_cr.specs.Clauses.{answer_to}
use Rattle.rb_cr.specs.Pages.{AreNext, TellsAll}
use Rattle.rb_cr.specs.Rows.{block_rows}
use Rattle.rb_cr.proofs.GoingOn.{block_goes_on, firsts, seconds}
use Rattle.rb_cr.proofs.Shown.{next_same, sixteen}
use Rattle.rb_cr.proofs.Telling.{told_rows}
use Rattle.rb_heap.specs.Homes.{home_of}
use Rattle.law_read.specs.Reading.{History}
use Rattle.rb_cr.proofs.told.next_told.Given.{Over}
use Rattle.rb_cr.proofs.told.next_told.Goals as goal

found_is : (a b : Bool) → ◌≡◌ {A = Result (Option Bool) Failed} (Ok (Some a)) (Ok (Some b)) → a ≡ b
found_is a b same = cc

module _ (g : Over) (c : goal.After-begin g) (tells : g.S.Store.tells) where
  -- the block that was read
  read : c.block-bytes.result.now ≡ block_of (g.S.Store.blocks c.args.store.now) c.args.block
  read = c.block-bytes.ensures.block tells c.args.block c.in_ok-load.ensures.loaded ∙ ap (λ (z : List (List ℕ)). block_of z c.args.block) (c.in_ok-load.ensures.blocks tells)

  -- no change of it is above the snapshot
  told : TellsAll (block_of (g.S.Store.blocks c.args.store.now) c.args.block) c.args.snapshot.now.scn
  told =
      let visible = c.if-not-all_told_visible.false in
      subst (λ (l : List ℕ). TellsAll l c.args.snapshot.now.scn) read (record { most = c.all_told_visible.ensures.most visible; clean = c.all_told_visible.ensures.clean visible })

  -- so it shows the rows as they were
  shown : (h : History) → IsHomeRead (g.S.Store.shape_of c.args.store.now) (g.S.Store.blocks c.args.store.now) c.args.block h c.args.snapshot.now
      → (k : ℕ) → block_rows c.block-bytes.result.now k ≡ answer_to h c.args.snapshot.now k
  shown h reading k =
      let s = g.S.Store in
      ap (λ (l : List ℕ). block_rows l k) read ∙ told_rows (s.shape_of c.args.store.now) (s.blocks c.args.store.now) c.args.block c.args.snapshot.now h told reading k

pub returns-clause-given : goal.returns-clause-given
returns-clause-given g c = λ tells h reading is.
    let w = c.args.wanted in
    next_same w.after w.lo w.hi (block_rows c.block-bytes.result.now) (answer_to h c.args.snapshot.now) c.begin.new.row (shown g c tells h reading) (c.begin.ensures.given (found_is c.begin.result true is))

pub returns-clause-none : goal.returns-clause-none
returns-clause-none g c = λ tells h reading is k wanted. sym (shown g c tells h reading k) ∙ c.begin.ensures.none (found_is c.begin.result false is) k wanted

pub returns-clause-page : goal.returns-clause-page
returns-clause-page g c = λ is kept.
    let s = g.S.Store in
    let w = c.args.wanted in
    let new = c.load.new.self in
    let same : (tells : s.tells) → block_of (s.blocks new) c.args.block ≡ block_of (s.blocks c.args.store.now) c.args.block =
    λ tells. ap (λ (z : List (List ℕ)). block_of z c.args.block) (c.in_ok-load.ensures.blocks tells) in
    let rows = c.begin.ensures.page (found_is c.begin.result true is) in
    block_goes_on s new kept c.args.block c.args.snapshot.now (Some c.begin.new.row.key) w.lo w.hi c.begin.new.self c.in_ok-load.ensures.loaded
    (λ tells. subst (λ (l : List ℕ). TellsAll l c.args.snapshot.now.scn) (sym (same tells)) (told g c tells))
    (firsts (λ left. left.kept ≡ None) (λ left. AreNext (Some c.begin.new.row.key) w.lo w.hi (home_of c.block-bytes.result.now).cells left.rows) c.begin.new.self rows)
    (λ tells. subst (λ (l : List ℕ). IfSome c.begin.new.self (λ left. AreNext (Some c.begin.new.row.key) w.lo w.hi (home_of l).cells left.rows)) (read g c tells ∙ sym (same tells))
    (seconds (λ left. left.kept ≡ None) (λ left. AreNext (Some c.begin.new.row.key) w.lo w.hi (home_of c.block-bytes.result.now).cells left.rows) c.begin.new.self rows))

pub begin-requires-clause-few : goal.begin-requires-clause-few
begin-requires-clause-few g c = sixteen c.block-bytes.result.now
