use Rattle.std.proofs.Common.{◌≡◌, ◌<◌, ◌≤◌, ◌==◌, if◌then◌else◌, ℕ, Bool, true, false, List, Option, None, Some, IfSome, Ok, is_some, refl, sym, ◌∙◌, ap, subst, arith}
use Rattle.std.proofs.lemmas.Bool.{cond-true}
use Rattle.std.proofs.lemmas.Bool.Decides.{nat_tests}
use Rattle.rb_base.specs.declared.ids.Xid.{Xid}
use Rattle.rb_base.specs.declared.shape.Shape.{Shape}
use Rattle.rb_base.specs.declared.store.Store.{Ghosts}
use Rattle.rb_cr.specs.Copies.{IsReadWith}
use Rattle.rb_cr.specs.Pages.{PageRows}
use Rattle.rb_engine.specs.Ahead.{GoOn, IsAheadOf, IsStill, behind_key, snapshot_of}
use Rattle.rb_engine.specs.Cleaning.{IsClean, Serves}
use Rattle.rb_engine.proofs.AheadLemmas.{rows_go_on}
use Rattle.rb_engine.proofs.CleanLemmas.{in_table}
use Rattle.rb_engine.proofs.FetchLemmas.{found_next}
use Rattle.rb_engine.proofs.SharedLemmas.{read_with}
use Rattle.rb_model.specs.State.{State}
use Rattle.rb_sessions.specs.declared.cursor.Cursor.{Cursor}
use Rattle.rb_steps.proofs.Still.{NothingLeft, still_by_segments}
use Rattle.rb_steps.proofs.Young.{young}
use Rattle.law_copies.specs.Copies.{CopiesStand}
use Rattle.law_sessions.specs.Views.{history, home_in}
use Rattle.rb_engine.proofs.scan.next_ahead.Given.{Over}
use Rattle.rb_engine.proofs.scan.next_ahead.Goals as goal

-- where an answer is given there are rows
some_rows : (o : Option PageRows) (r : Option Bool) → (o ≡ None → r ≡ None) → is_some r ≡ true → (rows : PageRows) × (o ≡ Some rows)
some_rows None r silent is = (let clash : false ≡ true = sym (ap (λ (z : Option Bool). is_some z) (silent refl)) ∙ is in absurd cc)
some_rows (Some rows) r silent is = (rows, refl)

-- the home of the last row is asked behind it
after_last : (home : ℕ) (last : Option ℕ) → last ≡ (if home == home then last else None)
after_last home last = sym (cond-true (home == home) last None (itself home))
  where
    itself : (n : ℕ) → (n == n) ≡ true
    itself n = grind (arith, nat_tests)

-- a home of a cursor's table of which nothing is left to clean is clean
clean_here : {S : Type 0} (s : Ghosts S) (h : State) (xids : List Xid) (m : Cursor) (store : S) (home : ℕ) → Serves s h xids m store → home < h.shape.blocks
    → IsStill s store (home_in (s.shape_of store) m.table home) → IsClean h.shape (s.blocks store) (s.blocks store) (home_in h.shape m.table home)
clean_here s h xids m store home serves there still =
    let blocks = s.blocks store in
    let reader = serves.reader in
    let tables = subst (λ (n : ℕ). (1 ≤ n) × (n ≤ h.shape.tables)) (sym reader.is.table) reader.is.in_tables in
    sym (still_by_segments h.shape blocks (home_in h.shape m.table home) (in_table m.table home h.shape there tables) (young h xids blocks reader.stand)
    (subst (λ (k : Shape). NothingLeft k blocks (home_in k m.table home)) serves.shape still))

module _ (g : Over) (c : goal.After-next_on_page g) (m : Cursor) (ahead : IsAheadOf g.S.Store m c.args.copies.now.kept c.args.store.now c.args.ahead.now) (answered : is_some c.next_on_page.result ≡ true) where
  found : (rows : PageRows) × (c.ahead.inside.page ≡ Some rows)
  found = some_rows c.ahead.inside.page c.next_on_page.result c.next_on_page.ensures.silent answered

  -- the rows that are ahead, in this home
  goes : GoOn g.S.Store m c.args.copies.now.kept c.args.store.now c.args.home found.0
  goes =
      subst (λ (n : ℕ). GoOn g.S.Store m c.args.copies.now.kept c.args.store.now n found.0) c.if-ahead-home.false
      (subst (λ (o : Option PageRows). IfSome o (GoOn g.S.Store m c.args.copies.now.kept c.args.store.now c.ahead.inside.home)) found.1
      (subst (IsAheadOf g.S.Store m c.args.copies.now.kept c.args.store.now) (sym c.ahead.view_is) ahead))

  module _ (told : g.S.Store.tells) (h : State) (xids : List Xid) (serves : Serves g.S.Store h xids m c.args.store.now) where
    abbrev blocks : List (List ℕ)
    blocks = g.S.Store.blocks c.args.store.now

    at : home_in (g.S.Store.shape_of c.args.store.now) m.table c.args.home ≡ home_in h.shape m.table c.args.home
    at = ap (λ (z : Shape). home_in z m.table c.args.home) serves.shape

    module _ (copies : CopiesStand h xids blocks c.args.copies.now.kept) (there : c.args.home < h.shape.blocks) where
      read : IsReadWith (g.S.Store.shape_of c.args.store.now) blocks c.args.copies.now.kept (home_in (g.S.Store.shape_of c.args.store.now) m.table c.args.home)
          (history h xids blocks (home_in h.shape m.table c.args.home) m.own) (snapshot_of m)
      read = read_with h xids blocks m serves.reader c.args.home there (g.S.Store.shape_of c.args.store.now) serves.shape _ at c.args.copies.now.kept copies

pub returns-clause-given : goal.returns-clause-given
returns-clause-given g c = λ told m h xids ahead serves copies begins there is.
    let answered = ap (λ (z : Option Bool). is_some z) is in
    let one = goes g c m ahead answered in
    let hist = history h xids (g.S.Store.blocks c.args.store.now) (home_in h.shape m.table c.args.home) m.own in
    let next = c.next_on_page.ensures.given told _ (snapshot_of m) m.last m.lo m.hi (found g c m ahead answered).0 hist (found g c m ahead answered).1 one.goes (read g c m ahead answered told h xids serves copies there) is in
    (found_next h xids (g.S.Store.blocks c.args.store.now) m serves.reader c.args.home there c.args.home begins m.last (after_last c.args.home m.last) c.next_on_page.new.row (Ok true) (λ yes. next) (λ no. (let clash : true ≡ false = no in absurd cc))).0 refl

pub returns-clause-none : goal.returns-clause-none
returns-clause-none g c = λ told m h xids ahead serves copies begins there is.
    let answered = ap (λ (z : Option Bool). is_some z) is in
    let one = goes g c m ahead answered in
    let hist = history h xids (g.S.Store.blocks c.args.store.now) (home_in h.shape m.table c.args.home) m.own in
    let nothing = c.next_on_page.ensures.none told _ (snapshot_of m) m.last m.lo m.hi (found g c m ahead answered).0 hist (found g c m ahead answered).1 one.goes (read g c m ahead answered told h xids serves copies there) is in
    (found_next h xids (g.S.Store.blocks c.args.store.now) m serves.reader c.args.home there c.args.home begins m.last (after_last c.args.home m.last) c.next_on_page.new.row (Ok false) (λ yes. (let clash : false ≡ true = yes in absurd cc)) (λ no. nothing)).1 refl

pub returns-clause-clean : goal.returns-clause-clean
returns-clause-clean g c = λ told m h xids ahead serves there answered young.
    let one = goes g c m ahead answered in
    clean_here g.S.Store h xids m c.args.store.now c.args.home serves there (one.still told young)

pub returns-clause-ahead : goal.returns-clause-ahead
returns-clause-ahead g c = λ m ahead is.
    let answered = ap (λ (z : Option Bool). is_some z) is in
    let one = goes g c m ahead answered in
    let rows = found g c m ahead answered in
    subst (λ (n : ℕ). IfSome c.next_on_page.new.page (GoOn g.S.Store (behind_key c.next_on_page.new.row.key m) c.args.copies.now.kept c.args.store.now n)) (sym c.if-ahead-home.false)
    (rows_go_on g.S.Store m c.args.copies.now.kept c.args.store.now c.args.home c.next_on_page.new.row.key _ refl c.next_on_page.new.page one.still
    (c.next_on_page.ensures.more _ (snapshot_of m) m.last m.lo m.hi rows.0 rows.1 one.goes is))
