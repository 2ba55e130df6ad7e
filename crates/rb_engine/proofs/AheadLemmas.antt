-- What is known of the rows ahead goes on where the table of sessions has noted the row that was given.
use Rattle.std.proofs.Common.{◌≡◌, inl, inr, ◌<◌, ◌-◌, ℕ, zero, suc, List, [], ◌∷◌, length, Option, Some, None, IfSome, is_some, true, sym, ◌∙◌, ap, subst, arith}
use Rattle.std.proofs.lemmas.Bool.{cases_Bool, cond-false, cond-true}
use Rattle.std.proofs.lemmas.List.{get_or-set_same}
use Rattle.std.specs.Str.{bytes_eq}
use Rattle.rb_base.specs.declared.sizes.TheConstants.{WORN}
use Rattle.rb_base.specs.declared.store.Store.{Ghosts}
use Rattle.rb_copies.specs.Copies.{KeptHomes}
use Rattle.rb_cr.specs.Pages.{GoesOn, PageRows}
use Rattle.rb_cr.proofs.GoingOn.{of_block}
use Rattle.rb_engine.specs.Ahead.{GoOn, IsAhead, IsAheadOf, IsAt, IsStill, RowsAhead, behind_key, snapshot_of}
use Rattle.rb_engine.specs.Does.{Kept}
use Rattle.rb_sessions.specs.Kept.{KeptCursor, KeptSession, fresh, kept_at, named, with_cursors, with_kept, with_last}
use Rattle.rb_sessions.specs.declared.cursor.Cursor.{Cursor}
use Rattle.law_sessions.specs.Views.{home_in}

-- the cursor of that name is behind the key
named_last : (name : List ℕ) (key : ℕ) (cs : List KeptCursor) (m : Cursor) → named name cs ≡ Some m → named name (with_last name key cs) ≡ Some (behind_key key m)
named_last name key [] m is = (let clash : None ≡ Some m = is in absurd cc)
named_last name key (c ∷ cs) m is = elim (cases_Bool (bytes_eq c.name name)) [
  | inl this ↦
      let gave : KeptCursor = record c { cursor = behind_key key c.cursor } in
      let old : Some c.cursor ≡ Some m = sym (cond-true (bytes_eq c.name name) (Some c.cursor) (named name cs) this) ∙ is in
      let same : c.cursor ≡ m = cc in
      ap (named name) (cond-true (bytes_eq c.name name) (gave ∷ cs) (c ∷ with_last name key cs) this)
      ∙ (cond-true (bytes_eq c.name name) (Some gave.cursor) (named name cs) this ∙ ap (λ (z : Cursor). Some (behind_key key z)) same)
  | inr other ↦
      ap (named name) (cond-false (bytes_eq c.name name) (record c { cursor = behind_key key c.cursor } ∷ cs) (c ∷ with_last name key cs) other)
      ∙ (cond-false (bytes_eq c.name name) (Some c.cursor) (named name (with_last name key cs)) other
      ∙ named_last name key cs m (sym (cond-false (bytes_eq c.name name) (Some c.cursor) (named name cs) other) ∙ is))
]

pub named_moved : (sessions : List KeptSession) (s : ℕ) (name : List ℕ) (key : ℕ) (m : Cursor) → s - 1 < length sessions → named name (kept_at sessions s).cursors ≡ Some m
    → named name (kept_at (with_kept sessions s (with_cursors (kept_at sessions s) (with_last name key (kept_at sessions s).cursors))) s).cursors ≡ Some (behind_key key m)
named_moved sessions s name key m there is =
    let k = with_cursors (kept_at sessions s) (with_last name key (kept_at sessions s).cursors) in
    let at : kept_at (with_kept sessions s k) s ≡ k = get_or-set_same sessions (s - 1) k fresh there in
    ap (λ (z : KeptSession). named name z.cursors) at ∙ named_last name key (kept_at sessions s).cursors m is

-- and at its place
at_last : (name : List ℕ) (key : ℕ) (cs : List KeptCursor) (place : ℕ) → IsAt name cs place → IsAt name (with_last name key cs) place
at_last name key [] place (less, is) = absurd is
at_last name key (c ∷ cs) zero (less, is) =
    let gave : KeptCursor = record c { cursor = behind_key key c.cursor } in
    subst (λ (l : List KeptCursor). IsAt name l 0) (sym (cond-true (bytes_eq c.name name) (gave ∷ cs) (c ∷ with_last name key cs) is)) (omega arith, is)
at_last name key (c ∷ cs) (suc place) (less, is) =
    let gave : KeptCursor = record c { cursor = behind_key key c.cursor } in
    let deep = at_last name key cs place (omega (arith, less), is.1) in
    subst (λ (l : List KeptCursor). IsAt name l (suc place)) (sym (cond-false (bytes_eq c.name name) (gave ∷ cs) (c ∷ with_last name key cs) is.0)) ((let less = deep.0 in omega (arith, less)), (is.0, deep.1))

pub at_moved : (sessions : List KeptSession) (s : ℕ) (name : List ℕ) (key place : ℕ) → s - 1 < length sessions → IsAt name (kept_at sessions s).cursors place
    → IsAt name (kept_at (with_kept sessions s (with_cursors (kept_at sessions s) (with_last name key (kept_at sessions s).cursors))) s).cursors place
at_moved sessions s name key place there is =
    let k = with_cursors (kept_at sessions s) (with_last name key (kept_at sessions s).cursors) in
    let at : kept_at (with_kept sessions s k) s ≡ k = get_or-set_same sessions (s - 1) k fresh there in
    subst (λ (z : KeptSession). IsAt name z.cursors place) (sym at) (at_last name key (kept_at sessions s).cursors place is)

-- so the rows ahead are of the cursor in the table
pub ahead_of : {S : Type 0} (s : Ghosts S) (memory : Kept) (store : S) (who : ℕ) (name : List ℕ) (m : Cursor) (ahead : RowsAhead) → named name (kept_at memory.sessions who).cursors ≡ Some m
    → IsAt name (kept_at memory.sessions who).cursors ahead.place → IsAheadOf s m memory.copies.kept store ahead → IsAhead s (record { memory = memory; store = store }) who name ahead
ahead_of s memory store who name m ahead is at = by ahead.rows
  where
    by : (o : Option PageRows) → IfSome o (GoOn s m memory.copies.kept store ahead.home)
        → IfSome o (λ rows. (m2 : Cursor) × (named name (kept_at memory.sessions who).cursors ≡ Some m2) × IsAt name (kept_at memory.sessions who).cursors ahead.place × GoOn s m2 memory.copies.kept store ahead.home rows)
    by None goes = tt
    by (Some rows) goes = (m, is, at, goes)

pub of_ahead : {S : Type 0} (s : Ghosts S) (memory : Kept) (store : S) (who : ℕ) (name : List ℕ) (m : Cursor) (ahead : RowsAhead) → named name (kept_at memory.sessions who).cursors ≡ Some m
    → IsAhead s (record { memory = memory; store = store }) who name ahead → IsAheadOf s m memory.copies.kept store ahead
of_ahead s memory store who name m ahead is = by ahead.rows
  where
    by : (o : Option PageRows) → IfSome o (λ rows. (m2 : Cursor) × (named name (kept_at memory.sessions who).cursors ≡ Some m2) × IsAt name (kept_at memory.sessions who).cursors ahead.place × GoOn s m2 memory.copies.kept store ahead.home rows)
        → IfSome o (GoOn s m memory.copies.kept store ahead.home)
    by None goes = tt
    by (Some rows) (m2, has, at, goes) =
        let same : Some m2 ≡ Some m = sym has ∙ is in
        let one : m2 ≡ m = cc in
        subst (λ (z : Cursor). GoOn s z memory.copies.kept store ahead.home rows) one goes

-- the rows of a page go on behind a key
pub rows_go_on : {S : Type 0} (s : Ghosts S) (m : Cursor) (kept : KeptHomes) (store : S) (home key block : ℕ) → block ≡ home_in (s.shape_of store) m.table home → (o : Option PageRows)
    → (s.tells → s.lsn store < WORN → IsStill s store block) → IfSome o (GoesOn s store kept block (snapshot_of m) (Some key) m.lo m.hi) → IfSome o (GoOn s (behind_key key m) kept store home)
rows_go_on s m kept store home key block at None still goes = tt
rows_go_on s m kept store home key block at (Some rows) still goes = record {
  goes = subst (λ (b : ℕ). GoesOn s store kept b (snapshot_of m) (Some key) m.lo m.hi rows) at goes;
  still = λ told young. subst (IsStill s store) at (still told young);
}

-- where the rows ahead are a block's own that was loaded
pub loaded_ahead : {S : Type 0} (s : Ghosts S) (m : Cursor) (kept : KeptHomes) (store : S) (ahead : RowsAhead) → IsAheadOf s m kept store ahead
    → IfSome ahead.rows (λ page. page.kept ≡ None → is_some (s.loaded store) ≡ true)
loaded_ahead s m kept store ahead = by ahead.rows
  where
    by : (o : Option PageRows) → IfSome o (GoOn s m kept store ahead.home) → IfSome o (λ page. page.kept ≡ None → is_some (s.loaded store) ≡ true)
    by None goes = tt
    by (Some page) goes = λ own.
        let b = home_in (s.shape_of store) m.table ahead.home in
        ap (λ (o : Option ℕ). is_some o) (of_block s store kept b (snapshot_of m) m.last m.lo m.hi page.rows page.kept (λ key is. (let clash : None ≡ Some key = sym own ∙ is in absurd cc)) goes.goes).0

-- and the cursor stands where it is known to
pub place_ahead : {S : Type 0} (s : Ghosts S) (memory : Kept) (store : S) (who : ℕ) (name : List ℕ) (ahead : RowsAhead) → IsAhead s (record { memory = memory; store = store }) who name ahead
    → IfSome ahead.rows (λ rows. IsAt name (kept_at memory.sessions who).cursors ahead.place)
place_ahead s memory store who name ahead = by ahead.rows
  where
    by : (o : Option PageRows) → IfSome o (λ rows. (m2 : Cursor) × (named name (kept_at memory.sessions who).cursors ≡ Some m2) × IsAt name (kept_at memory.sessions who).cursors ahead.place × GoOn s m2 memory.copies.kept store ahead.home rows)
        → IfSome o (λ rows. IsAt name (kept_at memory.sessions who).cursors ahead.place)
    by None known = tt
    by (Some rows) (m, is, at, goes) = at
