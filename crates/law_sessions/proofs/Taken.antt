-- The table remembers that a cursor gave a row.
use Rattle.std.proofs.Common.{◌≡◌, inl, inr, ◌<◌, ◌≤◌, ℕ, suc, List, [], ◌∷◌, length, Some, sym, ◌∙◌, subst, arith}
use Rattle.std.proofs.lemmas.Bool.{cases_Bool, cond-false, cond-true}
use Rattle.std.specs.Str.{bytes_eq}
use Rattle.rb_base.specs.declared.ids.Xid.{Xid}
use Rattle.rb_model.specs.NextState.{cursors_of, with_taken}
use Rattle.rb_model.specs.NextState as next
use Rattle.rb_model.specs.State as machine
use Rattle.rb_model.specs.State.{State}
use Rattle.rb_sessions.specs.Kept as kept
use Rattle.rb_sessions.specs.Kept.{KeptCursor, KeptSession, kept_at, named, with_kept, with_last}
use Rattle.rb_sessions.specs.declared.cursor.Cursor.{Cursor}
use Rattle.rb_sessions.specs.declared.sessions.TheConstants.{SESSIONS}
use Rattle.law_blocks.specs.Standing.{env_of}
use Rattle.law_blocks.specs.States.{BlocksStand}
use Rattle.law_sessions.specs.Laws.{rows_seen}
use Rattle.law_sessions.specs.Scan.{IsNextIn, NoneIn}
use Rattle.law_sessions.specs.Views.{AreCursors, Frozen, IsCursor, Remembers, done, live, none}
use Rattle.law_sessions.proofs.Cursors.{cursor_now, cursors_remembered, test_same}
use Rattle.law_sessions.proofs.Fetching.{counts}
use Rattle.law_sessions.proofs.Tables.{cursors_last}
use Rattle.law_home.specs.Walk.{Env}

module _ (h : State) (xids : List Xid) (blocks : List (List ℕ)) (stand : BlocksStand h xids blocks) (s : ℕ) (name : List ℕ) (m : Cursor) (g key : ℕ) (value : List ℕ) (before : (f : ℕ) → f < g → NoneIn h.shape.blocks m.lo m.hi m.last (rows_seen h xids blocks m f) f)
    (found : IsNextIn h.shape.blocks m.lo m.hi m.last (rows_seen h xids blocks m g) g key value) where
  abbrev env : Env
  env = env_of h.shape blocks

  abbrev gave : KeptCursor → KeptCursor
  gave k = record k { cursor = record k.cursor { last = Some key } }

  abbrev one_more : machine.Cursor → machine.Cursor
  one_more c = record c { taken = suc c.taken }

  still_frozen : (k : KeptCursor) (c : machine.Cursor) → Frozen h xids env s k.cursor c → Frozen h xids env s (gave k).cursor (one_more c)
  still_frozen k c (none z) = none z
  still_frozen k c (live t present owns mine is) = live t present owns mine is
  still_frozen k c (done i lt high mine is) = done i lt high mine is

  one_gave : (k : KeptCursor) (c : machine.Cursor) → k.cursor ≡ m → IsCursor h xids env s k c → IsCursor h xids env s (gave k) (one_more c)
  one_gave k c same is = record {
    name = is.name;
    table = is.table;
    lo = is.lo;
    hi = is.hi;
    number = is.number;
    present = is.present;
    in_tables = is.in_tables;
    above = is.above;
    below = is.below;
    upto = is.upto;
    few = is.few;
    frozen = still_frozen k c is.frozen;
    taken = counts h xids blocks stand s k c is g key value
        (subst (λ (z : Cursor). (f : ℕ) → f < g → NoneIn h.shape.blocks z.lo z.hi z.last (rows_seen h xids blocks z f) f) (sym same) before)
        (subst (λ (z : Cursor). IsNextIn h.shape.blocks z.lo z.hi z.last (rows_seen h xids blocks z g) g key value) (sym same) found);
  }

  are_given : (ms : List KeptCursor) (cs : List machine.Cursor) → AreCursors h xids env s ms cs → named name ms ≡ Some m → AreCursors h xids env s (with_last name key ms) (with_taken name cs)
  are_given [] [] are is = tt
  are_given (k ∷ ms) (c ∷ cs) are is =
      let same = test_same h xids env s name k c are.0 in
      elim (cases_Bool (bytes_eq k.name name)) [
        | inl this ↦
            let both : Some k.cursor ≡ Some m = sym (cond-true (bytes_eq k.name name) (Some k.cursor) (named name ms) this) ∙ is in
            let one : k.cursor ≡ m = cc in
            subst (λ (l : List KeptCursor). AreCursors h xids env s l (with_taken name (c ∷ cs))) (sym (cond-true (bytes_eq k.name name) (gave k ∷ ms) (k ∷ with_last name key ms) this))
            (subst (λ (l : List machine.Cursor). AreCursors h xids env s (gave k ∷ ms) l) (sym (cond-true (bytes_eq c.name name) (one_more c ∷ cs) (c ∷ with_taken name cs) (sym same ∙ this))) (one_gave k c one are.0, are.1))
        | inr other ↦
            let deep = are_given ms cs are.1 (sym (cond-false (bytes_eq k.name name) (Some k.cursor) (named name ms) other) ∙ is) in
            subst (λ (l : List KeptCursor). AreCursors h xids env s l (with_taken name (c ∷ cs))) (sym (cond-false (bytes_eq k.name name) (gave k ∷ ms) (k ∷ with_last name key ms) other))
            (subst (λ (l : List machine.Cursor). AreCursors h xids env s (k ∷ with_last name key ms) l) (sym (cond-false (bytes_eq c.name name) (one_more c ∷ cs) (c ∷ with_taken name cs) (sym same ∙ other))) (are.0, deep))
      ]
  are_given [] (c ∷ cs) are is = absurd are
  are_given (k ∷ ms) [] are is = absurd are

  pub taken : (table : List KeptSession) → Remembers h xids env table → 1 ≤ s → s ≤ SESSIONS → named name (kept_at table s).cursors ≡ Some m
      → Remembers (next.with_cursors h s (with_taken name (cursors_of h s))) xids env (with_kept table s (kept.with_cursors (kept_at table s) (with_last name key (kept_at table s).cursors)))
  taken table is low high at =
      let cs : List machine.Cursor = with_taken name (cursors_of h s) in
      let ms : List KeptCursor = with_last name key (kept_at table s).cursors in
      let many : s ≤ length h.sessions = let n = is.as_many in omega (arith, n, high) in
      cursors_remembered h xids env s cs table ms is low high
      (cursors_last h (next.with_cursors h s cs) xids xids env env s (cursor_now h xids env s cs low many) ms cs (are_given (kept_at table s).cursors (cursors_of h s) (is.each s low high).cursors at))
