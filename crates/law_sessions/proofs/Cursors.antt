-- The table remembers the cursors that a session opens, closes or asks for a row; and a cursor is found in it by its name.
use Rattle.std.proofs.Common.{◌≡◌, inl, inr, ◌<◌, ◌≤◌, ◌*◌, ℕ, true, List, [], ◌∷◌, ◌++◌, length, find, take, Some, None, refl, sym, ◌∙◌, ap, subst, arith}
use Rattle.std.proofs.lemmas.Bool.{and_parts, cases_Bool, cond-false, cond-true, leb-true}
use Rattle.std.proofs.lemmas.Slice.Eq.{bytes_eq-Decides}
use Rattle.std.specs.Str.{bytes_eq}
use Rattle.rb_base.specs.declared.sizes.TheConstants.{SLOTS}
use Rattle.rb_base.specs.declared.ids.Xid.{Xid}
use Rattle.rb_model.specs.Change as model
use Rattle.rb_model.specs.Isolation.{snapshot_at}
use Rattle.rb_model.specs.Next.{given_count}
use Rattle.rb_model.specs.NextState.{cursors_of, opened_cursor, with_taken, without_cursor}
use Rattle.rb_model.specs.NextState as next
use Rattle.rb_model.specs.Rows.{TableRow, last_scn}
use Rattle.rb_model.specs.State as machine
use Rattle.rb_model.specs.State.{Session, State, cursor_of, cursor_rows, is_table, isolation_of, session_of, session_own}
use Rattle.rb_sessions.specs.Kept.{KeptCursor, KeptSession, kept_at, named, with_cursor, with_kept, with_last, without}
use Rattle.rb_sessions.specs.Kept as kept
use Rattle.rb_sessions.specs.declared.cursor.Cursor.{Cursor}
use Rattle.rb_sessions.specs.declared.sessions.TheConstants.{SESSIONS}
use Rattle.law_blocks.specs.Standing.{env_of}
use Rattle.law_blocks.specs.States.{BlocksStand, Owns}
use Rattle.law_sessions.specs.Laws.{cursor_opened}
use Rattle.law_sessions.specs.Views.{AreCursors, Frozen, IsCursor, IsSession, IsSnapshot, Remembers, live, none}
use Rattle.law_sessions.proofs.Few.{session_few}
use Rattle.law_sessions.proofs.Staying.{session_remembered}
use Rattle.law_sessions.proofs.Staying as staying
use Rattle.law_sessions.proofs.Tables.{cursors_last}
use Rattle.law_home.specs.Walk.{Env}

-- a session with these cursors and no other change
abbrev with_these : State → ℕ → List machine.Cursor → Session
with_these h s cursors = record (session_of h s) { cursors = cursors }

-- its cursors are what they were
pub cursor_now : (h : State) (xids : List Xid) (env : Env) (s : ℕ) (cursors : List machine.Cursor) → 1 ≤ s → s ≤ length h.sessions → (m : KeptCursor) (c : machine.Cursor) → IsCursor h xids env s m c → IsCursor (next.with_cursors h s cursors) xids env s m c
cursor_now h xids env s cursors low high m c is = staying.cursor_now h xids env env s (with_these h s cursors) low (λ u t o. refl) high m c (λ present. refl) is

-- what the table remembers then
pub cursors_remembered : (h : State) (xids : List Xid) (env : Env) (s : ℕ) (cursors : List machine.Cursor) (table : List KeptSession) (ms : List KeptCursor) → Remembers h xids env table → 1 ≤ s → s ≤ SESSIONS
    → AreCursors (next.with_cursors h s cursors) xids env s ms cursors → Remembers (next.with_cursors h s cursors) xids env (with_kept table s (kept.with_cursors (kept_at table s) ms))
cursors_remembered h xids env s cursors table ms is low high are =
    let of_session : IsSession h xids env s (kept_at table s) = is.each s low high in
    session_remembered h xids env env s (with_these h s cursors) low (λ u t o. refl) table (kept.with_cursors (kept_at table s) ms) high is of_session.isolation of_session.snapshot refl of_session.count of_session.savepoints are

-- cursors one by one, of which the last is added
are_push : (h : State) (xids : List Xid) (env : Env) (s : ℕ) (ms : List KeptCursor) (cs : List machine.Cursor) (m : KeptCursor) (c : machine.Cursor) → AreCursors h xids env s ms cs → IsCursor h xids env s m c → AreCursors h xids env s (ms ++ m ∷ []) (cs ++ c ∷ [])
are_push h xids env s [] [] m c are is = (is, tt)
are_push h xids env s (x ∷ ms) (y ∷ cs) m c are is = (are.0, are_push h xids env s ms cs m c are.1 is)
are_push h xids env s [] (y ∷ cs) m c are is = absurd are
are_push h xids env s (x ∷ ms) [] m c are is = absurd are

-- the same test of a name in both
pub test_same : (h : State) (xids : List Xid) (env : Env) (s : ℕ) (name : List ℕ) (m : KeptCursor) (c : machine.Cursor) → IsCursor h xids env s m c → bytes_eq m.name name ≡ bytes_eq c.name name
test_same h xids env s name m c is = ap (λ (n : List ℕ). bytes_eq n name) is.name

-- none is given yet
given_nothing : (blocks : ℕ) (all : List TableRow) → given_count blocks None all ≡ 0
given_nothing blocks [] = refl
given_nothing blocks (row ∷ all) = given_nothing blocks all

take_length : {X : Type 0} (xs : List X) → take (length xs) xs ≡ xs
take_length [] = refl
take_length {X} (x ∷ xs) = ap (λ (l : List X). x ∷ l) (take_length xs)

-- closing
are_without : (h : State) (xids : List Xid) (env : Env) (s : ℕ) (name : List ℕ) (ms : List KeptCursor) (cs : List machine.Cursor) → AreCursors h xids env s ms cs → AreCursors h xids env s (without name ms) (without_cursor name cs)
are_without h xids env s name [] [] are = tt
are_without h xids env s name (m ∷ ms) (c ∷ cs) are =
    let same = test_same h xids env s name m c are.0 in
    let deep = are_without h xids env s name ms cs are.1 in
    elim (cases_Bool (bytes_eq m.name name)) [
      | inl this ↦
          subst (λ (l : List KeptCursor). AreCursors h xids env s l (without_cursor name (c ∷ cs))) (sym (cond-true (bytes_eq m.name name) ms (m ∷ without name ms) this))
          (subst (λ (l : List machine.Cursor). AreCursors h xids env s ms l) (sym (cond-true (bytes_eq c.name name) cs (c ∷ without_cursor name cs) (sym same ∙ this))) are.1)
      | inr other ↦
          subst (λ (l : List KeptCursor). AreCursors h xids env s l (without_cursor name (c ∷ cs))) (sym (cond-false (bytes_eq m.name name) ms (m ∷ without name ms) other))
          (subst (λ (l : List machine.Cursor). AreCursors h xids env s (m ∷ without name ms) l) (sym (cond-false (bytes_eq c.name name) cs (c ∷ without_cursor name cs) (sym same ∙ other))) (are.0, deep))
    ]
are_without h xids env s name [] (c ∷ cs) are = absurd are
are_without h xids env s name (m ∷ ms) [] are = absurd are

pub closed : (h : State) (xids : List Xid) (env : Env) (table : List KeptSession) (s : ℕ) (name : List ℕ) → Remembers h xids env table → 1 ≤ s → s ≤ SESSIONS
    → Remembers (next.with_cursors h s (without_cursor name (cursors_of h s))) xids env (with_kept table s (kept.with_cursors (kept_at table s) (without name (kept_at table s).cursors)))
closed h xids env table s name is low high =
    let cs : List machine.Cursor = without_cursor name (cursors_of h s) in
    let many : s ≤ length h.sessions = let n = is.as_many in omega (arith, n, high) in
    cursors_remembered h xids env s cs table (without name (kept_at table s).cursors) is low high
    (are_without (next.with_cursors h s cs) xids env s name (kept_at table s).cursors (cursors_of h s) (cursors_last h (next.with_cursors h s cs) xids xids env env s (cursor_now h xids env s cs low many) (kept_at table s).cursors (cursors_of h s) (is.each s low high).cursors))

-- a cursor by its name
abbrev Found : State → List Xid → Env → ℕ → List ℕ → Cursor → List machine.Cursor → Type 0
Found h xids env s name m cs = (c : machine.Cursor) × (find (λ cursor. bytes_eq cursor.name name) cs ≡ Some c) × IsCursor h xids env s (record { name = name; cursor = m }) c

module _ (h : State) (xids : List Xid) (env : Env) (s : ℕ) (name : List ℕ) where
  none_named : (ms : List KeptCursor) (cs : List machine.Cursor) → AreCursors h xids env s ms cs → named name ms ≡ None → find (λ cursor. bytes_eq cursor.name name) cs ≡ None
  none_named [] [] are is = refl
  none_named (m ∷ ms) (c ∷ cs) are is =
      let same = test_same h xids env s name m c are.0 in
      elim (cases_Bool (bytes_eq m.name name)) [
        | inl this ↦ let clash : Some m.cursor ≡ None = sym (cond-true (bytes_eq m.name name) (Some m.cursor) (named name ms) this) ∙ is in absurd cc
        | inr other ↦
            cond-false (bytes_eq c.name name) (Some c) (find (λ cursor. bytes_eq cursor.name name) cs) (sym same ∙ other)
            ∙ none_named ms cs are.1 (sym (cond-false (bytes_eq m.name name) (Some m.cursor) (named name ms) other) ∙ is)
      ]
  none_named [] (c ∷ cs) are is = absurd are
  none_named (m ∷ ms) [] are is = absurd are

  -- a cursor under the name that its test says
  renamed : (m : KeptCursor) (c : machine.Cursor) → bytes_eq m.name name ≡ true → IsCursor h xids env s m c → IsCursor h xids env s (record { name = name; cursor = m.cursor }) c
  renamed m c this is = let e : m.name ≡ name = (bytes_eq-Decides m.name name).0 this in subst (λ (n : List ℕ). IsCursor h xids env s (record { name = n; cursor = m.cursor }) c) e is

  some_named : (ms : List KeptCursor) (cs : List machine.Cursor) → AreCursors h xids env s ms cs → (m : Cursor) → named name ms ≡ Some m → Found h xids env s name m cs
  some_named [] [] are m is = absurd cc
  some_named (k ∷ ms) (c ∷ cs) are m is =
      let same = test_same h xids env s name k c are.0 in
      elim (cases_Bool (bytes_eq k.name name)) [
        | inl this ↦
            let both : Some k.cursor ≡ Some m = sym (cond-true (bytes_eq k.name name) (Some k.cursor) (named name ms) this) ∙ is in
            let one : k.cursor ≡ m = cc in
            (c, cond-true (bytes_eq c.name name) (Some c) (find (λ cursor. bytes_eq cursor.name name) cs) (sym same ∙ this), subst (λ (z : Cursor). IsCursor h xids env s (record { name = name; cursor = z }) c) one (renamed k c this are.0))
        | inr other ↦
            let deep : Found h xids env s name m cs = some_named ms cs are.1 m (sym (cond-false (bytes_eq k.name name) (Some k.cursor) (named name ms) other) ∙ is) in
            (deep.0, cond-false (bytes_eq c.name name) (Some c) (find (λ cursor. bytes_eq cursor.name name) cs) (sym same ∙ other) ∙ deep.1, deep.2)
      ]
  some_named [] (c ∷ cs) are m is = absurd are
  some_named (k ∷ ms) [] are m is = absurd are

  same_length : (ms : List KeptCursor) (cs : List machine.Cursor) → AreCursors h xids env s ms cs → length ms ≡ length cs
  same_length [] [] are = refl
  same_length (m ∷ ms) (c ∷ cs) are = let deep = same_length ms cs are.1 in omega (arith, deep)
  same_length [] (c ∷ cs) are = absurd are
  same_length (m ∷ ms) [] are = absurd are

  pub named_is : (table : List KeptSession) → Remembers h xids env table → 1 ≤ s → s ≤ SESSIONS
      → (named name (kept_at table s).cursors ≡ None → cursor_of h s name ≡ None)
      × ((m : Cursor) → named name (kept_at table s).cursors ≡ Some m → (c : machine.Cursor) × (cursor_of h s name ≡ Some c) × IsCursor h xids env s (record { name = name; cursor = m }) c)
      × (length (kept_at table s).cursors ≡ length (cursors_of h s))
  named_is table is low high =
      let are = (is.each s low high).cursors in
      (none_named (kept_at table s).cursors (cursors_of h s) are, some_named (kept_at table s).cursors (cursors_of h s) are, same_length (kept_at table s).cursors (cursors_of h s) are)

-- opening
module _ (h : State) (xids : List Xid) (blocks : List (List ℕ)) (table_of : List KeptSession) (s : ℕ) (name : List ℕ) (table lo hi : ℕ) (stand : BlocksStand h xids blocks) (is : Remembers h xids (env_of h.shape blocks) table_of) (low : 1 ≤ s) (high : s ≤ SESSIONS) (there : is_table h table ≡ true) where
  abbrev env : Env
  env = env_of h.shape blocks

  abbrev k : KeptSession
  k = kept_at table_of s

  abbrev new : machine.Cursor
  new = opened_cursor h s name table lo hi

  abbrev in_memory : KeptCursor
  in_memory = record { name = name; cursor = cursor_opened h k table lo hi }

  of_session : IsSession h xids env s k
  of_session = is.each s low high

  frozen : Frozen h xids env s (cursor_opened h k table lo hi) new
  frozen = by (session_own h s) refl
    where
      by : (l : List model.Change) → session_own h s ≡ l → Frozen h xids env s (cursor_opened h k table lo hi) new
      by [] own = none (of_session.count ∙ ap (λ (l : List model.Change). length l) own)
      by (c ∷ more) own =
          let slot : (t : ℕ) × (t < SLOTS * h.shape.segments) × Owns h s t = stand.tell.has_slot s c more low own in
          live slot.0 refl slot.2 (of_session.id.owns slot.0 slot.2) (sym (ap (λ (n : ℕ). take n (session_own h s)) of_session.count ∙ take_length (session_own h s)))

  pub opened_is : IsCursor h xids env s in_memory new
  opened_is =
      let parts = and_parts _ _ there in
      let snapshot : snapshot_at (last_scn h.commits) k.isolation ≡ snapshot_at (last_scn h.commits) (isolation_of h s) = ap (snapshot_at (last_scn h.commits)) of_session.isolation in
      let since : IsSnapshot h.commits k.isolation = of_session.snapshot in
      record {
        name = refl;
        table = refl;
        lo = refl;
        hi = refl;
        number = snapshot;
        present = refl;
        in_tables = (leb-true 1 table parts.0, leb-true table h.shape.tables parts.1);
        above = subst (λ (n : ℕ). h.commits.base ≤ n) snapshot since.0;
        below = subst (λ (n : ℕ). n ≤ last_scn h.commits) snapshot since.1;
        upto = of_session.count;
        few = let n = of_session.count in let f = session_few h xids blocks stand s low in omega (arith, n, f);
        frozen = frozen;
        taken = sym (given_nothing h.shape.blocks (cursor_rows h new));
      }

  pub opened : Remembers (next.with_cursors h s (cursors_of h s ++ new ∷ [])) xids env (with_kept table_of s (with_cursor name (cursor_opened h k table lo hi) k))
  opened =
      let cs : List machine.Cursor = cursors_of h s ++ new ∷ [] in
      let many : s ≤ length h.sessions = let n = is.as_many in omega (arith, n, high) in
      cursors_remembered h xids env s cs table_of (k.cursors ++ in_memory ∷ []) is low high
      (cursors_last h (next.with_cursors h s cs) xids xids env env s (cursor_now h xids env s cs low many) (k.cursors ++ in_memory ∷ []) cs (are_push h xids env s k.cursors (cursors_of h s) in_memory new of_session.cursors opened_is))
