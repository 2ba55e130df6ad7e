-- The cursors and the sessions of a table, one by one, over a step of one session.
use Rattle.std.proofs.Common.{◌≡◌, ◌≢◌, inl, inr, ◌≤◌, ◌-◌, ◌&&◌, nat_lt, ℕ, Bool, true, false, not, List, [], ◌∷◌, length, map, get_or, set, take, Option, Some, refl, sym, ◌∙◌, ap, subst, arith}
use Rattle.std.proofs.lemmas.Bool.{cases_Bool, cases_eq, cond-false, cond-true}
use Rattle.std.proofs.lemmas.List.{get_or-set_other, get_or-set_same, length-set}
use Rattle.rb_base.specs.declared.ids.Xid.{Xid}
use Rattle.rb_model.specs.NextState.{not_present}
use Rattle.rb_model.specs.NextState as next
use Rattle.rb_model.specs.State as machine
use Rattle.rb_model.specs.State.{Session, State, no_session, session_of, session_own}
use Rattle.rb_sessions.specs.Kept as kept
use Rattle.rb_sessions.specs.Kept.{KeptCursor, KeptSession, fresh, kept_at, passed, with_kept}
use Rattle.rb_sessions.specs.declared.sessions.TheConstants.{SESSIONS}
use Rattle.law_blocks.specs.States.{Owns}
use Rattle.law_write.specs.Verdict.{IsOwnId}
use Rattle.law_sessions.specs.Views.{AreCursors, IsCursor, IsSession, Remembers}
use Rattle.law_sessions.proofs.Lasting.{Keeps, Stays, cursor_stays, cursor_told, frozen_ends}
use Rattle.law_sessions.proofs.Snapshots.{snapshot_lasts}
use Rattle.law_home.specs.Walk.{Env}

module _ (h h2 : State) (xids xids2 : List Xid) (env env2 : Env) (s : ℕ) where
  -- cursors that stay as they are
  pub cursors_last : ((m : KeptCursor) (c : machine.Cursor) → IsCursor h xids env s m c → IsCursor h2 xids2 env2 s m c) → (ms : List KeptCursor) (cs : List machine.Cursor) → AreCursors h xids env s ms cs → AreCursors h2 xids2 env2 s ms cs
  cursors_last one [] [] are = tt
  cursors_last one (m ∷ ms) (c ∷ cs) are = (one m c are.0, cursors_last one ms cs are.1)
  cursors_last one [] (c ∷ cs) are = are
  cursors_last one (m ∷ ms) [] are = are

  -- cursors whose transaction has ended
  pub cursors_passed : ((m : KeptCursor) (c : machine.Cursor) → IsCursor h xids env s m c → IsCursor h2 xids2 env2 s (passed m) (not_present c)) → (ms : List KeptCursor) (cs : List machine.Cursor) → AreCursors h xids env s ms cs → AreCursors h2 xids2 env2 s (map passed ms) (map not_present cs)
  cursors_passed one [] [] are = tt
  cursors_passed one (m ∷ ms) (c ∷ cs) are = (one m c are.0, cursors_passed one ms cs are.1)
  cursors_passed one [] (c ∷ cs) are = are
  cursors_passed one (m ∷ ms) [] are = are

  -- those that stay open as the changes behind the first ones go
  pub cursors_left : (first : ℕ) → ((m : KeptCursor) (c : machine.Cursor) → not (m.cursor.present && nat_lt first m.cursor.upto) ≡ true → IsCursor h xids env s m c → IsCursor h2 xids2 env2 s m c)
      → (ms : List KeptCursor) (cs : List machine.Cursor) → AreCursors h xids env s ms cs → AreCursors h2 xids2 env2 s (kept.left_open first ms) (next.left_open first cs)
  cursors_left first one [] [] are = tt
  cursors_left first one [] (c ∷ cs) are = absurd are
  cursors_left first one (m ∷ ms) [] are = absurd are
  cursors_left first one (m ∷ ms) (c ∷ cs) are =
      let deep = cursors_left first one ms cs are.1 in
      let is : IsCursor h xids env s m c = are.0 in
      let same : not (m.cursor.present && nat_lt first m.cursor.upto) ≡ not (c.present && nat_lt first (length c.own)) = ap (λ (b : Bool). not (b && nat_lt first m.cursor.upto)) is.present ∙ ap (λ (n : ℕ). not (c.present && nat_lt first n)) is.upto in
      elim (cases_Bool (not (m.cursor.present && nat_lt first m.cursor.upto))) [
        | inl stays ↦
            subst (λ (l : List KeptCursor). AreCursors h2 xids2 env2 s l (next.left_open first (c ∷ cs))) (sym (cond-true (not (m.cursor.present && nat_lt first m.cursor.upto)) (m ∷ kept.left_open first ms) (kept.left_open first ms) stays))
            (subst (λ (l : List machine.Cursor). AreCursors h2 xids2 env2 s (m ∷ kept.left_open first ms) l) (sym (cond-true (not (c.present && nat_lt first (length c.own))) (c ∷ next.left_open first cs) (next.left_open first cs) (sym same ∙ stays))) (one m c stays is, deep))
        | inr closes ↦
            subst (λ (l : List KeptCursor). AreCursors h2 xids2 env2 s l (next.left_open first (c ∷ cs))) (sym (cond-false (not (m.cursor.present && nat_lt first m.cursor.upto)) (m ∷ kept.left_open first ms) (kept.left_open first ms) closes))
            (subst (λ (l : List machine.Cursor). AreCursors h2 xids2 env2 s (kept.left_open first ms) l) (sym (cond-false (not (c.present && nat_lt first (length c.own))) (c ∷ next.left_open first cs) (next.left_open first cs) (sym same ∙ closes))) deep)
      ]

  -- one that saw none of the changes of its transaction, which has ended
  pub one_passed : Keeps h h2 xids xids2 → (m : KeptCursor) (c : machine.Cursor) → (m.cursor.present ≡ true → c.own ≡ take m.cursor.upto (session_own h s) → m.cursor.upto ≡ 0) → IsCursor h xids env s m c → IsCursor h2 xids2 env2 s (passed m) (not_present c)
  one_passed keeps m c sees is = cursor_told h h2 xids xids2 env env2 s keeps m c false false refl is (frozen_ends h h2 xids xids2 env env2 s keeps m c sees is.frozen)

-- A step of session s: the other sessions have their slots, ids, changes and cursors still.
pub record Moves (h h2 : State) (xids xids2 : List Xid) (env env2 : Env) (s : ℕ) : Type 0 where
  pub keeps : Keeps h h2 xids xids2
  pub counted : length h2.sessions ≡ length h.sessions
  pub others : (u : ℕ) → 1 ≤ u → u ≢ s → session_of h2 u ≡ session_of h u
  pub owns : (u t : ℕ) → u ≢ s → Owns h u t → Owns h2 u t
  pub owned : (u t : ℕ) → u ≢ s → Owns h2 u t → Owns h u t
  pub ids : (u t : ℕ) → Owns h u t → env2.xid t ≡ env.xid t

module _ (h h2 : State) (xids xids2 : List Xid) (env env2 : Env) (s : ℕ) (moves : Moves h h2 xids xids2 env env2 s) where
  id_last : (u : ℕ) → u ≢ s → (own : Option Xid) → IsOwnId h env u own → IsOwnId h2 env2 u own
  id_last u ne own id = record {
    owns = λ t o. let was = moves.owned u t ne o in id.owns t was ∙ ap (λ (x : Xid). Some x) (sym (moves.ids u t was));
    owned = λ x is. let f : (t : ℕ) × Owns h u t × (x ≡ env.xid t) = id.owned x is in (f.0, moves.owns u f.0 ne f.1, f.2 ∙ sym (moves.ids u f.0 f.1));
  }

  pub session_last : (u : ℕ) → 1 ≤ u → u ≢ s → (k : KeptSession) → IsSession h xids env u k → IsSession h2 xids2 env2 u k
  session_last u low ne k is = record {
    isolation = is.isolation ∙ ap (λ (x : Session). x.isolation) (sym (moves.others u low ne));
    snapshot = snapshot_lasts h h2 xids xids2 moves.keeps k.isolation is.snapshot;
    id = id_last u ne k.own is.id;
    count = is.count ∙ ap (λ (x : Session). length x.own) (sym (moves.others u low ne));
    savepoints = is.savepoints ∙ ap (λ (x : Session). x.savepoints) (sym (moves.others u low ne));
    cursors = subst (λ (x : Session). AreCursors h2 xids2 env2 u k.cursors x.cursors) (sym (moves.others u low ne)) (cursors_last h h2 xids xids2 env env2 u (λ m c. cursor_stays h h2 xids xids2 env env2 u moves.keeps m c (λ present. stays)) k.cursors (session_of h u).cursors is.cursors);
  }
    where
      stays : {upto : ℕ} → Stays h h2 env env2 u upto
      stays {upto} = record {
        owns = λ t. moves.owns u t ne;
        xid = moves.ids u;
        own = λ le. ap (λ (x : Session). take upto x.own) (moves.others u low ne);
      }

  -- The table with the session as it is after the step.
  pub table_last : (table : List KeptSession) (k : KeptSession) → 1 ≤ s → s ≤ SESSIONS → Remembers h xids env table → IsSession h2 xids2 env2 s k → Remembers h2 xids2 env2 (with_kept table s k)
  table_last table k low high is now = record {
    counted = length-set table (s - 1) k ∙ is.counted;
    as_many = let n = is.as_many in omega (arith, n, moves.counted);
    each = λ u u_low u_high. elim (cases_eq u s) [
      | inl this ↦
          let at : kept_at (with_kept table s k) s ≡ k = get_or-set_same table (s - 1) k fresh (let n = is.counted in omega (arith, low, high, n)) in
          subst (λ (z : ℕ). IsSession h2 xids2 env2 z (kept_at (with_kept table s k) z)) (sym this) (subst (λ (x : KeptSession). IsSession h2 xids2 env2 s x) (sym at) now)
      | inr other ↦
          let at : kept_at (with_kept table s k) u ≡ kept_at table u = get_or-set_other table (s - 1) (u - 1) k fresh (λ same. other (omega (arith, same, low, u_low))) in
          subst (λ (x : KeptSession). IsSession h2 xids2 env2 u x) (sym at) (session_last u u_low other (kept_at table u) (is.each u u_low u_high))
    ];
  }

-- sessions of which one is another
pub set_others : (sessions : List Session) (s u : ℕ) (x : Session) → 1 ≤ s → 1 ≤ u → u ≢ s → get_or (set sessions (s - 1) x) (u - 1) no_session ≡ get_or sessions (u - 1) no_session
set_others sessions s u x low u_low ne = get_or-set_other sessions (s - 1) (u - 1) x no_session (λ same. ne (omega (arith, same, low, u_low)))

pub set_this : (sessions : List Session) (s : ℕ) (x : Session) → 1 ≤ s → s ≤ length sessions → get_or (set sessions (s - 1) x) (s - 1) no_session ≡ x
set_this sessions s x low high = get_or-set_same sessions (s - 1) x no_session (omega (arith, low, high))
