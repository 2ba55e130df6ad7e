-- The table remembers a savepoint that is set, and a rollback to one.
use Rattle.std.proofs.Common.{◌≡◌, ◌≤◌, ◌&&◌, ℕ, Bool, true, false, not, nat_lt, List, length, min, take, refl, ◌∙◌, ap, arith}
use Rattle.std.proofs.lemmas.Bool.{false≢true}
use Rattle.std.proofs.lemmas.Bool.Decides.{nat_tests}
use Rattle.std.proofs.lemmas.List.{length-take, take-take}
use Rattle.rb_base.specs.declared.ids.Xid.{Xid}
use Rattle.law_crash.specs.Made.{KeepsIds}
use Rattle.rb_model.specs.Change.{Change}
use Rattle.rb_model.specs.NextState.{cursors_of, rolled_to, up_to, with_savepoint, with_savepoints}
use Rattle.rb_model.specs.NextState as next
use Rattle.rb_model.specs.State.{Savepoint, Session, State, session_of, session_own}
use Rattle.rb_sessions.specs.Kept as kept
use Rattle.rb_sessions.specs.Kept.{KeptCursor, KeptSession, kept_at, with_kept}
use Rattle.rb_sessions.specs.declared.sessions.TheConstants.{SESSIONS}
use Rattle.law_sessions.specs.Views.{AreCursors, IsSession, Remembers}
use Rattle.law_sessions.proofs.Staying.{cursor_now, session_remembered}
use Rattle.law_sessions.proofs.Tables.{cursors_last, cursors_left}
use Rattle.law_home.specs.Walk.{Env}

-- one that is set
pub savepoint_remembered : (h : State) (xids : List Xid) (env : Env) (table : List KeptSession) (s : ℕ) (name : List ℕ) → Remembers h xids env table → 1 ≤ s → s ≤ SESSIONS
    → Remembers (with_savepoints h s (with_savepoint name (length (session_own h s)) (session_of h s).savepoints)) xids env (with_kept table s (kept.with_savepoint name (kept_at table s)))
savepoint_remembered h xids env table s name is low high =
    let k : KeptSession = kept_at table s in
    let of_session : IsSession h xids env s k = is.each s low high in
    let savepoints : List Savepoint = with_savepoint name (length (session_own h s)) (session_of h s).savepoints in
    let session : Session = record (session_of h s) { savepoints = savepoints } in
    session_remembered h xids env env s session low (λ u t o. refl) table (kept.with_savepoint name k) high is of_session.isolation of_session.snapshot refl of_session.count
    (ap (λ n. with_savepoint name n k.savepoints) of_session.count ∙ ap (with_savepoint name (length (session_own h s))) of_session.savepoints)
    (cursors_last h (with_savepoints h s savepoints) xids xids env env s
    (λ m c. cursor_now h xids env env s session low (λ u t o. refl) (let n = is.as_many in omega (arith, n, high)) m c (λ present. refl)) k.cursors (cursors_of h s) of_session.cursors)

-- the session after a rollback to one, which keeps the first changes
abbrev pub session_cut : State → ℕ → List ℕ → ℕ → Session
session_cut h s name first = record (session_of h s) {
  own = take first (session_own h s);
  savepoints = up_to name (session_of h s).savepoints;
  cursors = next.left_open first (cursors_of h s);
}

module _ (h : State) (xids : List Xid) (env env2 : Env) (s : ℕ) (name : List ℕ) (first : ℕ) (low : 1 ≤ s) (ids : KeepsIds h env env2) where
  -- the cursors that stay open see none of the others
  pub cursors_cut : s ≤ length h.sessions → (ms : List KeptCursor) → AreCursors h xids env s ms (cursors_of h s) → AreCursors (rolled_to h s name first) xids env2 s (kept.left_open first ms) (next.left_open first (cursors_of h s))
  cursors_cut high ms are = cursors_left h (rolled_to h s name first) xids xids env env2 s first
      (λ m c stays. cursor_now h xids env env2 s (session_cut h s name first) low ids high m c (λ present. take-take m.cursor.upto first (session_own h s) (sees_kept m.cursor.present m.cursor.upto stays present)))
      ms (cursors_of h s) are
    where
      sees_kept : (present : Bool) (upto : ℕ) → not (present && nat_lt first upto) ≡ true → present ≡ true → upto ≤ first
      sees_kept true upto stays is = grind (arith, nat_tests)
      sees_kept false upto stays is = absurd (false≢true is)

  pub cut_remembered : (table : List KeptSession) → s ≤ SESSIONS → Remembers h xids env table → Remembers (rolled_to h s name first) xids env2 (with_kept table s (kept.rolled_to name first (kept_at table s)))
  cut_remembered table high is =
      let k : KeptSession = kept_at table s in
      let of_session : IsSession h xids env s k = is.each s low high in
      session_remembered h xids env env2 s (session_cut h s name first) low ids table (kept.rolled_to name first k) high is of_session.isolation of_session.snapshot refl
      (counted k.count (session_own h s) of_session.count) (ap (up_to name) of_session.savepoints)
      (cursors_cut (let n = is.as_many in omega (arith, n, high)) k.cursors of_session.cursors)
    where
      counted : (count : ℕ) (own : List Change) → count ≡ length own → min count first ≡ length (take first own)
      counted count own is = omega (arith, is, length-take first own)
