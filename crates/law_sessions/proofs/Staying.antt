-- The table remembers a step of one session in which no commit is made and each slot stays whose it is.
use Rattle.std.proofs.Common.{◌≡◌, ◌≤◌, ◌-◌, ℕ, true, List, [], length, set, take, Option, refl, sym, ◌∙◌, ap, subst, arith, append-nil}
use Rattle.std.proofs.lemmas.List.{length-set}
use Rattle.rb_base.specs.declared.ids.Xid.{Xid}
use Rattle.law_crash.specs.Made.{KeepsIds}
use Rattle.law_crash.proofs.Owners.{id_same}
use Rattle.rb_model.specs.State as machine
use Rattle.rb_model.specs.State.{Session, State, session_of, session_own}
use Rattle.rb_sessions.specs.Kept.{KeptCursor, KeptSession, kept_at, with_kept}
use Rattle.rb_sessions.specs.declared.sessions.TheConstants.{SESSIONS}
use Rattle.law_write.specs.Verdict.{IsOwnId}
use Rattle.law_sessions.specs.Views.{AreCursors, IsCursor, IsSnapshot, Remembers}
use Rattle.law_sessions.proofs.Lasting.{Keeps, cursor_stays}
use Rattle.law_sessions.proofs.Tables.{Moves, set_others, set_this, table_last}
use Rattle.law_home.specs.Walk.{Env}

-- the state with that session in the place of session s
module _ (h : State) (xids : List Xid) (env env2 : Env) (s : ℕ) (session : Session) (low : 1 ≤ s) (ids : KeepsIds h env env2) where
  abbrev pub Next : State
  Next = record h { sessions = set h.sessions (s - 1) session }

  keeps : Keeps h Next xids xids
  keeps = record { shape = refl; base = refl; rows = refl; more = []; list = sym (append-nil h.commits.list); ids = λ i lt. refl }

  moves : Moves h Next xids xids env env2 s
  moves = record {
    keeps = keeps;
    counted = length-set h.sessions (s - 1) session;
    others = λ u u_low ne. set_others h.sessions s u session low u_low ne;
    owns = λ u t ne o. record { owner = o.owner; at = o.at; session = o.session };
    owned = λ u t ne o. record { owner = o.owner; at = o.at; session = o.session };
    ids = ids;
  }

  session_is : s ≤ length h.sessions → session_of Next s ≡ session
  session_is high = set_this h.sessions s session low high

  -- a cursor is what it was, where the session's first changes are those that it sees of the present transaction
  pub cursor_now : s ≤ length h.sessions → (m : KeptCursor) (c : machine.Cursor) → (m.cursor.present ≡ true → take m.cursor.upto session.own ≡ take m.cursor.upto (session_own h s)) → IsCursor h xids env s m c → IsCursor Next xids env2 s m c
  cursor_now high m c first is = cursor_stays h Next xids xids env env2 s keeps m c (λ present. record {
    owns = λ t o. record { owner = o.owner; at = o.at; session = o.session };
    xid = λ t o. ids s t o;
    own = λ le. ap (λ (z : Session). take m.cursor.upto z.own) (session_is high) ∙ first present;
  }) is

  -- The table with the session as it is then.
  pub session_remembered : (table : List KeptSession) (k : KeptSession) → s ≤ SESSIONS → Remembers h xids env table
      → k.isolation ≡ session.isolation → IsSnapshot h.commits k.isolation → k.own ≡ (kept_at table s).own → k.count ≡ length session.own → k.savepoints ≡ session.savepoints → AreCursors Next xids env2 s k.cursors session.cursors
      → Remembers Next xids env2 (with_kept table s k)
  session_remembered table k high is isolation snapshot own count savepoints are =
      let now : session_of Next s ≡ session = session_is (let n = is.as_many in omega (arith, n, high)) in
      table_last h Next xids xids env env2 s moves table k low high is (record {
        isolation = isolation ∙ ap (λ (z : Session). z.isolation) (sym now);
        snapshot = snapshot;
        id = id_same h Next env env2 s k.own refl ids (subst (λ (o : Option Xid). IsOwnId h env s o) (sym own) (is.each s low high).id);
        count = count ∙ ap (λ (z : Session). length z.own) (sym now);
        savepoints = savepoints ∙ ap (λ (z : Session). z.savepoints) (sym now);
        cursors = subst (λ (z : Session). AreCursors Next xids env2 s k.cursors z.cursors) (sym now) are;
      })
