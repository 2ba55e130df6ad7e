-- A new table remembers the state that a file opens to.
use Rattle.std.proofs.Common.{◌≡◌, ◌≤◌, ◌-◌, ◌∙◌, ℕ, List, [], length, replicate, sym, ap, subst, arith}
use Rattle.std.proofs.lemmas.List.{get_or-replicate, get_or_append_left, length-append, length-replicate}
use Rattle.rb_base.specs.declared.shape.Shape.{Shape}
use Rattle.law_crash.proofs.Owners.{id_none}
use Rattle.rb_model.specs.Book.{Book}
use Rattle.rb_model.specs.Calls.{HasNoSlot}
use Rattle.rb_model.specs.Rows.{TableRow}
use Rattle.rb_model.specs.State.{Session, no_session, opened, session_count, session_of}
use Rattle.rb_sessions.specs.Kept.{KeptSession, fresh, kept_at}
use Rattle.rb_sessions.specs.declared.sessions.TheConstants.{SESSIONS}
use Rattle.law_sessions.specs.Views.{AreCursors, IsSession, Remembers}
use Rattle.law_home.specs.Walk.{Env}

pub first_remembered : (shape : Shape) (number : ℕ) (rows : List TableRow) (books : List Book) (dead : List Session) (env : Env) → ((s : ℕ) → s ≤ session_count → HasNoSlot (opened shape number rows books dead) s) → Remembers (opened shape number rows books dead) [] env (replicate SESSIONS fresh)
first_remembered shape number rows books dead env none = record {
  counted = length-replicate SESSIONS fresh;
  as_many = let n = length-replicate session_count no_session in let m = length-append (replicate session_count no_session) dead in omega (arith, n, m);
  each = λ s low high.
      let at : kept_at (replicate SESSIONS fresh) s ≡ fresh = get_or-replicate SESSIONS (s - 1) fresh fresh (omega (arith, low, high)) in
      let sixteen = length-replicate session_count no_session in
      let session : session_of (opened shape number rows books dead) s ≡ no_session = get_or_append_left (replicate session_count no_session) dead no_session (s - 1) (omega (arith, low, high, sixteen)) ∙ get_or-replicate session_count (s - 1) no_session no_session (omega (arith, low, high)) in
      subst (λ (k : KeptSession). IsSession (opened shape number rows books dead) [] env s k) (sym at) (record {
        isolation = sym (ap (λ (z : Session). z.isolation) session);
        snapshot = (omega arith, omega arith);
        id = id_none (opened shape number rows books dead) env s (none s high);
        count = sym (ap (λ (z : Session). length z.own) session);
        savepoints = sym (ap (λ (z : Session). z.savepoints) session);
        cursors = subst (λ (z : Session). AreCursors (opened shape number rows books dead) [] env s [] z.cursors) (sym session) tt;
      });
}
