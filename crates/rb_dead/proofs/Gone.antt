-- A dead transaction with fewer changes, or gone whole: what of the state stays, and how much less is owed.
use Rattle.std.proofs.Common.{◌≡◌, ◌≢◌, inl, inr, ◌<◌, ◌≤◌, ◌+◌, ◌-◌, ◌*◌, ℕ, List, [], length, Option, Some, None, refl, sym, ◌∙◌, ap, arith}
use Rattle.std.proofs.lemmas.Bool.{cases_eq}
use Rattle.std.proofs.lemmas.List.{append-nil, get_or-set_other, length-set}
use Rattle.std.specs.List.{range_with_len, sum_by}
use Rattle.rb_base.specs.declared.ids.Xid.{Xid}
use Rattle.law_blocks.proofs.Owed.{sum_one}
use Rattle.rb_model.specs.NextState.{with_own}
use Rattle.law_blocks.specs.Standing.{env_of, homes_of, segments_of}
use Rattle.law_blocks.specs.States.{BlocksStand, Owns}
use Rattle.law_crash.specs.Made.{KeepsIds}
use Rattle.law_dead.proofs.Cleared.{apart, dead_owns}
use Rattle.law_dead.proofs.Going.{own_else, owner_else, owner_gone}
use Rattle.rb_model.specs.Dead.{dead_at, dead_owed, dead_owed_at, dead_owner, without}
use Rattle.law_dead.specs.Laws.{OwnsOne}
use Rattle.law_home.specs.Walk.{Env}
use Rattle.law_sessions.proofs.Lasting.{Keeps}
use Rattle.law_sessions.proofs.Tables.{Moves, session_last, set_others, set_this}
use Rattle.law_sessions.specs.Views.{Remembers}
use Rattle.law_write.proofs.Presence.{owner_within}
use Rattle.law_write.proofs.StoodBlocks.{stood_of}
use Rattle.rb_model.specs.Dead.{KeepsRest}
use Rattle.rb_model.proofs.DeadLemmas as stays
use Rattle.rb_model.specs.Book.{Owner}
use Rattle.rb_model.specs.Change.{Change}
use Rattle.rb_model.specs.Rows.{Commits}
use Rattle.rb_model.specs.State.{Session, State, no_session, owner_at, session_count, session_own, with_changes}
use Rattle.rb_sessions.specs.Kept.{KeptSession, kept_at}

-- The dead transaction `who` of slot t, in blocks that stand.
module _ (h : State) (xids : List Xid) (blocks : List (List ℕ)) (stand : BlocksStand h xids blocks) (t who : ℕ) (dead : dead_at h t ≡ Some who) where
  abbrev env : Env
  env = env_of h.shape blocks

  its : Owns h who t × (session_count < who)
  its = dead_owns h t who dead

  there : (1 ≤ who) × (who ≤ length h.sessions)
  there = stand.tell.owner_there who t its.0

  within : t < 16 * h.shape.segments
  within = owner_within h xids (segments_of h.shape blocks) (homes_of h.shape blocks) (stood_of h xids blocks stand) t its.0.owner its.0.at

  one : OwnsOne h
  one = record { there = stand.tell.owner_there; one_slot = stand.tell.one_slot }

  -- a session that a call can name is another
  other : (s : ℕ) → s ≤ session_count → s ≢ who
  other s high is = let above = its.1 in omega (arith, is, high, above)

  -- What is owed changes by what the slot owes, where the other slots have their dead with as many changes.
  owed_moved : (h2 : State) → h2.shape ≡ h.shape → ((u : ℕ) → u ≢ t → dead_at h2 u ≡ dead_at h u) → ((d : ℕ) → d - 1 ≢ who - 1 → session_own h2 d ≡ session_own h d)
      → dead_owed h2 + (length (session_own h who) + 1) ≡ dead_owed h + dead_owed_at h2 (dead_at h2 t)
  owed_moved h2 shape slots own =
      let before : dead_owed_at h (dead_at h t) ≡ length (session_own h who) + 1 = ap (dead_owed_at h) dead in
      let range : dead_owed h2 ≡ sum_by (λ u. dead_owed_at h2 (dead_at h2 u)) (range_with_len 0 (16 * h.shape.segments)) = ap (λ z. sum_by (λ u. dead_owed_at h2 (dead_at h2 u)) (range_with_len 0 (16 * z.segments))) shape in
      let sums = sum_one (λ u. dead_owed_at h (dead_at h u)) (λ u. dead_owed_at h2 (dead_at h2 u)) 0 (16 * h.shape.segments) t (omega arith) (let w = within in omega (arith, w)) (λ u ne. ap (dead_owed_at h2) (slots u ne) ∙ by u ne (dead_at h u) refl) in
      omega (arith, before, range, sums)
    where
      by : (u : ℕ) → u ≢ t → (o : Option ℕ) → dead_at h u ≡ o → dead_owed_at h2 o ≡ dead_owed_at h o
      by u ne None at = refl
      by u ne (Some d) at = ap (λ (l : List Change). length l + 1) (own d (apart 0 0 h one u t d who ne at dead))

  -- the commits are what they were
  keeps_same : (h2 : State) → h2.shape ≡ h.shape → h2.commits ≡ h.commits → Keeps h h2 xids xids
  keeps_same h2 shape commits = record { shape = shape; base = ap (λ (c : Commits). c.base) commits; rows = ap (λ (c : Commits). c.rows) commits; more = []; list = ap (λ (c : Commits). c.list) commits ∙ sym (append-nil h.commits.list); ids = λ i lt. refl }

  -- The sessions of a table are the living ones, which a step of the dead one leaves.
  remembered_on : (h2 : State) (env2 : Env) (sessions : List KeptSession) → Moves h h2 xids xids env env2 who → Remembers h xids env sessions → Remembers h2 xids env2 sessions
  remembered_on h2 env2 sessions moves is = record {
    counted = is.counted;
    as_many = let n = is.as_many in omega (arith, n, moves.counted);
    each = λ u low high. session_last h h2 xids xids env env2 who moves u low (other u high) (kept_at sessions u) (is.each u low high);
  }

  -- With these changes left.
  pub part_rest : (left : List Change) → KeepsRest h (with_own h who left)
  part_rest left = stays.part_rest h who left its.1

  pub part_owed : (left : List Change) → dead_owed h + length left ≡ dead_owed (with_own h who left) + length (session_own h who)
  part_owed left =
      let h2 : State = with_own h who left in
      let moved = owed_moved h2 refl (λ u ne. refl) (λ d ne. ap (λ (z : Session). z.own) (get_or-set_other h.sessions (who - 1) (d - 1) (with_changes h who left) no_session ne)) in
      let now : dead_owed_at h2 (dead_at h2 t) ≡ length (session_own h2 who) + 1 = ap (dead_owed_at h2) dead in
      let own : length (session_own h2 who) ≡ length left = ap (λ (z : Session). length z.own) (set_this h.sessions who (with_changes h who left) there.0 there.1) in
      omega (arith, moved, now, own)

  pub part_remembered : (env2 : Env) (sessions : List KeptSession) (left : List Change) → KeepsIds h (env_of h.shape blocks) env2 → Remembers h xids (env_of h.shape blocks) sessions → Remembers (with_own h who left) xids env2 sessions
  part_remembered env2 sessions left ids = remembered_on (with_own h who left) env2 sessions (record {
    keeps = keeps_same (with_own h who left) refl refl;
    counted = length-set h.sessions (who - 1) (with_changes h who left);
    others = λ u low ne. set_others h.sessions who u (with_changes h who left) there.0 low ne;
    owns = λ u v ne o. record { owner = o.owner; at = o.at; session = o.session };
    owned = λ u v ne o. record { owner = o.owner; at = o.at; session = o.session };
    ids = ids;
  })

  -- its session, and the state, as it goes whole
  abbrev Ended : Session
  Ended = record no_session { cursors = [] }

  abbrev Whole : State
  Whole = without t who h

  -- another session has its slot still
  owns_still : (u v : ℕ) → u ≢ who → Owns h u v → Owns Whole u v
  owns_still u v ne o = record {
    owner = o.owner;
    at = owner_else h t who v (λ at.
        let both : Some its.0.owner ≡ Some o.owner = sym its.0.at ∙ (ap (owner_at h) (sym at) ∙ o.at) in
        let same : its.0.owner ≡ o.owner = cc in
        ne (sym o.session ∙ (ap (λ (z : Owner). z.session) (sym same) ∙ its.0.session))) ∙ o.at;
    session = o.session;
  }

  -- and none has one that it didn't have
  owned_before : (u v : ℕ) → Owns Whole u v → Owns h u v
  owned_before u v o = elim (cases_eq v t) [
    | inl at ↦ let none : owner_at Whole v ≡ None = ap (owner_at Whole) at ∙ owner_gone h t who in let some : owner_at Whole v ≡ Some o.owner = o.at in absurd cc
    | inr ne ↦ record { owner = o.owner; at = sym (owner_else h t who v ne) ∙ o.at; session = o.session }
  ]

  -- Gone whole.
  pub whole_rest : KeepsRest h (without t who h)
  whole_rest = stays.whole_rest h t who its.1

  pub whole_owed : dead_owed h ≡ dead_owed (without t who h) + (length (session_own h who) + 1)
  whole_owed =
      let moved = owed_moved Whole refl (λ u ne. ap dead_owner (owner_else h t who u ne)) (λ d ne. own_else h t who d ne) in
      let none : dead_owed_at Whole (dead_at Whole t) ≡ 0 = ap (λ (o : Option Owner). dead_owed_at Whole (dead_owner o)) (owner_gone h t who) in
      omega (arith, moved, none)

  pub whole_remembered : (env2 : Env) (sessions : List KeptSession) → KeepsIds h (env_of h.shape blocks) env2 → Remembers h xids (env_of h.shape blocks) sessions → Remembers (without t who h) xids env2 sessions
  whole_remembered env2 sessions ids = remembered_on Whole env2 sessions (record {
    keeps = keeps_same Whole refl refl;
    counted = length-set h.sessions (who - 1) Ended;
    others = λ u low ne. set_others h.sessions who u Ended there.0 low ne;
    owns = owns_still;
    owned = λ u v ne o. owned_before u v o;
    ids = ids;
  })
