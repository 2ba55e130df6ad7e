-- What was taken of a dead transaction: by the put back of some of its changes, or of all and the end of its slot.
use Rattle.std.proofs.Common.{◌≡◌, inl, inr, ◌<◌, ◌≤◌, ◌+◌, ◌-◌, ◌*◌, ◌/◌, ◌%◌, ◌==◌, min, cond, ℕ, zero, suc, true, false, List, [], length, take, Option, Some, None, Result, Ok, Err, refl, sym, ◌∙◌, ap, subst, arith}
use Rattle.std.proofs.lemmas.Bool.{cases_lt, cond-false, cond-true}
use Rattle.std.proofs.lemmas.Bool.Decides.{nat_tests}
use Rattle.std.proofs.lemmas.List.{length-take-le}
use Rattle.std.specs.Result.{OkIff, is_err, result_unwrap_or}
use Rattle.rb_base.specs.Logs.{Laws, Logs}
use Rattle.rb_base.specs.declared.faults.Failed.{Failed}
use Rattle.rb_base.specs.declared.ids.Xid.{Xid}
use Rattle.rb_base.specs.declared.shape.Shape.{Shape}
use Rattle.rb_base.specs.declared.sizes.TheConstants.{SLOTS}
use Rattle.rb_base.specs.declared.store.Store.{Ghosts}
use Rattle.law_blocks.specs.Groups.{IsEnded}
use Rattle.rb_model.specs.NextState.{with_own}
use Rattle.law_blocks.specs.Standing.{env_of}
use Rattle.law_blocks.specs.States.{BlocksStand}
use Rattle.law_crash.specs.Crash.{Survives}
use Rattle.law_crash.specs.Holds.{Holds}
use Rattle.law_crash.specs.Made.{BackOver}
use Rattle.law_dead.proofs.Cleared.{dead_owns}
use Rattle.rb_model.specs.Dead.{dead_at, dead_owed, swept_at, swept_from, without}
use Rattle.rb_dead.proofs.Gone.{part_owed, part_remembered, part_rest, whole_owed, whole_remembered, whole_rest}
use Rattle.rb_dead.proofs.Leads.{fails_on, leads_none, leads_on}
use Rattle.rb_model.proofs.DeadLemmas.{rest_same}
use Rattle.law_crash.specs.Made.{BackBy}
use Rattle.rb_dead.specs.Takes.{FoundDead, HasDead, Leads, Takes}
use Rattle.rb_dead.specs.declared.slot.Dead.{Dead}
use Rattle.rb_model.specs.Calls.{Call}
use Rattle.rb_model.specs.Change.{Change}
use Rattle.rb_model.specs.NextState.{ended, without_owner}
use Rattle.rb_model.specs.State.{State, session_own}
use Rattle.rb_rollback.proofs.Backs.{survives_same}
use Rattle.rb_rollback.specs.Backs.{Fails, PutsAllBack, PutsBack}
use Rattle.rb_sessions.specs.Kept.{KeptSession}

-- changes of one slot put back, and then perhaps its end
back_over : (shape : Shape) (t n : ℕ) (a b : List (List ℕ)) → BackOver shape t n a b → BackBy shape n a b
back_over shape t zero a b is = is
back_over shape t (suc n) a b (mid, first, rest) = (mid, t, inl first, back_over shape t n mid b rest)

back_ended : (shape : Shape) (t n : ℕ) (a m b : List (List ℕ)) → BackOver shape t n a m → IsEnded shape t m b → BackBy shape (suc n) a b
back_ended shape t zero a m b is end = (b, t, inr (subst (λ (z : List (List ℕ)). IsEnded shape t z b) is end), refl)
back_ended shape t (suc n) a m b (mid, first, rest) end = (mid, t, inl first, back_ended shape t n mid m b rest end)

-- A bound cut down to what is owed, as a u32: it isn't above that, and up to it leaves as many.
pub cut_down : {E : Type 0} (r : Result ℕ E) (most owed less : ℕ) → OkIff r (owed < 4294967296) owed → most < 4294967296 → less ≡ min most (result_unwrap_or r 4294967295) → (less ≤ owed) × ((n : ℕ) → n ≤ owed → min less n ≡ min most n)
cut_down (Ok v) most owed less (few, is) fits at = (omega (arith, is, at), λ n le. omega (arith, is, at, le))
cut_down (Err e) most owed less many fits at =
    let high : 4294967296 ≤ owed = elim (cases_lt owed 4294967296) [ inl low ↦ absurd (many low) | inr high ↦ high ] in
    (omega (arith, high, fits, at), λ n le. omega (arith, fits, at))

module _ (h : State) (xids : List Xid) (blocks : List (List ℕ)) (stand : BlocksStand h xids blocks) where
  -- A dead transaction is one of the sessions,
  pub dead_there : (t who : ℕ) → dead_at h t ≡ Some who → (1 ≤ who) × (who ≤ length h.sessions)
  dead_there t who dead = stand.tell.owner_there who t (dead_owns h t who dead).0

  -- its changes and its end are owed,
  pub owes_some : (t who : ℕ) → dead_at h t ≡ Some who → length (session_own h who) + 1 ≤ dead_owed h
  owes_some t who dead = let whole = whole_owed h xids blocks stand t who dead in omega (arith, whole)

  -- and where nothing is owed there is none.
  pub none_owed : (t : ℕ) → dead_owed h ≡ 0 → dead_at h t ≡ None
  none_owed t none = by (dead_at h t) refl
    where
      by : (o : Option ℕ) → dead_at h t ≡ o → dead_at h t ≡ None
      by None at = at
      by (Some who) at = let some = owes_some t who at in absurd (omega (arith, some, none))

module _ {S : Type 0} (s : Ghosts S) (h : State) (xids : List Xid) (sessions : List KeptSession) (owed left : ℕ) (old new : S) (has : HasDead s h xids sessions owed old) where
  -- Calls that put back changes of the dead transaction `who` under its id, and gave as many groups as are owed less.
  module _ (x : Xid) (who : ℕ) (dead : dead_at h (SLOTS * x.seg + x.slot) ≡ Some who) (shape : s.shape_of new ≡ s.shape_of old) (given : s.lsn new + left ≡ s.lsn old + owed) where
    abbrev t : ℕ
    t = SLOTS * x.seg + x.slot

    abbrev own : List Change
    own = session_own h who

    stand : BlocksStand h xids (s.blocks old)
    stand = has.holds.blocks

    -- All but so many of its changes are put back.
    pub part_leads : (kept : ℕ) → kept ≤ length own → PutsBack s h xids who kept x old new true → Leads s h (with_own h who (take kept own)) xids sessions left old new
    part_leads kept few puts =
        let h2 = with_own h who (take kept own) in
        let some : length (take kept own) ≡ kept = length-take-le kept own few in
        let less = part_owed h xids (s.blocks old) stand t who dead (take kept own) in
        let fell : dead_owed h - dead_owed h2 ≡ length own - kept = omega (arith, some, less, few) in
        let lsn = puts.2 in
        record {
          rest = part_rest h xids (s.blocks old) stand t who dead (take kept own);
          has = record {
            shape = shape ∙ has.shape;
            going = has.going;
            holds = puts.0;
            remembers = part_remembered h xids (s.blocks old) stand t who dead (env_of h.shape (s.blocks new)) sessions (take kept own) puts.1 has.remembers;
            all = let all = has.all in omega (arith, given, lsn, some, less, few, all);
          };
          fewer = omega (arith, some, less, few);
          lsn = omega (arith, lsn, fell);
          back = subst (λ (n : ℕ). BackBy h.shape n (s.blocks old) (s.blocks new)) (sym fell) (back_over h.shape t (length own - kept) (s.blocks old) (s.blocks new) puts.4);
          survives = puts.3;
          ages = puts.5;
        }

    -- All of them are, and its slot is ended.
    pub whole_leads : x.slot < SLOTS → PutsAllBack s h xids who x old new true → Leads s h (without t who h) xids sessions left old new
    whole_leads slot all =
        let puts = all [] in
        let h2 = without t who h in
        let seg_is : x.seg ≡ t / SLOTS = omega (arith, slot) in
        let slot_is : x.slot ≡ t % SLOTS = omega (arith, slot) in
        let same : without_owner x.seg x.slot (ended h who []) ≡ h2 = ap (λ (g : ℕ). without_owner g x.slot (ended h who [])) seg_is ∙ ap (λ (i : ℕ). without_owner (t / SLOTS) i (ended h who [])) slot_is in
        let less = whole_owed h xids (s.blocks old) stand t who dead in
        let fell : dead_owed h - dead_owed h2 ≡ suc (length own) = omega (arith, less) in
        let lsn = puts.2 in
        record {
          rest = whole_rest h xids (s.blocks old) stand t who dead;
          has = record {
            shape = shape ∙ has.shape;
            going = has.going;
            holds = subst (λ (z : State). Holds s z xids new) same puts.0;
            remembers = whole_remembered h xids (s.blocks old) stand t who dead (env_of h.shape (s.blocks new)) sessions puts.1 has.remembers;
            all = let all_owed = has.all in omega (arith, given, lsn, less, all_owed);
          };
          fewer = omega (arith, less);
          lsn = omega (arith, lsn, fell);
          back = subst (λ (n : ℕ). BackBy h.shape n (s.blocks old) (s.blocks new)) (sym fell) (back_ended h.shape t (length own) (s.blocks old) puts.4.0 (s.blocks new) puts.4.1 puts.4.2);
          survives = λ before keeps. subst (λ (z : State). Survives s (s.slots old) before h z old new) same (puts.3 before keeps);
          ages = puts.5;
        }

    -- So a call took fewer than it has,
    pub takes_part : (most : ℕ) → most < length own → PutsBack s h xids who (length own - min most (length own)) x old new true → Takes s h xids sessions most t left old new (Ok most)
    takes_part most few puts =
        let kept = length own - min most (length own) in
        let some : (kept == 0) ≡ false = let more : 0 < kept = omega (arith, few) in grind (arith, nat_tests, more) in
        subst (λ (o : Option ℕ). (most ≡ swept_from most h o) × Leads s h (swept_at most t o h) xids sessions left old new) (sym dead)
        (omega (arith, few), subst (λ (z : State). Leads s h z xids sessions left old new) (sym (cond-false (kept == 0) (without t who h) (with_own h who (take kept own)) some)) (part_leads kept (omega arith) puts))

    -- or it whole.
    pub takes_whole : (most live : ℕ) → length own ≡ live → live ≤ most → x.slot < SLOTS → PutsAllBack s h xids who x old new true → Takes s h xids sessions most t left old new (Ok live)
    takes_whole most live many few slot puts =
        let kept = length own - min most (length own) in
        let none : (kept == 0) ≡ true = let no : kept ≡ 0 = omega (arith, many, few) in grind (arith, nat_tests, no) in
        subst (λ (o : Option ℕ). (live ≡ swept_from most h o) × Leads s h (swept_at most t o h) xids sessions left old new) (sym dead)
        (omega (arith, many, few), subst (λ (z : State). Leads s h z xids sessions left old new) (sym (cond-true (kept == 0) (without t who h) (with_own h who (take kept own)) none)) (whole_leads slot puts))

  -- A failed call took none.
  pub takes_err : (most t : ℕ) (r : Result ℕ Failed) → is_err r ≡ true → ((kind : Option Call) → Fails s kind h old new) → Takes s h xids sessions most t left old new r
  takes_err most t (Ok n) is fails = absurd cc
  takes_err most t (Err fault) is fails = fails

  -- where none has the slot none is taken,
  pub takes_none : (most t : ℕ) → dead_at h t ≡ None → Leads s h h xids sessions left old new → Takes s h xids sessions most t left old new (Ok 0)
  takes_none most t none leads = subst (λ (o : Option ℕ). (0 ≡ swept_from most h o) × Leads s h (swept_at most t o h) xids sessions left old new) (sym none) (refl, leads)

  -- and two bounds that take as many of it lead to the same.
  pub takes_same : (less most t who : ℕ) → dead_at h t ≡ Some who → min less (length (session_own h who)) ≡ min most (length (session_own h who)) → (r : Result ℕ Failed) → Takes s h xids sessions less t left old new r → Takes s h xids sessions most t left old new r
  takes_same less most t who dead same (Err fault) fails = fails
  takes_same less most t who dead same (Ok n) took =
      let own = session_own h who in
      subst (λ (o : Option ℕ). (n ≡ swept_from most h o) × Leads s h (swept_at most t o h) xids sessions left old new) (sym dead)
      (subst (λ (m : ℕ). (n ≡ m) × Leads s h (cond (length own - m == 0) (without t who h) (with_own h who (take (length own - m) own))) xids sessions left old new) same
      (subst (λ (o : Option ℕ). (n ≡ swept_from less h o) × Leads s h (swept_at less t o h) xids sessions left old new) dead took))

  module _ (told : s.tells) (laws : Laws s) where
    -- A call that failed before a group was given.
    pub fails_logged : Logs s old new [] false → (kind : Option Call) → Fails s kind h old new
    fails_logged logs kind keeps = survives_same s told laws h (record h { stopped = true }) xids old new false has.shape refl refl refl refl has.holds logs keeps

    -- What was taken after calls that gave no group.
    pub takes_after : (mid : S) → Logs s old mid [] true → (most t : ℕ) (r : Result ℕ Failed) → Takes s h xids sessions most t left mid new r → Takes s h xids sessions most t left old new r
    takes_after mid logs most t (Ok n) took = (took.0, leads_on s h xids sessions h (swept_at most t (dead_at h t) h) owed left old mid new has.going logs.same_slots (leads_none s h xids sessions told laws owed old mid has logs) took.1)
    takes_after mid logs most t (Err fault) fails = fails_on s h xids sessions h (rest_same h) owed old mid new has.going logs.same_slots (leads_none s h xids sessions told laws owed old mid has logs) fails

    -- The same of a dead transaction that such calls found in slot t, by a bound that takes as much up to what is owed.
    pub takes_found : (mid : S) → Logs s old mid [] true → (found : Dead) (less most t : ℕ) → FoundDead h (s.blocks old) t (Some found) → SLOTS * found.xid.seg + found.xid.slot ≡ t → ((n : ℕ) → n ≤ owed - 1 → min less n ≡ min most n) → (r : Result ℕ Failed)
        → (HasDead s h xids sessions owed mid → FoundDead h (s.blocks mid) (SLOTS * found.xid.seg + found.xid.slot) (Some found) → Takes s h xids sessions less (SLOTS * found.xid.seg + found.xid.slot) left mid new r)
        → Takes s h xids sessions most t left old new r
    takes_found mid logs found less most t is at same r takes =
        let first = leads_none s h xids sessions told laws owed old mid has logs in
        let who = is.0 in
        let some = owes_some h xids (s.blocks old) has.holds.blocks t who is.1 in
        let here : FoundDead h (s.blocks mid) (SLOTS * found.xid.seg + found.xid.slot) (Some found) = subst (λ (z : ℕ). FoundDead h (s.blocks mid) z (Some found)) (sym at) (subst (λ (b : List (List ℕ)). FoundDead h b t (Some found)) (sym (logs.blocks told refl)) is) in
        takes_same less most t who is.1 (same (length (session_own h who)) (let all = has.all in omega (arith, some, all))) r
        (takes_after mid logs less t r (subst (λ (z : ℕ). Takes s h xids sessions less z left mid new r) at (takes first.has here)))
