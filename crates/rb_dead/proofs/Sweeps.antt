-- The dead of slots put back one slot after another: what is left to do after so many slots.
use Rattle.std.proofs.Common.{◌≡◌, ◌<◌, ◌≤◌, ◌+◌, ◌-◌, ◌*◌, ◌^◌, ◌==◌, ◌++◌, ℕ, suc, min, Bool, true, false, List, [], length, length-append, take, Option, Some, None, Result, Ok, Err, refl, sym, ◌∙◌, ap, subst, arith}
use Rattle.std.proofs.lemmas.Bool.{cond-true, eq-eqb}
use Rattle.std.specs.List.{range_with_len}
use Rattle.std.specs.Result.{is_err}
use Rattle.rb_base.specs.Logs.{Laws, more_logs, no_logs}
use Rattle.rb_base.specs.declared.faults.Failed.{Failed}
use Rattle.rb_base.specs.declared.ids.Xid.{Xid}
use Rattle.rb_base.specs.declared.shape.Shape.{Shape}
use Rattle.rb_base.specs.declared.store.Store.{Ghosts}
use Rattle.rb_model.specs.NextState.{with_own}
use Rattle.rb_model.specs.Dead.{all_gone, all_slots, dead_at, gone, swept, swept_at, swept_count, swept_from, without}
use Rattle.rb_dead.proofs.Leads.{fails_on, leads_none, leads_on}
use Rattle.rb_dead.proofs.Slots.{few_changes}
use Rattle.rb_dead.specs.Takes.{Gives, HasDead, Leads, Sweeps, Takes}
use Rattle.rb_model.specs.Calls.{Call}
use Rattle.rb_model.specs.State.{State, session_own}
use Rattle.rb_rollback.specs.Backs.{Fails}
use Rattle.rb_sessions.specs.Kept.{KeptSession}

-- Where no more changes are there than may be taken, the transaction goes whole.
taken_whole : (k t : ℕ) (h : State) (o : Option ℕ) → ((d : ℕ) → o ≡ Some d → length (session_own h d) ≤ k) → swept_at k t o h ≡ gone (λ h d. true) t o h
taken_whole k t h None few = refl
taken_whole k t h (Some d) few =
    let le = few d refl in
    let none : length (session_own h d) - min k (length (session_own h d)) ≡ 0 = omega (arith, le) in
    cond-true (length (session_own h d) - min k (length (session_own h d)) == 0) (without t d h) (with_own h d (take (length (session_own h d) - min k (length (session_own h d))) (session_own h d))) (eq-eqb (length (session_own h d) - min k (length (session_own h d))) 0 none)

-- the slots from t on, of which the first one is done
gone_on : (k t u v n n2 : ℕ) (h : State) → u ≡ t → t + 1 ≡ v → n ≡ suc n2 → swept_at k t (dead_at h t) h ≡ gone (λ h d. true) t (dead_at h t) h → all_gone (λ h d. true) (range_with_len u n) h ≡ all_gone (λ h d. true) (range_with_len v n2) (swept_at k t (dead_at h t) h)
gone_on k t u v n n2 h at next more whole =
    ap (λ (z : ℕ). all_gone (λ h d. true) (range_with_len z n) h) at
    ∙ ap (λ (z : ℕ). all_gone (λ h d. true) (range_with_len t z) h) more
    ∙ ap (all_gone (λ h d. true) (range_with_len (t + 1) n2)) (sym whole)
    ∙ ap (λ (z : ℕ). all_gone (λ h d. true) (range_with_len z n2) (swept_at k t (dead_at h t) h)) next

swept_on : (k t n n2 : ℕ) (h : State) → n ≡ suc n2 → swept k (range_with_len t n) h ≡ swept (k - swept_from k h (dead_at h t)) (range_with_len (t + 1) n2) (swept_at k t (dead_at h t) h)
swept_on k t n n2 h more = ap (λ (z : ℕ). swept k (range_with_len t z) h) more

count_on : (k t n n2 : ℕ) (h : State) → n ≡ suc n2 → swept_count k (range_with_len t n) h ≡ swept_from k h (dead_at h t) + swept_count (k - swept_from k h (dead_at h t)) (range_with_len (t + 1) n2) (swept_at k t (dead_at h t) h)
count_on k t n n2 h more = ap (λ (z : ℕ). swept_count k (range_with_len t z) h) more

module _ {S : Type 0} (s : Ghosts S) where
  -- No call gives no group.
  pub gives_none : (owed : ℕ) (store : S) → s.failed store ≡ false → Gives s owed owed store store true
  gives_none owed store going = ([], no_logs s store going, omega arith, λ goes. omega arith)

  -- One after another.
  pub gives_on : (owed between left : ℕ) (old mid new : S) (going : Bool) → Gives s owed between old mid true → Gives s between left mid new going → Gives s owed left old new going
  gives_on owed between left old mid new going first second =
      let n = length-append first.0 second.0 in
      let all = first.3 refl in
      let few = second.2 in
      (first.0 ++ second.0, more_logs s old mid new first.0 second.0 going first.1 second.1, omega (arith, n, all, few), λ goes. let rest = second.3 goes in omega (arith, n, all, rest))

  module _ (sessions : List KeptSession) (owed : ℕ) (old : S) where
    -- After i of n slots from slot a on, of which all the dead go.
    abbrev pub Clears : (a n i left : ℕ) → S → Type 0
    Clears a n i left mid = s.tells → (h : State) (xids : List Xid) → HasDead s h xids sessions owed old → (m : State) × Leads s h m xids sessions left old mid × (all_gone (λ h d. true) (range_with_len a n) h ≡ all_gone (λ h d. true) (range_with_len (a + i) (n - i)) m)

    -- After t of n slots, with so many changes of a sweep still to take.
    abbrev pub Sweeping : (most n t rest left : ℕ) → S → Type 0
    Sweeping most n t rest left mid = s.tells → (h : State) (xids : List Xid) → HasDead s h xids sessions owed old → (m : State) × Leads s h m xids sessions left old mid × (swept most (all_slots h) h ≡ swept rest (range_with_len t (n - t)) m) × (swept_count most (all_slots h) h ≡ (most - rest) + swept_count rest (range_with_len t (n - t)) m)

    module _ (between left : ℕ) (mid new : S) (slots : s.slots mid ≡ s.slots old) where
      -- the call on a slot that comes next
      abbrev Next : (most u taken : ℕ) → Type 0
      Next most u taken = s.tells → (h : State) (xids : List Xid) → HasDead s h xids sessions between mid → Takes s h xids sessions most u left mid new (Ok taken)

      -- the call that comes next, which failed
      abbrev NextFails : Type 0
      NextFails = s.tells → (h : State) (xids : List Xid) → HasDead s h xids sessions between mid → (kind : Option Call) → Fails s kind h mid new

      -- One slot more, whose dead transaction goes whole.
      pub clears_on : (a n i most taken : ℕ) → Clears a n i between mid → i < n → 2 ^ 32 ≤ most + 1 → Next most (a + i) taken → Clears a n (i + 1) left new
      clears_on a n i most taken first less much next told h xids has =
          let so = first told h xids has in
          let m = so.0 in
          let two = next told m xids so.1.has in
          let few : (d : ℕ) → dead_at m (a + i) ≡ Some d → length (session_own m d) ≤ most = λ d at. (let lt = few_changes m xids (s.blocks mid) so.1.has.holds.blocks (a + i) d at in omega (arith, lt, much)) in (
            swept_at most (a + i) (dead_at m (a + i)) m,
            leads_on s h xids sessions m (swept_at most (a + i) (dead_at m (a + i)) m) between left old mid new has.going slots so.1 two.1,
            so.2 ∙ gone_on most (a + i) (a + i) (a + (i + 1)) (n - i) (n - (i + 1)) m refl (omega arith) (omega (arith, less)) (taken_whole most (a + i) m (dead_at m (a + i)) few),
          )

      -- The call on the next slot fails.
      pub clears_fails : (a n i : ℕ) → Clears a n i between mid → NextFails → s.tells → (h : State) (xids : List Xid) → HasDead s h xids sessions owed old → (kind : Option Call) → Fails s kind h old new
      clears_fails a n i first next told h xids has =
          let so = first told h xids has in
          fails_on s h xids sessions so.0 so.1.rest between old mid new has.going slots so.1 (next told so.0 xids so.1.has)

      -- One slot more, of which a sweep takes what it has left to take.
      pub sweeping_on : (most n t u rest taken : ℕ) → Sweeping most n t rest between mid → t < n → u ≡ t → rest ≤ most → taken ≤ rest → Next rest u taken → Sweeping most n (t + 1) (rest - taken) left new
      sweeping_on most n t u rest taken first less at few part next told h xids has =
          let so = first told h xids has in
          let m = so.0 in
          let two = subst (λ (z : ℕ). Takes s m xids sessions rest z left mid new (Ok taken)) at (next told m xids so.1.has) in
          let more : n - t ≡ suc (n - (t + 1)) = omega (arith, less) in
          let after = swept_at rest t (dead_at m t) m in
          let count = count_on rest t (n - t) (n - (t + 1)) m more ∙ ap (λ (z : ℕ). z + swept_count (rest - z) (range_with_len (t + 1) (n - (t + 1))) after) (sym two.0) in
          let sum = so.3 in (
            after,
            leads_on s h xids sessions m after between left old mid new has.going slots so.1 two.1,
            so.2 ∙ swept_on rest t (n - t) (n - (t + 1)) m more ∙ ap (λ (z : ℕ). swept (rest - z) (range_with_len (t + 1) (n - (t + 1))) after) (sym two.0),
            omega (arith, sum, count, few, part),
          )

      -- The call on the next slot fails.
      pub sweeping_fails : (most n t rest : ℕ) → Sweeping most n t rest between mid → NextFails → s.tells → (h : State) (xids : List Xid) → HasDead s h xids sessions owed old → (kind : Option Call) → Fails s kind h old new
      sweeping_fails most n t rest first next told h xids has =
          let so = first told h xids has in
          fails_on s h xids sessions so.0 so.1.rest between old mid new has.going slots so.1 (next told so.0 xids so.1.has)

    module _ (laws : Laws s) (going : s.failed old ≡ false) where
      -- Before the first slot.
      pub clears_none : (a n : ℕ) → Clears a n 0 owed old
      clears_none a n told h xids has = (
        h,
        leads_none s h xids sessions told laws owed old old has (no_logs s old going),
        ap (λ (z : ℕ). all_gone (λ h d. true) (range_with_len z n) h) (let e : a ≡ a + 0 = omega arith in e) ∙ ap (λ (z : ℕ). all_gone (λ h d. true) (range_with_len (a + 0) z) h) (let e : n ≡ n - 0 = omega arith in e),
      )

      -- Before the first slot.
      pub sweeping_none : (most n : ℕ) → n ≡ (s.shape_of old).segments * 16 → Sweeping most n 0 most owed old
      sweeping_none most n is told h xids has =
          let shape = ap (λ (z : Shape). z.segments) has.shape in
          let all : 16 * h.shape.segments ≡ n - 0 = omega (arith, is, shape) in
          let count = ap (λ (z : ℕ). swept_count most (range_with_len 0 z) h) all in
          (h, leads_none s h xids sessions told laws owed old old has (no_logs s old going), ap (λ (z : ℕ). swept most (range_with_len 0 z) h) all, omega (arith, count))

    -- After the last slot.
    pub clears_done : (a n i left : ℕ) (new : S) → Clears a n i left new → i ≡ n → s.tells → (h : State) (xids : List Xid) → HasDead s h xids sessions owed old → Leads s h (all_gone (λ h d. true) (range_with_len a n) h) xids sessions left old new
    clears_done a n i left new first done told h xids has =
        let so = first told h xids has in
        let none : n - i ≡ 0 = omega (arith, done) in
        let last = so.2 ∙ ap (λ (z : ℕ). all_gone (λ h d. true) (range_with_len (a + i) z) so.0) none in
        subst (λ (z : State). Leads s h z xids sessions left old new) (sym last) so.1

    -- After the last slot.
    pub sweeping_done : (most n t rest left : ℕ) (new : S) → Sweeping most n t rest left new → t ≡ n → s.tells → (h : State) (xids : List Xid) → HasDead s h xids sessions owed old → Sweeps s h xids sessions most left old new (Ok (most - rest))
    sweeping_done most n t rest left new first done told h xids has =
        let so = first told h xids has in
        let none : n - t ≡ 0 = omega (arith, done) in
        let last = so.2 ∙ ap (λ (z : ℕ). swept rest (range_with_len t z) so.0) none in
        let count : swept_count rest (range_with_len t (n - t)) so.0 ≡ 0 = ap (λ (z : ℕ). swept_count rest (range_with_len t z) so.0) none in
        let sum = so.3 in
        (omega (arith, sum, count), subst (λ (z : State). Leads s h z xids sessions left old new) (sym last) so.1)

    -- A sweep that failed.
    pub sweep_fails : (h : State) (xids : List Xid) (most left : ℕ) (new : S) (result : Result ℕ Failed) → is_err result ≡ true → ((kind : Option Call) → Fails s kind h old new) → Sweeps s h xids sessions most left old new result
    sweep_fails h xids most left new (Ok n) is fails = absurd cc
    sweep_fails h xids most left new (Err fault) is fails = fails
