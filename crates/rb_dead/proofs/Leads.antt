-- Calls that put back the dead, one after another.
use Rattle.std.proofs.Common.{◌≡◌, ◌≤◌, ◌+◌, ◌-◌, ⊎_elim, ℕ, zero, suc, true, false, List, [], Option, Some, None, refl, sym, ◌∙◌, subst, arith}
use Rattle.rb_base.specs.Logs.{Laws, Logs}
use Rattle.rb_base.specs.Moments.{weaker}
use Rattle.rb_base.specs.declared.ids.Xid.{Xid}
use Rattle.rb_base.specs.declared.shape.Shape.{Shape}
use Rattle.rb_base.specs.declared.store.Store.{Ghosts}
use Rattle.law_aging.proofs.Aging as aging
use Rattle.law_aging.specs.Kept.{SegmentsAge}
use Rattle.law_blocks.specs.Standing.{env_of, segments_of}
use Rattle.law_crash.proofs.Crashes.{extends_same, grow_same, restarts_later, some_restarts, survives_on, whole_after}
use Rattle.law_crash.specs.Between.{Extends, MarksGrow, at_end, reached, up_to}
use Rattle.law_crash.specs.Crash.{AtEnd, OnTheWay, Survives}
use Rattle.rb_model.specs.Dead.{dead_owed}
use Rattle.law_sessions.specs.Views.{Remembers}
use Rattle.law_crash.specs.Made.{BackBy}
use Rattle.rb_dead.specs.Takes.{HasDead, Leads}
use Rattle.rb_model.specs.Dead.{KeepsRest}
use Rattle.rb_model.proofs.DeadLemmas.{rest_on, rest_same}
use Rattle.rb_model.specs.Calls.{Call}
use Rattle.rb_model.specs.Rows.{Commits, last_scn}
use Rattle.rb_model.specs.State.{State}
use Rattle.rb_rollback.proofs.Backs.{holds_logged, survives_same}
use Rattle.rb_rollback.specs.Backs.{Fails}
use Rattle.rb_sessions.specs.Kept.{KeptSession}

pub back_joined : (shape : Shape) (n m k : ℕ) (a b c : List (List ℕ)) → k ≡ n + m → BackBy shape n a b → BackBy shape m b c → BackBy shape k a c
back_joined shape zero m k a b c is first second =
    let same : m ≡ k = omega (arith, is) in
    subst (λ (z : ℕ). BackBy shape z a c) same (subst (λ (z : List (List ℕ)). BackBy shape m z c) first second)
back_joined shape (suc n) m zero a b c is first second = absurd (omega (arith, is))
back_joined shape (suc n) m (suc k) a b c is (mid, t, one, rest) second = (mid, t, one, back_joined shape n m k mid b c (omega (arith, is)) rest second)

rest_grows : (h h2 : State) → KeepsRest h h2 → MarksGrow h2.shape h2.books h.books
rest_grows h h2 rest = record { writes = λ g lt. let e = (rest.marks g).0 in omega (arith, e); lost = λ g lt. let e = (rest.marks g).1 in omega (arith, e) }

module _ {S : Type 0} (s : Ghosts S) (h : State) (xids : List Xid) (sessions : List KeptSession) where
  -- none goes
  pub leads_none : (told : s.tells) (laws : Laws s) (owed : ℕ) (old new : S) → HasDead s h xids sessions owed old → Logs s old new [] true → Leads s h h xids sessions owed old new
  leads_none told laws owed old new has logs =
      let blocks : s.blocks new ≡ s.blocks old = logs.blocks told refl in
      let none : dead_owed h - dead_owed h ≡ 0 = omega arith in
      record {
        rest = rest_same h;
        has = record {
          shape = logs.same_shape ∙ has.shape;
          going = has.going;
          holds = holds_logged s told laws h xids old new has.holds logs;
          remembers = subst (λ (b : List (List ℕ)). Remembers h xids (env_of h.shape b) sessions) (sym blocks) has.remembers;
          all = has.all;
        };
        fewer = omega arith;
        lsn = let n = logs.number refl in omega (arith, n, none);
        back = subst (λ (n : ℕ). BackBy h.shape n (s.blocks old) (s.blocks new)) (sym none) blocks;
        survives = λ before keeps. survives_same s told laws h h xids old new true has.shape refl refl refl refl has.holds logs keeps;
        ages = subst (λ (b : List (List ℕ)). SegmentsAge (segments_of h.shape (s.blocks old)) (segments_of h.shape b)) (sym blocks) (aging.same (segments_of h.shape (s.blocks old)));
      }

  -- one after another
  pub leads_on : (h1 h2 : State) (owed left : ℕ) (old mid new : S) → h.stopped ≡ false → s.slots mid ≡ s.slots old → Leads s h h1 xids sessions owed old mid → Leads s h1 h2 xids sessions left mid new → Leads s h h2 xids sessions left old new
  leads_on h1 h2 owed left old mid new going slots first second =
      let shape : h1.shape ≡ h.shape = first.rest.shape in
      let n : (dead_owed h - dead_owed h1) + (dead_owed h1 - dead_owed h2) ≡ dead_owed h - dead_owed h2 = omega (arith, first.fewer, second.fewer) in
      record {
        rest = rest_on h h1 h2 first.rest second.rest;
        has = second.has;
        fewer = omega (arith, first.fewer, second.fewer);
        lsn = omega (arith, first.lsn, second.lsn, n);
        back = back_joined h.shape (dead_owed h - dead_owed h1) (dead_owed h1 - dead_owed h2) (dead_owed h - dead_owed h2) (s.blocks old) (s.blocks mid) (s.blocks new) (sym n) first.back (subst (λ (z : Shape). BackBy z (dead_owed h1 - dead_owed h2) (s.blocks mid) (s.blocks new)) shape second.back);
        survives = λ before keeps. survives_on s (s.slots old) h h1 h2 old mid new (first.rest.stopped ∙ going) (first.survives before keeps) (subst (λ (k : Option ℕ). Survives s k before h1 h2 mid new) slots (second.survives before keeps));
        ages = aging.joined (segments_of h.shape (s.blocks old)) (segments_of h.shape (s.blocks mid)) (segments_of h.shape (s.blocks new)) first.ages (subst (λ (z : Shape). SegmentsAge (segments_of z (s.blocks mid)) (segments_of z (s.blocks new))) shape second.ages);
      }

  -- Calls that went well, and then one that failed: no commit and no mark is other than it was.
  module _ (h1 : State) (rest : KeepsRest h h1) where
    abbrev X : State
    X = record h1 { stopped = true }

    abbrev Y : State
    Y = record h { stopped = true }

    stays : Extends X Y
    stays = extends_same X Y (sym rest.shape) (sym rest.commits) (rest_grows h h1 rest) (let e = rest.safe in omega (arith, e))

    at_last : (fault : Option Call) (slots : Option ℕ) (i : s.image) → AtEnd s.opens slots None X i → AtEnd s.opens slots fault Y i
    at_last fault slots i is = up_to (some_restarts s.opens slots X Y X.books Y.books i stays (let e = rest.safe in omega (arith, e)) (rest_grows h h1 rest)
        (whole_after s.opens slots None X i (λ u commit. ⊎_elim (λ a. no_call a) (λ b. no_call b) commit) (λ u table key action. no_call) is))
      where
        no_call : {c : Call} → None ≡ Some c → ⊥
        no_call e = cc

    on_the_way : (fault : Option Call) (slots : Option ℕ) (i : s.image) → OnTheWay s.opens slots None h X i → OnTheWay s.opens slots fault h Y i
    on_the_way fault slots i (reached n low high r) =
        let high_y : n ≤ last_scn Y.commits = subst (λ (c : Commits). n ≤ last_scn c) rest.commits high in
        reached n low high_y (restarts_later s.opens slots X Y X.books Y.books n i stays high (rest_grows h h1 rest) r)
    on_the_way fault slots i (at_end a) = at_end (at_last fault slots i a)

    pub fails_on : (owed : ℕ) (old mid new : S) → h.stopped ≡ false → s.slots mid ≡ s.slots old → Leads s h h1 xids sessions owed old mid → ((fault : Option Call) → Fails s fault h1 mid new) → (fault : Option Call) → Fails s fault h old new
    fails_on owed old mid new going slots first second fault keeps =
        let all : Survives s (s.slots old) None h X old new = survives_on s (s.slots old) h h1 X old mid new (rest.stopped ∙ going) (first.survives None keeps) (subst (λ (k : Option ℕ). Survives s k None h1 X mid new) slots (second None keeps)) in
        record {
          extends = extends_same h Y refl refl (grow_same h.shape h.books) (omega arith);
          any_moment = weaker s.moment s.left_since old new (OnTheWay s.opens (s.slots old) None h X) (OnTheWay s.opens (s.slots old) fault h Y) (λ i w. on_the_way fault (s.slots old) i w) all.any_moment;
          now_only = λ i left. at_last fault (s.slots old) i (all.now_only i left);
        }
