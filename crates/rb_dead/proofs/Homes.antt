-- A home that is cleared of the dead, one dead transaction after another.
use Rattle.std.proofs.Common.{◌≡◌, inl, inr, ◌<◌, ◌≤◌, ◌+◌, ◌-◌, ◌*◌, ◌/◌, ◌%◌, ◌==◌, ◌++◌, min, ℕ, zero, suc, Bool, true, false, List, [], length, length-append, take, Option, Some, Ok, IfSome, refl, sym, ◌∙◌, ap, subst, arith}
use Rattle.std.proofs.lemmas.Bool.{cases_Bool, cases_eq, cond-true, eq-eqb}
use Rattle.std.proofs.lemmas.List.Sums.{sum_by-cons}
use Rattle.std.specs.List.{range_with_len, sum_by}
use Rattle.rb_base.specs.Blocks.{home_block}
use Rattle.rb_base.specs.Groups.{Patch}
use Rattle.rb_base.specs.Logs.{Laws, Logs, more_logs, no_logs}
use Rattle.rb_base.specs.declared.ids.Xid.{Xid}
use Rattle.rb_base.specs.declared.shape.Shape.{Shape}
use Rattle.rb_base.specs.declared.sizes.TheConstants.{SLOTS}
use Rattle.rb_base.specs.declared.store.Store.{Ghosts}
use Rattle.rb_itl.specs.declared.slots.Entry.{Entry}
use Rattle.rb_itl.specs.declared.slots.TheConstants.{ENTRIES}
use Rattle.rb_model.specs.Calls.{Call}
use Rattle.rb_model.specs.State.{State, session_own}
use Rattle.rb_rollback.proofs.Backs.{survives_same}
use Rattle.rb_rollback.specs.Backs.{Fails}
use Rattle.rb_sessions.specs.Kept.{KeptSession}
use Rattle.rb_model.specs.NextState.{with_own}
use Rattle.law_blocks.specs.Standing.{env_of}
use Rattle.law_blocks.specs.States.{BlocksStand, Owns}
use Rattle.law_dead.proofs.Cleared.{goes_first, none_is_left}
use Rattle.law_dead.proofs.Entries.{dead_has, is_dead_one}
use Rattle.rb_model.specs.Dead.{dead_at, dead_owed, dead_owed_at, home_cleared, swept_at, without, works_at}
use Rattle.law_dead.specs.Entries.{IsLiving, Runs, entry_of_key}
use Rattle.law_dead.specs.Laws.{OwnsOne}
use Rattle.law_sessions.specs.Views.{Remembers}
use Rattle.rb_dead.proofs.Gone.{whole_owed}
use Rattle.rb_dead.proofs.Leads.{fails_on, leads_none, leads_on}
use Rattle.rb_dead.proofs.Slots.{few_changes, look_same}
use Rattle.rb_dead.specs.Entries.{IsDeadEntry, entry_at}
use Rattle.rb_dead.specs.Takes.{Gives, HasDead, Leads, LeadsTo, Takes}

-- one of so many is in their sum
in_sum : (f : ℕ → ℕ) (a n t : ℕ) → a ≤ t → t < a + n → f t ≤ sum_by f (range_with_len a n)
in_sum f a zero t low high = absurd (omega (arith, low, high))
in_sum f a (suc n) t low high =
    let all = sum_by-cons f a (range_with_len (a + 1) n) in
    elim (cases_eq a t) [
      | inl at ↦ let here = ap f at in omega (arith, all, here)
      | inr ne ↦ let rest = in_sum f (a + 1) n t (omega (arith, low, ne)) (omega (arith, high)) in omega (arith, all, rest)
    ]

-- where none is owed nothing is cleared
pub none_owed_cleared : (h : State) (table key : ℕ) → dead_owed h ≡ 0 → home_cleared table key h ≡ h
none_owed_cleared h table key none = none_is_left table key h (λ t d t_in dead.
    let part = in_sum (λ (u : ℕ). dead_owed_at h (dead_at h u)) 0 (16 * h.shape.segments) t (omega arith) (omega (arith, t_in)) in
    let one : dead_owed_at h (dead_at h t) ≡ length (session_own h d) + 1 = ap (dead_owed_at h) dead in
    absurd (omega (arith, none, part, one)))

-- as many taken as there are takes all
pub taken_whole : (h : State) (most t d : ℕ) → length (session_own h d) ≤ most → dead_at h t ≡ Some d → swept_at most t (dead_at h t) h ≡ without t d h
taken_whole h most t d few dead =
    ap (λ (o : Option ℕ). swept_at most t o h) dead
    ∙ cond-true (length (session_own h d) - min most (length (session_own h d)) == 0) (without t d h) (with_own h d (take (length (session_own h d) - min most (length (session_own h d))) (session_own h d)))
    (eq-eqb (length (session_own h d) - min most (length (session_own h d))) 0 (omega (arith, few)))

pub owns_one : (h : State) (xids : List Xid) (blocks : List (List ℕ)) → BlocksStand h xids blocks → OwnsOne h
owns_one h xids blocks stand = record { there = stand.tell.owner_there; one_slot = stand.tell.one_slot }

-- what is found in a home: the entry of a dead transaction
abbrev pub FoundEntry : List KeptSession → Shape → List (List ℕ) → (b : ℕ) → Xid → Type 0
FoundEntry sessions shape blocks b x = (i : ℕ) × (i < ENTRIES) × IsDeadEntry sessions shape blocks (entry_at blocks b i) × ((entry_at blocks b i).xid ≡ x)

-- or none
abbrev pub NoEntry : List KeptSession → Shape → List (List ℕ) → (b : ℕ) → Type 0
NoEntry sessions shape blocks b = (i : ℕ) → i < ENTRIES → ¬ IsDeadEntry sessions shape blocks (entry_at blocks b i)

module _ (h : State) (xids : List Xid) (blocks : List (List ℕ)) (sessions : List KeptSession) (table key : ℕ) (stand : BlocksStand h xids blocks) (remembers : Remembers h xids (env_of h.shape blocks) sessions) (first : 1 ≤ table) (last : table ≤ h.shape.tables) where
  abbrev E : ℕ → Entry
  E = entry_of_key h blocks table key

  -- The entry that is found is that of a dead one with a live change there.
  pub found_works : (x : Xid) → FoundEntry sessions h.shape blocks (home_block h.shape table key) x → (d : ℕ) × (dead_at h (SLOTS * x.seg + x.slot) ≡ Some d) × (works_at table key h d ≡ true) × (SLOTS * x.seg + x.slot < 16 * h.shape.segments)
  found_works x found =
      let i = found.0 in
      let is = found.2 in
      let named : (E i).xid ≡ x = found.3 in
      let runs : Runs h blocks table key i = record { within = found.1; opened = is.opened; active = sym (look_same h.shape blocks (E i).xid is.segment is.slot) ∙ is.active } in
      let nobody : IsLiving h blocks (E i).xid → ⊥ = λ living. is.nobody living.0 living.2 living.3 ((remembers.each living.0 living.2 living.3).id.owns living.1 living.4 ∙ ap (λ (y : Xid). Some y) (sym living.5)) in
      let one : (t : ℕ) × (d : ℕ) × (dead_at h t ≡ Some d) × (works_at table key h d ≡ true) × ((E i).xid ≡ (env_of h.shape blocks).xid t) = is_dead_one h xids blocks table key stand first last i runs nobody in
      let seg : x.seg ≡ one.0 / 16 = ap (λ (y : Xid). y.seg) (sym named ∙ one.4) in
      let slot : x.slot ≡ one.0 % 16 = ap (λ (y : Xid). y.slot) (sym named ∙ one.4) in
      let at : one.0 ≡ SLOTS * x.seg + x.slot = omega (arith, seg, slot) in
      let there : x.seg < h.shape.segments = subst (λ (y : Xid). y.seg < h.shape.segments) named is.segment in
      let few : x.slot < SLOTS = subst (λ (y : Xid). y.slot < SLOTS) named is.slot in
      (one.1, ap (dead_at h) (sym at) ∙ one.2, one.3, omega (arith, there, few))

  -- Where none is found none has one there, so nothing is cleared.
  pub none_found : NoEntry sessions h.shape blocks (home_block h.shape table key) → home_cleared table key h ≡ h
  none_found none = none_is_left table key h (λ t d t_in dead. elim (cases_Bool (works_at table key h d)) [
    | inr idle ↦ idle
    | inl works ↦
        let has : (i : ℕ) × Runs h blocks table key i × ((E i).xid ≡ (env_of h.shape blocks).xid t) × (IsLiving h blocks (E i).xid → ⊥) = dead_has h xids blocks table key stand first last t d dead works in
        let i = has.0 in
        let seg : (E i).xid.seg ≡ t / 16 = ap (λ (y : Xid). y.seg) has.2 in
        let slot : (E i).xid.slot ≡ t % 16 = ap (λ (y : Xid). y.slot) has.2 in
        let there : (E i).xid.seg < h.shape.segments = omega (arith, seg, t_in) in
        let few : (E i).xid.slot < SLOTS = omega (arith, slot) in
        absurd (none i has.1.within (record {
          opened = has.1.opened;
          segment = there;
          slot = few;
          active = look_same h.shape blocks (E i).xid there few ∙ has.1.active;
          nobody = λ k low high own. let f : (u : ℕ) × Owns h k u × ((E i).xid ≡ (env_of h.shape blocks).xid u) = (remembers.each k low high).id.owned (E i).xid own in has.3 (k, f.0, low, high, f.1, f.2);
        }))
  ])

module _ {S : Type 0} (s : Ghosts S) (sessions : List KeptSession) (which : ℕ) where
  -- Groups were given, and they led to a state from which the same is cleared.
  pub record Clears (owed left : ℕ) (old now : S) : Type 0 where
    pub groups : List (List Patch)
    pub logs : Logs s old now groups true
    pub all : length groups + left ≡ owed
    pub leads : s.tells → (h : State) (xids : List Xid) (table key : ℕ) → 1 ≤ table → table ≤ h.shape.tables → which ≡ home_block h.shape table key → HasDead s h xids sessions owed old → (m : State) × Leads s h m xids sessions left old now × (home_cleared table key m ≡ home_cleared table key h)

  -- Before the first.
  pub none_cleared : Laws s → (owed : ℕ) (old : S) → s.failed old ≡ false → Clears owed owed old old
  none_cleared laws owed old going = record {
    groups = [];
    logs = no_logs s old going;
    all = omega arith;
    leads = λ told h xids table key first last is has. (h, leads_none s h xids sessions told laws owed old old has (no_logs s old going), refl);
  }

  -- what calls that gave no group gave
  pub gives_none : (owed : ℕ) (old now : S) (going : Bool) → Logs s old now [] going → Gives s owed owed old now going
  gives_none owed old now going logs = ([], logs, omega arith, λ goes. omega arith)

  module _ (owed left : ℕ) (old mid : S) (before : Clears owed left old mid) where
    -- the groups of one call more
    pub gives_more : (left2 : ℕ) (new : S) (going : Bool) → Gives s left left2 mid new going → Gives s owed left2 old new going
    gives_more left2 new going more =
        let long = length-append before.groups more.0 in
        (before.groups ++ more.0, more_logs s old mid new before.groups more.0 going before.logs more.1, omega (arith, long, before.all, more.2), λ goes. let all = more.3 goes in omega (arith, long, before.all, all))

    -- For a state there is one that the calls led to, with which the next calls go on.
    module _ (told : s.tells) (h : State) (xids : List Xid) (table key : ℕ) (first : 1 ≤ table) (last : table ≤ h.shape.tables) (is : which ≡ home_block h.shape table key) (has : HasDead s h xids sessions owed old) where
      abbrev M : State
      M = (before.leads told h xids table key first last is has).0

      abbrev To : Leads s h M xids sessions left old mid
      To = (before.leads told h xids table key first last is has).1

      last_there : table ≤ M.shape.tables
      last_there = subst (λ (z : Shape). table ≤ z.tables) (sym To.rest.shape) last

      is_there : which ≡ home_block M.shape table key
      is_there = is ∙ ap (λ (z : Shape). home_block z table key) (sym To.rest.shape)

      pub led_on : (m2 : State) (left2 : ℕ) (new : S) → Leads s M m2 xids sessions left2 mid new → Leads s h m2 xids sessions left2 old new
      led_on m2 left2 new then_to = leads_on s h xids sessions M m2 left left2 old mid new has.going before.logs.same_slots To then_to

      pub led_fails : (new : S) → ((fault : Option Call) → Fails s fault M mid new) → (fault : Option Call) → Fails s fault h old new
      led_fails new fails = fails_on s h xids sessions M To.rest left old mid new has.going before.logs.same_slots To fails

    -- one call more that cleared something
    pub clears_more : (left2 : ℕ) (new : S) → Clears left left2 mid new → Clears owed left2 old new
    clears_more left2 new more = record {
      groups = before.groups ++ more.groups;
      logs = more_logs s old mid new before.groups more.groups true before.logs more.logs;
      all = (let long = length-append before.groups more.groups in omega (arith, long, before.all, more.all));
      leads = λ told h xids table key first last is has.
          let led = more.leads told (M told h xids table key first last is has) xids table key first (last_there told h xids table key first last is has) (is_there told h xids table key first last is has) (To told h xids table key first last is has).has in (
            led.0,
            led_on told h xids table key first last is has led.0 left2 new led.1,
            led.2 ∙ (before.leads told h xids table key first last is has).2,
          );
    }

    -- a call that failed
    pub cleared_fails : (left2 : ℕ) (new : S) → (s.tells → (m : State) (xids : List Xid) → HasDead s m xids sessions left mid → (fault : Option Call) → Fails s fault m mid new)
        → s.tells → (h : State) (xids : List Xid) (table key : ℕ) → 1 ≤ table → table ≤ h.shape.tables → which ≡ home_block h.shape table key → HasDead s h xids sessions owed old → LeadsTo s h (home_cleared table key h) xids sessions left2 old new false
    cleared_fails left2 new fails told h xids table key first last is has = led_fails told h xids table key first last is has new (fails told (M told h xids table key first last is has) xids (To told h xids table key first last is has).has)

    -- a call behind which nothing is left
    pub cleared_all : Laws s → (new : S) → Logs s mid new [] true → (s.tells → (m : State) (xids : List Xid) (table key : ℕ) → 1 ≤ table → table ≤ m.shape.tables → which ≡ home_block m.shape table key → HasDead s m xids sessions left mid → home_cleared table key m ≡ m)
        → s.tells → (h : State) (xids : List Xid) (table key : ℕ) → 1 ≤ table → table ≤ h.shape.tables → which ≡ home_block h.shape table key → HasDead s h xids sessions owed old → Leads s h (home_cleared table key h) xids sessions left old new
    cleared_all laws new logs none told h xids table key first last is has =
        let m = M told h xids table key first last is has in
        let to = To told h xids table key first last is has in
        let same : m ≡ home_cleared table key h = sym (none told m xids table key first (last_there told h xids table key first last is has) (is_there told h xids table key first last is has) to.has) ∙ (before.leads told h xids table key first last is has).2 in
        subst (λ (z : State). Leads s h z xids sessions left old new) same
        (led_on told h xids table key first last is has m left new (leads_none s m xids sessions told laws left mid new to.has logs))

    -- What is less can't be more.
    pub never_more : (left2 : ℕ) → (s.tells → (m : State) (xids : List Xid) (table key : ℕ) → 1 ≤ table → table ≤ m.shape.tables → which ≡ home_block m.shape table key → HasDead s m xids sessions left mid → left2 < left) → left ≤ left2
        → s.tells → (h : State) (xids : List Xid) (table key : ℕ) → 1 ≤ table → table ≤ h.shape.tables → which ≡ home_block h.shape table key → HasDead s h xids sessions owed old → ⊥
    never_more left2 less more told h xids table key first last is has =
        let lower = less told (M told h xids table key first last is has) xids table key first (last_there told h xids table key first last is has) (is_there told h xids table key first last is has) (To told h xids table key first last is has).has in
        omega (arith, lower, more)

  -- a call that gave no group, and failed
  pub none_fails : Laws s → (owed : ℕ) (old new : S) → Logs s old new [] false → s.tells → (h : State) (xids : List Xid) → HasDead s h xids sessions owed old → (fault : Option Call) → Fails s fault h old new
  none_fails laws owed old new logs told h xids has fault keeps = survives_same s told laws h (record h { stopped = true }) xids old new false has.shape refl refl refl refl has.holds logs keeps

  pub read_clears : Laws s → (owed : ℕ) (old new : S) → Logs s old new [] true → Clears owed owed old new
  read_clears laws owed old new logs = record {
    groups = [];
    logs = logs;
    all = omega arith;
    leads = λ told h xids table key first last is has. (h, leads_none s h xids sessions told laws owed old new has logs, refl);
  }

  -- nothing is found, by what the store has
  pub none_left : (owed : ℕ) (old : S) → NoEntry sessions (s.shape_of old) (s.blocks old) which → (h : State) (xids : List Xid) (table key : ℕ) → 1 ≤ table → table ≤ h.shape.tables → which ≡ home_block h.shape table key → HasDead s h xids sessions owed old → home_cleared table key h ≡ h
  none_left owed old none h xids table key first last is has =
      none_found h xids (s.blocks old) sessions table key has.holds.blocks has.remembers first last
      (subst (λ (z : Shape). NoEntry sessions z (s.blocks old) (home_block h.shape table key)) has.shape
      (subst (λ (n : ℕ). NoEntry sessions (s.shape_of old) (s.blocks old) n) is none))

  -- One is found, and taken whole.
  module _ (laws : Laws s) (owed left n most : ℕ) (old mid new : S) (x : Xid) (logs : Logs s old mid [] true) (found : s.tells → FoundEntry sessions (s.shape_of old) (s.blocks old) which x) (most_is : 320 ≤ most)
      (took : s.tells → (h : State) (xids : List Xid) → HasDead s h xids sessions owed mid → Takes s h xids sessions most (SLOTS * x.seg + x.slot) left mid new (Ok n)) where
    abbrev T : ℕ
    T = SLOTS * x.seg + x.slot

    -- how a state goes on
    record Goes (h : State) (xids : List Xid) (table key : ℕ) : Type 0 where
      who : ℕ
      dead : dead_at h T ≡ Some who
      works : works_at table key h who ≡ true
      within : T < 16 * h.shape.segments
      leads : Leads s h (without T who h) xids sessions left old new

    goes : s.tells → (h : State) (xids : List Xid) (table key : ℕ) → 1 ≤ table → table ≤ h.shape.tables → which ≡ home_block h.shape table key → HasDead s h xids sessions owed old → Goes h xids table key
    goes told h xids table key first last is has =
        let there : FoundEntry sessions h.shape (s.blocks old) (home_block h.shape table key) x =
        subst (λ (z : Shape). FoundEntry sessions z (s.blocks old) (home_block h.shape table key) x) has.shape
        (subst (λ (k : ℕ). FoundEntry sessions (s.shape_of old) (s.blocks old) k x) is (found told)) in
        let one = found_works h xids (s.blocks old) sessions table key has.holds.blocks has.remembers first last x there in
        let read = leads_none s h xids sessions told laws owed old mid has logs in
        let few = few_changes h xids (s.blocks old) has.holds.blocks T one.0 one.1 in
        let whole : swept_at most T (dead_at h T) h ≡ without T one.0 h = taken_whole h most T one.0 (omega (arith, few, most_is)) one.1 in
        record {
          who = one.0;
          dead = one.1;
          works = one.2;
          within = one.3;
          leads = subst (λ (z : State). Leads s h z xids sessions left old new) whole
              (leads_on s h xids sessions h (swept_at most T (dead_at h T) h) owed left old mid new has.going logs.same_slots read (took told h xids read.has).1);
        }

    pub taken_clears : Gives s owed left mid new true → Clears owed left old new
    taken_clears gives = record {
      groups = [] ++ gives.0;
      logs = more_logs s old mid new [] gives.0 true logs gives.1;
      all = gives.3 refl;
      leads = λ told h xids table key first last is has.
          let g = goes told h xids table key first last is has in
          (without T g.who h, g.leads, goes_first table key h T g.who (owns_one h xids (s.blocks old) has.holds.blocks) g.within g.dead g.works);
    }

    -- less is owed then
    pub less_owed : s.tells → (h : State) (xids : List Xid) (table key : ℕ) → 1 ≤ table → table ≤ h.shape.tables → which ≡ home_block h.shape table key → HasDead s h xids sessions owed old → left < owed
    less_owed told h xids table key first last is has =
        let g = goes told h xids table key first last is has in
        let less = whole_owed h xids (s.blocks old) has.holds.blocks T g.who g.dead in
        let now = g.leads.has.all in
        let was = has.all in
        omega (arith, less, now, was)

  -- what is found of some is found of the one
  pub found_of : (shape : Shape) (blocks : List (List ℕ)) (o : Option Xid) (x : Xid) → o ≡ Some x → IfSome o (FoundEntry sessions shape blocks which) → FoundEntry sessions shape blocks which x
  found_of shape blocks o x is found = subst (λ (z : Option Xid). IfSome z (FoundEntry sessions shape blocks which)) is found
