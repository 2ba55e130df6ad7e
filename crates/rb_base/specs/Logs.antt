-- Groups that calls gave to a store, one after another, and what a crash in the calls may leave. Above this crate a
-- `Logs` is built and joined by these lemmas alone.
use Rattle.std.specs.Prelude.{◌≡◌, ℕ, ◌+◌, ◌≤◌, Bool, true, false, not, refl}
use Rattle.std.specs.Prelude.{List, [], ◌∷◌, ◌++◌, length, take, Result, Ok, Err, OnOk}
use Rattle.std.specs.Result.{is_err}
use Rattle.std.proofs.Common.{append-nil, append_assoc, length-append, arith, sym, ap, subst, ◌∙◌}
use Rattle.rb_base.specs.Blocks.{after_group, after_groups}
use Rattle.rb_base.specs.Counts.{Rose, IsCounted}
use Rattle.rb_base.specs.Groups.{Patch}
use Rattle.rb_base.specs.Moments.{LeavesOnly, begun, weaker, joined}
use Rattle.rb_base.specs.Settling.{after_joined, settles_joined, some_front, some_later}
use Rattle.rb_base.specs.Stores.{OpensToSome, Settles}
use Rattle.rb_base.specs.declared.store.Store.{Ghosts}

-- the laws of `Store`, of the kind s of a store, as a proof hands them to a lemma
pub record Laws {S : Type 0} (s : Ghosts S) : Type 0 where
  pub stable_left : (store : S) (b : List (List ℕ)) (n : ℕ) (i : s.image) → s.keeps → s.stable store b n
      → s.left store i → s.opens (s.shape_of store) (s.slots store) i b n
  pub stable_numbered : (store : S) (b : List (List ℕ)) (n : ℕ) → s.keeps → s.stable store b n
      → n + length (s.pending store) ≡ s.lsn store
  pub stable_patched : (store : S) (b : List (List ℕ)) (n : ℕ) → s.keeps → s.stable store b n
      → s.blocks store ≡ after_groups (n + 1) (s.pending store) b
  pub now_counts : (store : S) (t : ℕ) (i : s.image) → s.keeps → t ≤ s.moment store → s.left store i
      → s.left_since store t i
  pub only_now : (store : S) (i : s.image) → s.keeps → s.left_since store (s.moment store) i → s.left store i
  pub holds_back_same : (store : S) → s.holds_back store store
  pub holds_back_joined : (a b c : S) → s.holds_back a b → s.holds_back b c → s.holds_back a c

-- Calls of a store of the kind s gave it these groups, in order: each has the next log number, and any of them may
-- have been made last. Where a call failed, some of them may be given, and the store is no more to be called. Where
-- none did, `Between` says more of the store before and after them.
pub record LogsBy {S : Type 0} (s : Ghosts S) (Between : S → S → Type 0) (old new : S) (groups : List (List Patch))
    (going : Bool) : Type 0 where
  pub same_shape : s.shape_of new ≡ s.shape_of old
  pub same_slots : s.slots new ≡ s.slots old
  pub failed : s.failed new ≡ not going
  pub no_less : s.faults old ≤ s.faults new
  pub cause : not going ≡ true → Rose (s.faults old) (s.faults new)
  pub still : going ≡ true → s.faults new ≡ s.faults old
  pub number : going ≡ true → s.lsn new ≡ s.lsn old + length groups
  pub blocks : s.tells → going ≡ true → s.blocks new ≡ after_groups (s.lsn old + 1) groups (s.blocks old)
  pub settles : s.keeps → going ≡ true → (b : List (List ℕ)) (n : ℕ) → s.stable old b n
      → Settles n (s.pending old ++ groups) b (s.stable new) (s.pending new)
  pub any_moment : s.keeps → Laws s → (b : List (List ℕ)) (n : ℕ) → s.stable old b n
      → LeavesOnly s.moment s.left_since old new
      (OpensToSome (s.opens (s.shape_of old) (s.slots old)) n (s.pending old ++ groups) b)
  pub between : going ≡ true → Laws s → Between old new

-- such calls that made no group last of themselves,
abbrev pub Logs : {S : Type 0} → Ghosts S → S → S → List (List Patch) → Bool → Type 0
Logs s old new groups going = LogsBy s s.holds_back old new groups going

-- and such of which some may have
abbrev pub Flushes : {S : Type 0} → Ghosts S → S → S → List (List Patch) → Bool → Type 0
Flushes s old new groups going = LogsBy s (λ a b. Unit {0}) old new groups going

-- the group of these patches, where there is one
abbrev pub group_of : List Patch → List (List Patch)
group_of [] = []
group_of (p ∷ patches) = (p ∷ patches) ∷ []

no_clash : {X : Type 0} → false ≡ true → X
no_clash is = cc

module _ {S : Type 0} (s : Ghosts S) where
  -- no call at all
  pub no_logs : (store : S) → s.failed store ≡ false → Logs s store store [] true
  no_logs store going = record {
    same_shape = refl;
    same_slots = refl;
    failed = going;
    no_less = omega arith;
    cause = no_clash;
    still = λ _. refl;
    number = λ _. omega arith;
    blocks = λ _ _. refl;
    settles = λ _ _ b n stable. record {
      count = 0;
      few = omega arith;
      settled = subst (s.stable store b) (omega arith) stable;
      waits = sym (append-nil (s.pending store));
    };
    any_moment = λ kept laws b n stable. begun s.moment s.left_since store
        (OpensToSome (s.opens (s.shape_of store) (s.slots store)) n (s.pending store ++ []) b)
        (λ i left. record {
          count = 0;
          few = omega arith;
          opening = subst (s.opens (s.shape_of store) (s.slots store) i b) (omega arith)
              (laws.stable_left store b n i kept stable (laws.only_now store i kept left));
        });
    between = λ _ laws. laws.holds_back_same store;
  }

  -- calls after others that went well
  more_by : (Between : S → S → Type 0) (old mid new : S)
      → (Laws s → Between old mid → Between mid new → Between old new)
      → (first second : List (List Patch)) (going : Bool) → LogsBy s Between old mid first true
      → LogsBy s Between mid new second going → LogsBy s Between old new (first ++ second) going
  more_by Between old mid new join first second going a b = record {
    same_shape = b.same_shape ∙ a.same_shape;
    same_slots = b.same_slots ∙ a.same_slots;
    failed = b.failed;
    no_less = omega (arith, a.no_less, b.no_less);
    cause = λ fails. rose (b.cause fails);
    still = λ goes. b.still goes ∙ a.still refl;
    number = λ goes. omega (arith, a.number refl, b.number goes, length-append first second);
    blocks = λ told goes. b.blocks told goes
        ∙ ap (λ (l : List (List ℕ)). after_groups (s.lsn mid + 1) second l) (a.blocks told refl)
        ∙ ap (λ (n : ℕ). after_groups n second (after_groups (s.lsn old + 1) first (s.blocks old)))
        (omega (arith, a.number refl))
        ∙ sym (after_joined (s.lsn old + 1) first second (s.blocks old));
    settles = λ kept goes l n stable.
        let settled = a.settles kept refl l n stable in
        subst (λ (given : List (List Patch)). Settles n given l (s.stable new) (s.pending new))
        (append_assoc (s.pending old) first second)
        (settles_joined n (s.pending old ++ first) second l (s.stable mid) (s.stable new) (s.pending mid)
        (s.pending new) settled (b.settles kept goes _ _ settled.settled));
    any_moment = λ kept laws l n stable. moments kept laws l n stable (a.settles kept refl l n stable);
    between = λ goes laws. join laws (a.between refl laws) (b.between goes laws);
  }
    where
      rose : Rose (s.faults mid) (s.faults new) → Rose (s.faults old) (s.faults new)
      rose up less = omega (arith, a.no_less, up less)

      opening : s.image → List (List ℕ) → ℕ → Type 0
      opening = s.opens (s.shape_of old) (s.slots old)

      moments : s.keeps → Laws s → (l : List (List ℕ)) (n : ℕ) → s.stable old l n
          → Settles n (s.pending old ++ first) l (s.stable mid) (s.pending mid)
          → LeavesOnly s.moment s.left_since old new (OpensToSome opening n (s.pending old ++ (first ++ second)) l)
      moments kept laws l n stable settled =
          let given = s.pending old ++ first in
          let made = after_groups (n + 1) (take settled.count given) l in
          let all = OpensToSome opening n (given ++ second) l in
          let same : s.opens (s.shape_of mid) (s.slots mid) ≡ opening = rw (a.same_shape, a.same_slots) refl in
          subst (λ (groups : List (List Patch)). LeavesOnly s.moment s.left_since old new
          (OpensToSome opening n groups l))
          (append_assoc (s.pending old) first second)
          (joined s.moment s.left_since old mid new all
          (weaker s.moment s.left_since old mid (OpensToSome opening n given l) all
          (λ i. some_front opening n given second l i) (a.any_moment kept laws l n stable))
          (weaker s.moment s.left_since mid new
          (OpensToSome opening (n + settled.count) (s.pending mid ++ second) made) all
          (λ i. some_later opening n given second l (s.stable mid) (s.pending mid) i settled)
          (subst (λ (f : s.image → List (List ℕ) → ℕ → Type 0). LeavesOnly s.moment s.left_since mid new
          (OpensToSome f (n + settled.count) (s.pending mid ++ second) made)) same
          (b.any_moment kept laws made (n + settled.count) settled.settled))))

  pub more_logs : (old mid new : S) (first second : List (List Patch)) (going : Bool) → Logs s old mid first true
      → Logs s mid new second going → Logs s old new (first ++ second) going
  more_logs old mid new =
      more_by s.holds_back old mid new (λ laws. laws.holds_back_joined old mid new)

  -- what is said of calls that held back is said of any
  pub any_logs : {Between : S → S → Type 0} (old new : S) (groups : List (List Patch)) (going : Bool)
      → LogsBy s Between old new groups going → Flushes s old new groups going
  any_logs old new groups going a = record {
    same_shape = a.same_shape;
    same_slots = a.same_slots;
    failed = a.failed;
    no_less = a.no_less;
    cause = a.cause;
    still = a.still;
    number = a.number;
    blocks = a.blocks;
    settles = a.settles;
    any_moment = a.any_moment;
    between = λ _ _. tt;
  }

  -- any calls after others that went well
  pub more_flushes : {Between : S → S → Type 0} (old mid new : S) (first second : List (List Patch)) (going : Bool)
      → LogsBy s Between old mid first true → Flushes s mid new second going
      → Flushes s old new (first ++ second) going
  more_flushes old mid new first second going a b =
      more_by (λ _ _. Unit {0}) old mid new (λ _ _ _. tt) first second going (any_logs old mid first true a) b

  -- a call that gives no group, from its clauses
  load_by : {T E : Type 0} (Between : S → S → Type 0) (old new : S) (result : Result T E)
      → s.shape_of new ≡ s.shape_of old
      → s.slots new ≡ s.slots old → s.failed new ≡ is_err result
      → IsCounted (s.faults old) (s.faults new) result → s.lsn new ≡ s.lsn old
      → (s.tells → OnOk result (s.blocks new ≡ s.blocks old))
      → (s.keeps → OnOk result ((b : List (List ℕ)) (n : ℕ) → s.stable old b n
      → Settles n (s.pending old) b (s.stable new) (s.pending new)))
      → (s.keeps → (b : List (List ℕ)) (n : ℕ) → s.stable old b n → LeavesOnly s.moment s.left_since old new
      (OpensToSome (s.opens (s.shape_of old) (s.slots old)) n (s.pending old) b))
      → OnOk result (Between old new)
      → LogsBy s Between old new [] (not (is_err result))
  load_by Between old new (Ok value) shape slots failed counted lsn blocks settles any_moment between = record {
    same_shape = shape;
    same_slots = slots;
    failed = failed;
    no_less = counted.no_less;
    cause = no_clash;
    still = λ _. counted.still;
    number = λ _. omega (arith, lsn);
    blocks = λ told _. blocks told;
    settles = λ kept _ b n stable. subst
        (λ (given : List (List Patch)). Settles n given b (s.stable new) (s.pending new))
        (sym (append-nil (s.pending old))) (settles kept b n stable);
    any_moment = λ kept _ b n stable. subst
        (λ (given : List (List Patch)). LeavesOnly s.moment s.left_since old new
        (OpensToSome (s.opens (s.shape_of old) (s.slots old)) n given b))
        (sym (append-nil (s.pending old))) (any_moment kept b n stable);
    between = λ _ _. between;
  }
  load_by Between old new (Err error) shape slots failed counted lsn blocks settles any_moment between = record {
    same_shape = shape;
    same_slots = slots;
    failed = failed;
    no_less = counted.no_less;
    cause = λ _. counted.cause;
    still = no_clash;
    number = no_clash;
    blocks = λ _. no_clash;
    settles = λ _. no_clash;
    any_moment = λ kept _ b n stable. subst
        (λ (given : List (List Patch)). LeavesOnly s.moment s.left_since old new
        (OpensToSome (s.opens (s.shape_of old) (s.slots old)) n given b))
        (sym (append-nil (s.pending old))) (any_moment kept b n stable);
    between = λ is _. no_clash is;
  }

  -- a load
  pub load_logs : {T E : Type 0} (old new : S) (result : Result T E) → s.shape_of new ≡ s.shape_of old
      → s.slots new ≡ s.slots old → s.failed new ≡ is_err result
      → IsCounted (s.faults old) (s.faults new) result → s.lsn new ≡ s.lsn old
      → (s.tells → OnOk result (s.blocks new ≡ s.blocks old))
      → (s.keeps → OnOk result ((b : List (List ℕ)) (n : ℕ) → s.stable old b n
      → Settles n (s.pending old) b (s.stable new) (s.pending new)))
      → (s.keeps → (b : List (List ℕ)) (n : ℕ) → s.stable old b n → LeavesOnly s.moment s.left_since old new
      (OpensToSome (s.opens (s.shape_of old) (s.slots old)) n (s.pending old) b))
      → OnOk result (s.holds_back old new)
      → Logs s old new [] (not (is_err result))
  load_logs old new result = load_by s.holds_back old new result

  -- a flush or a checkpoint: their clauses are those of a load, but that they make groups last, and none waits any more
  pub flush_logs : {T E : Type 0} (old new : S) (result : Result T E) → s.shape_of new ≡ s.shape_of old
      → s.slots new ≡ s.slots old → s.failed new ≡ is_err result
      → IsCounted (s.faults old) (s.faults new) result → s.lsn new ≡ s.lsn old
      → (s.tells → OnOk result (s.blocks new ≡ s.blocks old))
      → (s.keeps → OnOk result ((b : List (List ℕ)) (n : ℕ) → s.stable old b n
      → Settles n (s.pending old) b (s.stable new) (s.pending new)))
      → (s.keeps → (b : List (List ℕ)) (n : ℕ) → s.stable old b n → LeavesOnly s.moment s.left_since old new
      (OpensToSome (s.opens (s.shape_of old) (s.slots old)) n (s.pending old) b))
      → Flushes s old new [] (not (is_err result))
  flush_logs old new result shape slots failed counted lsn blocks settles any_moment =
      load_by (λ a b. Unit {0}) old new result shape slots failed counted lsn blocks settles any_moment
      (nothing result)
    where
      nothing : {T E : Type 0} (r : Result T E) → OnOk r (Unit {0})
      nothing (Ok value) = tt
      nothing (Err error) = tt

  -- a call that applies a group, from its clauses
  pub apply_logs : {T E : Type 0} (old new : S) (group : List Patch) (result : Result T E)
      → s.shape_of new ≡ s.shape_of old → s.slots new ≡ s.slots old → s.failed new ≡ is_err result
      → IsCounted (s.faults old) (s.faults new) result → OnOk result (s.lsn new ≡ s.lsn old + 1)
      → (s.tells → OnOk result (s.blocks new ≡ after_group (s.lsn old + 1) group (s.blocks old)))
      → (s.keeps → OnOk result ((b : List (List ℕ)) (n : ℕ) → s.stable old b n
      → Settles n (s.pending old ++ group ∷ []) b (s.stable new) (s.pending new)))
      → (s.keeps → (b : List (List ℕ)) (n : ℕ) → s.stable old b n → LeavesOnly s.moment s.left_since old new
      (OpensToSome (s.opens (s.shape_of old) (s.slots old)) n (s.pending old ++ group ∷ []) b))
      → OnOk result (s.holds_back old new)
      → Logs s old new (group ∷ []) (not (is_err result))
  apply_logs old new group (Ok value) shape slots failed counted lsn blocks settles any_moment between = record {
    same_shape = shape;
    same_slots = slots;
    failed = failed;
    no_less = counted.no_less;
    cause = no_clash;
    still = λ _. counted.still;
    number = λ _. lsn;
    blocks = λ told _. blocks told;
    settles = λ kept _. settles kept;
    any_moment = λ kept _. any_moment kept;
    between = λ _ _. between;
  }
  apply_logs old new group (Err error) shape slots failed counted lsn blocks settles any_moment between = record {
    same_shape = shape;
    same_slots = slots;
    failed = failed;
    no_less = counted.no_less;
    cause = λ _. counted.cause;
    still = no_clash;
    number = no_clash;
    blocks = λ _. no_clash;
    settles = λ _. no_clash;
    any_moment = λ kept _. any_moment kept;
    between = λ is _. no_clash is;
  }
