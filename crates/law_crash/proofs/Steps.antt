-- What calls leave of a store whose images have a state: by the groups that they gave it, each of which makes blocks that
-- have the state or a later one.
use Rattle.std.proofs.Common.{◌≡◌, ◌⊎◌, inl, inr, ⊎_elim, ℕ, ◌+◌, ◌-◌, ◌<◌, ◌≤◌, Bool, true, false, List, [], ◌∷◌, ◌++◌, length, take, refl, arith, ap, sym, ◌∙◌, subst, length-append, Option, Some}
use Rattle.std.proofs.lemmas.Bool.{cases_lt}
use Rattle.std.proofs.lemmas.List.{take-append-le}
use Rattle.std.proofs.Math.Seq.{take-append-add}
use Rattle.rb_base.specs.Blocks.{after_group, after_groups}
use Rattle.rb_base.specs.Groups.{Patch}
use Rattle.rb_base.specs.Keeps.{AfterEach, Keeps, all_stable, keeps_logged, leaves_logged}
use Rattle.rb_base.specs.Logs.{Laws, Logs, LogsBy}
use Rattle.rb_base.specs.Moments.{LeavesOnly, weaker}
use Rattle.rb_base.specs.Settling.{after_joined, told_same}
use Rattle.rb_base.specs.declared.shape.Shape.{Shape}
use Rattle.rb_base.specs.declared.store.Store.{Ghosts}
use Rattle.law_crash.specs.Between.{up_to, one_commit, one_write, reached, at_end, Extends, FoundSome, IsCommit, MarksGrow, with_commit}
use Rattle.law_crash.specs.Crash.{AtEnd, OnTheWay, Restarts, RestartsAt, Survives}
use Rattle.law_crash.specs.Images.{HasSome, HasState}
use Rattle.law_crash.proofs.Crashes.{extends_same, grow_same, restarts_later, some_last, some_later, some_restarts}
use Rattle.rb_model.specs.Book.{Book}
use Rattle.rb_model.specs.Calls.{Action, Call, Write, WritesIn, has_slot, is_empty}
use Rattle.rb_model.specs.NextState.{books_written}
use Rattle.rb_model.specs.Rows.{last_scn}
use Rattle.rb_model.specs.State.{State, all_safe, session_own}

abbrev pub Property : Type 1
Property = List (List ℕ) → ℕ → Type 0

-- what an image opens to has a property
abbrev pub OpensWith : {S : Type 0} → (s : Ghosts S) → Property → S → s.image → Type 0
OpensWith s Q store i = (b : List (List ℕ)) × (n : ℕ) × s.opens (s.shape_of store) (s.slots store) i b n × Q b n

module _ {S : Type 0} (s : Ghosts S) (laws : Laws s) (keeps : s.keeps) where
  -- more groups behind those that wait
  pub each_on : (P Q : Property) → ((b : List (List ℕ)) (n : ℕ) → P b n → Q b n) → (store : S) (groups : List (List Patch)) (kept : Keeps s P store) → AfterEach Q (s.lsn store) groups (s.blocks store)
      → AfterEach Q kept.first (s.pending store ++ groups) kept.base
  each_on P Q so store groups kept more count few =
      let waits = s.pending store in
      let n = kept.first in
      let read : s.blocks store ≡ after_groups (n + 1) waits kept.base = laws.stable_patched store kept.base n keeps kept.stable in
      let numbered : n + length waits ≡ s.lsn store = laws.stable_numbered store kept.base n keeps kept.stable in
      ⊎_elim
      (λ (less : count < length waits). told_same Q _ _ _ _ (ap (λ (l : List (List Patch)). after_groups (n + 1) l kept.base) (sym (take-append-le count waits groups (omega (arith, less))))) refl (so _ _ (kept.each count (omega (arith, less)))))
      (λ (beyond : length waits ≤ count).
      let k = count - length waits in
      let at_seam : count ≡ length waits + k = omega (arith, beyond) in
      let long = length-append waits groups in
      let cut : take count (waits ++ groups) ≡ waits ++ take k groups = ap (λ (c : ℕ). take c (waits ++ groups)) at_seam ∙ take-append-add waits groups k in
      told_same Q _ _ _ _
      (sym (ap (λ (l : List (List Patch)). after_groups (n + 1) l kept.base) cut
      ∙ after_joined (n + 1) waits (take k groups) kept.base
      ∙ ap (λ (m : ℕ). after_groups m (take k groups) (after_groups (n + 1) waits kept.base)) (omega (arith, numbered))
      ∙ ap (after_groups (s.lsn store + 1) (take k groups)) (sym read)))
      (omega (arith, numbered, beyond))
      (more k (omega (arith, few, long, beyond))))
      (cases_lt count (length waits))

  -- what the store reads has the property of all that it keeps
  pub read_has : (P : Property) (store : S) → Keeps s P store → P (s.blocks store) (s.lsn store)
  read_has P store kept =
      let waits = s.pending store in
      told_same P _ _ _ _
      (ap (λ (l : List (List Patch)). after_groups (kept.first + 1) l kept.base) (take_whole waits) ∙ sym (laws.stable_patched store kept.base kept.first keeps kept.stable))
      (laws.stable_numbered store kept.base kept.first keeps kept.stable)
      (kept.each (length waits) (omega arith))
    where
      take_whole : (l : List (List Patch)) → take (length l) l ≡ l
      take_whole [] = refl
      take_whole (x ∷ l) = ap (λ (m : List (List Patch)). x ∷ m) (take_whole l)

  -- no group, and one
  pub none_each : (Q : Property) (b : List (List ℕ)) (n : ℕ) → Q b n → AfterEach Q n [] b
  none_each Q b n here count few = told_same Q _ _ _ _ (ap (λ (k : ℕ). after_groups (n + 1) (take k []) b) (sym zero_is)) (omega (arith, few)) here
    where
      zero_is : count ≡ 0
      zero_is = omega (arith, few)

  pub one_each : (Q : Property) (g : List Patch) (b : List (List ℕ)) (n : ℕ) → Q b n → Q (after_group (n + 1) g b) (n + 1) → AfterEach Q n (g ∷ []) b
  one_each Q g b n before after count few = ⊎_elim
      (λ (less : count < 1). let none : count ≡ 0 = omega (arith, less) in told_same Q _ _ _ _ (ap (λ (k : ℕ). after_groups (n + 1) (take k (g ∷ [])) b) (sym none)) (omega (arith, none)) before)
      (λ (some : 1 ≤ count). let one : count ≡ 1 = omega (arith, some, few) in told_same Q _ _ _ _ (ap (λ (k : ℕ). after_groups (n + 1) (take k (g ∷ [])) b) (sym one)) (omega (arith, one)) after)
      (cases_lt count 1)

  -- a call that went well keeps the property, and leaves nothing else
  pub keeps_on : {Between : S → S → Type 0} (P Q : Property) → ((b : List (List ℕ)) (n : ℕ) → P b n → Q b n) → (old new : S) (groups : List (List Patch)) → Keeps s P old → LogsBy s Between old new groups true → AfterEach Q (s.lsn old) groups (s.blocks old) → Keeps s Q new
  keeps_on P Q so old new groups kept logs each =
      let wider : Keeps s Q old = record { base = kept.base; first = kept.first; stable = kept.stable; each = λ count few. so _ _ (kept.each count few) } in
      keeps_logged s Q old new groups keeps wider logs (each_on P Q so old groups kept each)

  pub leaves_on : {Between : S → S → Type 0} (P Q : Property) → ((b : List (List ℕ)) (n : ℕ) → P b n → Q b n) → (old new : S) (groups : List (List Patch)) (going : Bool) → Keeps s P old → LogsBy s Between old new groups going → AfterEach Q (s.lsn old) groups (s.blocks old)
      → LeavesOnly s.moment s.left_since old new (OpensWith s Q old)
  leaves_on P Q so old new groups going kept logs each =
      let wider : Keeps s Q old = record { base = kept.base; first = kept.first; stable = kept.stable; each = λ count few. so _ _ (kept.each count few) } in
      leaves_logged s Q old new groups going keeps laws wider logs (each_on P Q so old groups kept each)

  -- what a crash now may leave is of those moments
  pub left_now : (Q : Property) (old new : S) → LeavesOnly s.moment s.left_since old new (OpensWith s Q old) → (i : s.image) → s.left new i → OpensWith s Q old i
  left_now Q old new leaves i here = leaves.each i (laws.now_counts new (s.moment old) i keeps leaves.later here)

  -- an image of a store that keeps a property opens to what has it
  pub left_with : (Q : Property) (store : S) → Keeps s Q store → (i : s.image) → s.left store i → OpensWith s Q store i
  left_with Q store kept i here = (kept.base, kept.first, laws.stable_left store kept.base kept.first i keeps kept.stable here, told_same Q _ _ _ _ refl (omega arith) (kept.each 0 (omega arith)))

  -- Where nothing waits, an image opens to the blocks that the store reads, and to the last group.
  pub opens_last : (P : Property) (store : S) → Keeps s P store → s.pending store ≡ [] → (i : s.image) → s.left store i → s.opens (s.shape_of store) (s.slots store) i (s.blocks store) (s.lsn store)
  opens_last P store kept none i here =
      let numbered : kept.first + length (s.pending store) ≡ s.lsn store = laws.stable_numbered store kept.base kept.first keeps kept.stable in
      let nothing : length (s.pending store) ≡ 0 = ap (λ (l : List (List Patch)). length l) none in
      let last : kept.first ≡ s.lsn store = omega (arith, numbered, nothing) in
      let read : s.blocks store ≡ kept.base = laws.stable_patched store kept.base kept.first keeps kept.stable ∙ ap (λ (groups : List (List Patch)). after_groups (kept.first + 1) groups kept.base) none in
      subst (λ (n : ℕ). s.opens (s.shape_of store) (s.slots store) i (s.blocks store) n) last
      (subst (λ (b : List (List ℕ)). s.opens (s.shape_of store) (s.slots store) i b kept.first) (sym read) (laws.stable_left store kept.base kept.first i keeps kept.stable here))

  -- An image opens to what has a state: it restarts there.
  pub restarts : (h : State) (books : List Book) (n : ℕ) (store : S) (i : s.image) → s.shape_of store ≡ h.shape → OpensWith s (HasState h books n) store i → RestartsAt s.opens (s.slots store) books h n i
  restarts h books n store i shape (b, m, opening, has) = record {
    blocks = b;
    lsn = m;
    opening = subst (λ (x : Shape). s.opens x (s.slots store) i b m) shape opening;
    has = has;
  }

  -- and where it has a state at some number
  pub restarts_some : (h : State) (books : List Book) (store : S) (i : s.image) → s.shape_of store ≡ h.shape → OpensWith s (HasSome h books) store i → FoundSome (RestartsAt s.opens (s.slots store)) books h i
  restarts_some h books store i shape (b, m, opening, has) = record {
    number = has.number;
    acknowledged = has.acknowledged;
    made = has.made;
    found = restarts h books has.number store i shape (b, m, opening, has.found);
  }

  -- Calls that went well, or gave no group: the state then has the commits of before, and perhaps more, and acknowledges no
  -- more.
  pub survives_going : {Between : S → S → Type 0} {fault : Option Call} → (h h2 : State) (old new : S) (groups : List (List Patch)) → s.shape_of old ≡ h.shape → Extends h h2 → h2.safe ≤ h.safe
      → Keeps s (HasSome h h.books) old → (going : Bool) → LogsBy s Between old new groups going
      → AfterEach (HasSome h2 h2.books) (s.lsn old) groups (s.blocks old)
      → Survives s (s.slots old) fault h h2 old new
  survives_going {fault = fault} h h2 old new groups shape extends safe kept going logs each =
      let Q : Property = HasSome h2 h2.books in
      let so : (b : List (List ℕ)) (n : ℕ) → HasSome h h.books b n → Q b n = λ b n has. some_later h h2 h.books h2.books b n extends safe extends.marks has in
      let leaves = leaves_on (HasSome h h.books) Q so old new groups going kept logs each in
      let at : s.shape_of old ≡ h2.shape = shape ∙ sym extends.shape in record {
        extends = extends;
        any_moment = weaker s.moment s.left_since old new (OpensWith s Q old) (OnTheWay s.opens (s.slots old) fault h h2) (λ i opens. at_end (up_to (restarts_some h2 h2.books old i at opens))) leaves;
        now_only = λ i here. up_to (restarts_some h2 h2.books old i at (left_now Q old new leaves i here));
      }

  -- A write that answered a fault: its group may be there.
  pub survives_write : (h : State) (t table key : ℕ) (action : Action) (g k : ℕ) (old new : S) (groups : List (List Patch)) → s.shape_of old ≡ h.shape → WritesIn h t g k
      → MarksGrow h.shape h.books (books_written t g k (has_slot h t g k) h.books) → Keeps s (HasSome h h.books) old → Logs s old new groups false
      → AfterEach (HasSome h (books_written t g k (has_slot h t g k) h.books)) (s.lsn old) groups (s.blocks old)
      → Survives s (s.slots old) (Some (Write t table key action)) h (record h { stopped = true }) old new
  survives_write h t table key action g k old new groups shape writes grow kept logs each =
      let books = books_written t g k (has_slot h t g k) h.books in
      let h2 : State = record h { stopped = true } in
      let Q : Property = HasSome h books in
      let stays = extends_same h h refl refl (grow_same h.shape h.books) (omega arith) in
      let so : (b : List (List ℕ)) (n : ℕ) → HasSome h h.books b n → Q b n = λ b n has. some_later h h h.books books b n stays (omega arith) grow has in
      let leaves = leaves_on (HasSome h h.books) Q so old new groups false kept logs each in
      let stops = extends_same h h2 refl refl (grow_same h.shape h.books) (omega arith) in
      let end : (i : s.image) → OpensWith s Q old i → AtEnd s.opens (s.slots old) (Some (Write t table key action)) h2 i = λ i opens.
      one_write t table key action g k refl refl writes (some_restarts s.opens (s.slots old) h h2 books books i stops (omega arith) (grow_same h.shape books) (restarts_some h books old i shape opens)) in record {
        extends = stops;
        any_moment = weaker s.moment s.left_since old new (OpensWith s Q old) (OnTheWay s.opens (s.slots old) (Some (Write t table key action)) h h2) (λ i opens. at_end (end i opens)) leaves;
        now_only = λ i here. end i (left_now Q old new leaves i here);
      }

  -- A commit that answered a fault: its group may be there.
  pub commit_failed : {Between : S → S → Type 0} (h : State) (t : ℕ) (fault : Option Call) (old new : S) (groups : List (List Patch)) → IsCommit t fault → s.shape_of old ≡ h.shape → is_empty (session_own h t) ≡ false → Keeps s (HasSome h h.books) old
      → LogsBy s Between old new groups false
      → AfterEach (λ b n. HasSome h h.books b n ⊎ HasState (with_commit h t) h.books (last_scn h.commits + 1) b n) (s.lsn old) groups (s.blocks old)
      → Survives s (s.slots old) fault h (record h { stopped = true }) old new
  commit_failed h t fault old new groups is shape own kept logs each =
      let h2 : State = record h { stopped = true } in
      let P : Property = HasSome h h.books in
      let Q : Property = λ b n. HasSome h h.books b n ⊎ HasState (with_commit h t) h.books (last_scn h.commits + 1) b n in
      let leaves = leaves_on P Q (λ b n has. inl has) old new groups false kept logs each in
      let stops = extends_same h h2 refl refl (grow_same h.shape h.books) (omega arith) in
      let end : (i : s.image) → OpensWith s Q old i → AtEnd s.opens (s.slots old) fault h2 i = λ i opens. ⊎_elim
      (λ (was : HasSome h h.books opens.0 opens.1). up_to (some_restarts s.opens (s.slots old) h h2 h.books h.books i stops (omega arith) (grow_same h.shape h.books) (restarts_some h h.books old i shape (opens.0, opens.1, opens.2, was))))
      (λ (one : HasState (with_commit h t) h.books (last_scn h.commits + 1) opens.0 opens.1).
      let r : RestartsAt s.opens (s.slots old) h.books (with_commit h t) (last_scn h.commits + 1) i = restarts (with_commit h t) h.books (last_scn h.commits + 1) old i shape (opens.0, opens.1, opens.2, one) in
      one_commit t is refl own (record { blocks = r.blocks; lsn = r.lsn; opening = r.opening; has = record { logged = r.has.logged; sound = r.has.sound; marks = r.has.marks } }))
      opens.3 in record {
        extends = stops;
        any_moment = weaker s.moment s.left_since old new (OpensWith s Q old) (OnTheWay s.opens (s.slots old) fault h h2) (λ i opens. at_end (end i opens)) leaves;
        now_only = λ i here. end i (left_now Q old new leaves i here);
      }

  -- All that waited was made last: a crash leaves the state with all its commits from then on.
  pub survives_flush : {Between : S → S → Type 0} {fault : Option Call} → (h : State) (old new : S) → s.shape_of old ≡ h.shape → Keeps s (HasSome h h.books) old → LogsBy s Between old new [] true → s.pending new ≡ []
      → HasState h h.books (last_scn h.commits) (s.blocks new) (s.lsn new)
      → Survives s (s.slots old) fault h (all_safe h) old new × Keeps s (HasSome (all_safe h) h.books) new
  survives_flush {fault = fault} h old new shape kept logs none has =
      let h2 : State = all_safe h in
      let P : Property = HasSome h h.books in
      let R : Property = HasSome h2 h2.books in
      let each : AfterEach P (s.lsn old) [] (s.blocks old) = none_each P (s.blocks old) (s.lsn old) (read_has P old kept) in
      let leaves = leaves_on P P (λ b n is. is) old new [] true kept logs each in
      let wide : Keeps s P new = keeps_on P P (λ b n is. is) old new [] kept logs each in
      let stable : s.stable new (s.blocks new) (s.lsn new) = all_stable s new wide.base wide.first keeps laws wide.stable none in
      let all : R (s.blocks new) (s.lsn new) = some_last h2 h2.books (s.blocks new) (s.lsn new) (omega arith) (record { logged = has.logged; sound = has.sound; marks = has.marks }) in
      let now : Keeps s R new = record {
        base = s.blocks new;
        first = s.lsn new;
        stable = stable;
        each = subst (λ (l : List (List Patch)). AfterEach R (s.lsn new) l (s.blocks new)) (sym none) (none_each R (s.blocks new) (s.lsn new) all);
      } in
      let known = read_has P old kept in
      let stays = extends_same h h2 refl refl (grow_same h.shape h.books) (omega (arith, known.acknowledged, known.made)) in
      let back : (i : s.image) → OpensWith s R new i → Restarts s.opens (s.slots old) h2 i = λ i opens.
      subst (λ (slots : Option ℕ). FoundSome (RestartsAt s.opens slots) h2.books h2 i) logs.same_slots
      (restarts_some h2 h2.books new i (logs.same_shape ∙ shape) opens) in (
        record {
          extends = stays;
          any_moment = weaker s.moment s.left_since old new (OpensWith s P old) (OnTheWay s.opens (s.slots old) fault h h2) (λ i opens.
              let r = restarts_some h h.books old i shape opens in
              reached r.number r.acknowledged r.made (restarts_later s.opens (s.slots old) h h2 h.books h2.books r.number i stays r.made (grow_same h.shape h.books) r.found)) leaves;
          now_only = λ i here. up_to (back i (left_with R new now i here));
        },
        now,
      )
