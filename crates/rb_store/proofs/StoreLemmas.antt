-- The clauses of a store's calls over any cache, from those of the cache's calls.
use Rattle.std.proofs.Common.{◌≡◌, ◌≢◌, ⊎_elim, ℕ, zero, suc, drop, ◌+◌, ◌-◌, ◌^◌, ◌<◌, ◌≤◌, ◌==◌, Bool, true, false, if◌then◌else◌, nat_lt, List, [], ◌∷◌, ◌++◌, length, map, arith, ap, sym, ◌∙◌, subst, refl, Some, Option, append-nil}
use Rattle.std.proofs.lemmas.Bool.{eq-eqb}
use Rattle.std.proofs.lemmas.Bool.Decides.{nat_tests}
use Rattle.std.proofs.lemmas.List.{same_lists, get_or_default, length-append, length-take-le, length-drop}
use Rattle.std.proofs.lemmas.List.FromFn.{get_or-map-range_with_len, length-map-range_with_len}
use Rattle.std.specs.List.{AllByRecursion, range_with_len}
use Rattle.rb_base.specs.Blocks.{block_of, after_group, after_groups, AreBlocks}
use Rattle.rb_base.specs.Fields.{number_at, part}
use Rattle.rb_base.specs.Groups.{Patch, IsGroup}
use Rattle.rb_base.specs.Settling.{after_joined}
use Rattle.rb_base.specs.Stores.{OpensToSome, Settles}
use Rattle.rb_base.proofs.Blocks.{group_count}
use Rattle.rb_base.proofs.Each.{all_push}
use Rattle.rb_base.specs.declared.sizes.TheConstants.{UNIT}
use Rattle.rb_disk.specs.declared.disk.Disk.{Ghosts}
use Rattle.rb_disk.specs.Ranges.{SamePart}
use Rattle.rb_layout.specs.Regions.{block_count, block_offset, file_length, log_offset, shape_of}
use Rattle.rb_layout.specs.declared.layout.Head.{Head}
use Rattle.rb_layout.specs.declared.layout.Layout.{Layout}
use Rattle.law_redo.specs.Rolled.{after_block, rolled, step}
use Rattle.law_redo.proofs.OneAfter.{block_after, stays}
use Rattle.law_redo.proofs.Rolling.{rolled_high}
use Rattle.rb_cache.specs.declared.frame.Frame.{Frame}
use Rattle.rb_cache.specs.Frames.{seen}
use Rattle.rb_cache.specs.OnDisk.{IsCalm}
use Rattle.rb_log.specs.GroupSlots.{GroupsAre}
use Rattle.rb_log.specs.Slots.{gate_of}
use Rattle.rb_twin.specs.Twins.{twin_gate}
use Rattle.rb_store.specs.Meaning.{Opens}
use Rattle.rb_store.specs.StoreStates.{StoreState, StoreLeaves, IsStable, IsQuietAt, blocks_by}
use Rattle.rb_store.proofs.Between.{are_groups, comes_again}
use Rattle.rb_store.proofs.GroupSteps.{comes_after, comes_before, group_makes}
use Rattle.rb_store.proofs.Settled.{store_moments, store_settles}
use Rattle.rb_store.specs.CachedFiles.{CachedState, Done, IsCachedMemory, IsStoreMemory, Keeps, Leaving, SameNumbers, SeenAt, SeenOrPatched, Settled, StaysOrNone, first_of}

pub one_by : (l : Layout) (file : List ℕ) (held : List Frame) (k : ℕ) → k < block_count l → block_of (blocks_by l file held) k ≡ seen l file held k
one_by l file held k lt = get_or-map-range_with_len (seen l file held) 0 (block_count l) k k [] lt (omega arith)

-- blocks that are the same one by one
pub same_blocks : (n : ℕ) (a b : List (List ℕ)) → length a ≡ n → length b ≡ n → ((k : ℕ) → k < n → block_of a k ≡ block_of b k) → a ≡ b
same_blocks n a b la lb same = same_lists a b (la ∙ sym lb) (λ i e lt.
    get_or_default a i e [] lt ∙ same i (omega (arith, lt, la)) ∙ sym (get_or_default b i e [] (omega (arith, lt, la, lb))))

-- a block that is seen is a unit
pub unit_seen : (l : Layout) (file : List ℕ) (held : List Frame) (k : ℕ) → length file ≡ file_length l → k < block_count l → AllByRecursion (λ f. length f.bytes ≡ UNIT) held → length (seen l file held k) ≡ UNIT
unit_seen l file [] k whole lt units = length-take-le UNIT (drop (block_offset l k) file) (omega (arith, length-drop (block_offset l k) file, whole, lt))
unit_seen l file (f ∷ held) k whole lt units = by (f.block == k) (unit_seen l file held k whole lt units.1)
  where
    by : (a : Bool) → length (seen l file held k) ≡ UNIT → length (if a then f.bytes else seen l file held k) ≡ UNIT
    by true rest = units.0
    by false rest = rest

pub all_units : (f : ℕ → List ℕ) (first n : ℕ) → ((k : ℕ) → first ≤ k → k < first + n → length (f k) ≡ UNIT) → AllByRecursion (λ x. length x ≡ UNIT) (map f (range_with_len first n))
all_units f first zero each = tt
all_units f first (suc n) each = (each first (omega arith) (omega arith), all_units f (first + 1) n (λ k le lt. each k (omega (arith, le)) (omega (arith, lt))))

pub are_blocks : (l : Layout) (file : List ℕ) (held : List Frame) → length file ≡ file_length l → AllByRecursion (λ f. length f.bytes ≡ UNIT) held → AreBlocks (shape_of l) (blocks_by l file held)
are_blocks l file held whole units = record {
  count = length-map-range_with_len (seen l file held) 0 (block_count l);
  each = all_units (seen l file held) 0 (block_count l) (λ k le lt. unit_seen l file held k whole (omega (arith, lt)) units);
}

-- the first frame is what is seen of its block
pub first_seen : (l : Layout) (file : List ℕ) (held : List Frame) (k : ℕ) (x : List ℕ) → first_of held ≡ Some k → ((f : Frame) (rest : List Frame) → held ≡ f ∷ rest → x ≡ f.bytes) → x ≡ seen l file held k
first_seen l file [] k x is bytes = cc
first_seen l file (f ∷ rest) k x is bytes =
    let same : f.block ≡ k = cc in
    let test : (f.block == k) ≡ true = eq-eqb f.block k same in bytes f rest refl ∙ sym (rw test refl)

pub first_there : (l : Layout) (held : List Frame) (k : ℕ) → first_of held ≡ Some k → AllByRecursion (λ f. f.block < block_count l) held → k < block_count l
first_there l [] k is there = cc
first_there l (f ∷ rest) k is there = let same : f.block ≡ k = cc in subst (λ (j : ℕ). j < block_count l) same there.0

-- the state of a store
abbrev pub store_of : {D : Type 0} → CachedState → ℕ → Option ℕ → Bool → ℕ → D → StoreState D
store_of t lsn loaded failed forced disk = record { layout = t.layout; head = t.head; used = t.used; pending = t.pending; frames = t.frames; held = t.held; number = lsn; loaded = loaded; failed = failed; forced = forced; disk = disk }

same_part : (first last : ℕ) (file c : List ℕ) → c ≡ file → SamePart first last file c
same_part first last file c is = record {
  long = ap length is;
  same = ap (λ (x : List ℕ). part x first (last - first)) is;
}

module _ {D : Type 0} (d : Ghosts D) where
  -- the conditions of the cache's calls
  pub calm_of : (l : Layout) (head : Head) (used lsn : ℕ) (held : List Frame) (disk : D) → IsQuietAt l head used lsn held (d.content disk) (d.image disk) → IsCalm (d.image disk) l (d.content disk)
  calm_of l head used lsn held disk q = record {
    whole = q.whole;
    slots = λ c here. same_part (log_offset 0) (log_offset l.log) (d.content disk) c (q.only c here);
    blocks = λ c here. same_part (block_offset l 0) (file_length l) (d.content disk) c (q.only c here);
    shut = λ c here is. q.shut (sym (ap (twin_gate l) (q.only c here)) ∙ is);
  }

  -- and quiet again behind one, where no block that is seen has a greater number
  pub quiet_again : (s t : CachedState) (lsn lsn2 : ℕ) (old new : D) → d.image new (d.content new) → Keeps s t → IsQuietAt s.layout s.head s.used lsn s.held (d.content old) (d.image old) → Settled d s t old new
      → ((k : ℕ) → k < block_count s.layout → number_at (seen s.layout (d.content new) t.held k) 0 8 ≤ lsn2) → IsQuietAt t.layout t.head t.used lsn2 t.held (d.content new) (d.image new)
  quiet_again s t lsn lsn2 old new here k q settled low =
      subst (λ (l : Layout). IsQuietAt l t.head t.used lsn2 t.held (d.content new) (d.image new)) (sym k.layout) (record {
        whole = settled.calm.whole;
        only = settled.only q.only;
        shut = settled.calm.shut (d.content new) here;
        next = subst (λ (l : Layout). gate_of l t.head (d.content new) t.used ≢ 1) k.layout (settled.shut q.next);
        clean = settled.clean;
        low = low;
      })

  -- a store in which blocks are stable, before a call
  module _ (s : CachedState) (lsn : ℕ) (loaded : Option ℕ) (failed : Bool) (forced : ℕ) (old : D) (memory : IsCachedMemory s) (b : List (List ℕ)) (n : ℕ) (st : IsStable d (store_of s lsn loaded failed forced old) b n) (q : IsQuietAt s.layout s.head s.used lsn s.held (d.content old) (d.image old)) (few : lsn ≤ 2 ^ 62) where
    groups_valid : AllByRecursion IsGroup s.pending
    groups_valid = are_groups s.layout s.pending memory.each

    fits : n + length s.pending < 2 ^ 63
    fits = omega (arith, st.numbered, few)

    seen_is : (k : ℕ) → k < block_count s.layout → seen s.layout (d.content old) s.held k ≡ block_of (after_groups (n + 1) s.pending b) k
    seen_is k lt = sym (one_by s.layout (d.content old) s.held k lt) ∙ ap (λ (bs : List (List ℕ)). block_of bs k) st.reads

    log_is : GroupsAre s.layout s.head (d.content old) 0 st.opens.means.groups
    log_is = subst (λ (h : Head). GroupsAre s.layout h (d.content old) 0 st.opens.means.groups) st.head_is st.opens.means.log

    -- a call that gives nothing
    module _ (t : CachedState) (new : D) (loaded2 : Option ℕ) (failed2 : Bool) (forced2 : ℕ) where
      comes : (k : ℕ) (x : List ℕ) → k < block_count s.layout → SeenAt s (d.content old) k x
          → rolled st.opens.means.head.number (st.opens.means.groups ++ s.pending) k x ≡ block_of (after_groups (n + 1) s.pending b) k
      comes k x lt is = ap (rolled st.opens.means.head.number (st.opens.means.groups ++ s.pending) k) (is ∙ seen_is k lt)
          ∙ comes_again s.layout (d.content old) b n st.opens q.shut s.pending groups_valid fits k lt

      pub call_moments : ((groups : List (List Patch)) → length groups ≡ s.used → GroupsAre s.layout s.head (d.content old) 0 groups → Leaving d s old new groups (SeenAt s (d.content old)))
          → StoreLeaves d (store_of s lsn loaded failed forced old) (store_of t lsn loaded2 failed2 forced2 new) (OpensToSome (Opens (shape_of s.layout) (Some s.layout.log)) n s.pending b)
      call_moments leaves = store_moments d (store_of s lsn loaded failed forced old) b n st q.shut s.pending groups_valid fits (SeenAt s (d.content old)) comes (store_of t lsn loaded2 failed2 forced2 new)
          (subst (λ (h : Head). Leaving d (record s { head = h }) old new st.opens.means.groups (SeenAt s (d.content old))) (sym st.head_is) (leaves st.opens.means.groups st.used_is log_is))

      pub call_settles : Keeps s t → SameNumbers s t → d.image new (d.content new) → Settled d s t old new
          → ((groups : List (List Patch)) → length groups ≡ s.used → GroupsAre s.layout s.head (d.content old) 0 groups → Done d s t old new groups (SeenAt s (d.content old)))
          → blocks_by t.layout (d.content new) t.held ≡ blocks_by s.layout (d.content old) s.held
          → Settles n s.pending b (IsStable d (store_of t lsn loaded2 failed2 forced2 new)) t.pending
      call_settles k numbers here settled done same =
          let dn = done st.opens.means.groups st.used_is log_is in
          store_settles d (store_of s lsn loaded failed forced old) b n st q.shut s.pending groups_valid fits (SeenAt s (d.content old)) comes dn.groups1 t.pending (store_of t lsn loaded2 failed2 forced2 new)
          k.layout k.head (sym dn.used_is) refl (sym st.numbered) (settled.only q.only) here settled.calm.whole
          (subst (λ (h : Head). GroupsAre s.layout h (d.content new) 0 dn.groups1) (sym st.head_is) dn.log) (settled.calm.shut (d.content new) here) dn.later (same ∙ st.reads)

  -- what is seen of each block makes the blocks
  pub same_by : (s t : CachedState) (old new : D) → Keeps s t → ((k : ℕ) → k < block_count s.layout → seen s.layout (d.content new) t.held k ≡ seen s.layout (d.content old) s.held k)
      → blocks_by t.layout (d.content new) t.held ≡ blocks_by s.layout (d.content old) s.held
  same_by s t old new k same =
      ap (λ (l : Layout). blocks_by l (d.content new) t.held) k.layout
      ∙ same_blocks (block_count s.layout) (blocks_by s.layout (d.content new) t.held) (blocks_by s.layout (d.content old) s.held)
      (length-map-range_with_len (seen s.layout (d.content new) t.held) 0 (block_count s.layout)) (length-map-range_with_len (seen s.layout (d.content old) s.held) 0 (block_count s.layout))
      (λ k lt. one_by s.layout (d.content new) t.held k lt ∙ same k lt ∙ sym (one_by s.layout (d.content old) s.held k lt))

  -- a call that leaves what is seen of each block
  pub quiet_same : (s t : CachedState) (lsn : ℕ) (old new : D) → d.image new (d.content new) → Keeps s t → IsQuietAt s.layout s.head s.used lsn s.held (d.content old) (d.image old) → Settled d s t old new
      → ((k : ℕ) → k < block_count s.layout → seen s.layout (d.content new) t.held k ≡ seen s.layout (d.content old) s.held k) → IsQuietAt t.layout t.head t.used lsn t.held (d.content new) (d.image new)
  quiet_same s t lsn old new here k q settled same = quiet_again s t lsn lsn old new here k q settled
      (λ i lt. let low = q.low i lt in let is = ap (λ (x : List ℕ). number_at x 0 8) (same i lt) in omega (arith, low, is))

  -- a call that gives a group, which was taken into the log before
  module _ (s : CachedState) (lsn : ℕ) (loaded : Option ℕ) (failed : Bool) (forced : ℕ) (old : D) (memory : IsCachedMemory s) (g : List Patch) (group : IsGroup g) (q : IsQuietAt s.layout s.head s.used lsn s.held (d.content old) (d.image old)) (few : lsn < 2 ^ 62)
      (t : CachedState) (new : D) (loaded2 : Option ℕ) (failed2 : Bool) (forced2 : ℕ) (k : Keeps s t) where
    -- over a store in which blocks are stable
    module _ (b : List (List ℕ)) (n : ℕ) (st : IsStable d (store_of s lsn loaded failed forced old) b n) where
      valid_all : AllByRecursion IsGroup (s.pending ++ g ∷ [])
      valid_all = all_push IsGroup s.pending g (are_groups s.layout s.pending memory.each) group

      fit_all : n + length (s.pending ++ g ∷ []) < 2 ^ 63
      fit_all = omega (arith, length-append s.pending (g ∷ []), st.numbered, few)

      fit_one : n + length s.pending + 1 < 2 ^ 63
      fit_one = omega (arith, st.numbered, few)

      seen_before : (i : ℕ) → i < block_count s.layout → seen s.layout (d.content old) s.held i ≡ block_of (after_groups (n + 1) s.pending b) i
      seen_before i lt = sym (one_by s.layout (d.content old) s.held i lt) ∙ ap (λ (bs : List (List ℕ)). block_of bs i) st.reads

      stepped : (i : ℕ) → i < block_count s.layout → step (lsn + 1) g i (seen s.layout (d.content old) s.held i) ≡ block_of (after_groups (n + 1) (s.pending ++ g ∷ []) b) i
      stepped i lt =
          ap (step (lsn + 1) g i) (seen_before i lt)
          ∙ ap (λ (m : ℕ). step m g i (block_of (after_groups (n + 1) s.pending b) i)) (omega (arith, st.numbered))
          ∙ sym (group_makes s.layout (d.content old) b n st.opens q.shut s.pending g (are_groups s.layout s.pending memory.each) group fit_one i lt)

      abbrev May : ℕ → List ℕ → Type 0
      May = SeenOrPatched s (d.content old) (lsn + 1) g

      comes_all : (i : ℕ) (x : List ℕ) → i < block_count s.layout → SeenOrPatched s (d.content old) (lsn + 1) g i x
          → rolled st.opens.means.head.number (st.opens.means.groups ++ (s.pending ++ g ∷ [])) i x ≡ block_of (after_groups (n + 1) (s.pending ++ g ∷ []) b) i
      comes_all i x lt may = ⊎_elim
          (λ is. ap (rolled st.opens.means.head.number (st.opens.means.groups ++ (s.pending ++ g ∷ [])) i) (is ∙ seen_before i lt)
          ∙ comes_before s.layout (d.content old) b n st.opens q.shut s.pending g (are_groups s.layout s.pending memory.each) group fit_one i lt)
          (λ is. ap (rolled st.opens.means.head.number (st.opens.means.groups ++ (s.pending ++ g ∷ [])) i) (is ∙ stepped i lt)
          ∙ comes_after s.layout (d.content old) b n st.opens q.shut s.pending g (are_groups s.layout s.pending memory.each) group fit_one i lt) may

      log_there : GroupsAre s.layout s.head (d.content old) 0 st.opens.means.groups
      log_there = subst (λ (h : Head). GroupsAre s.layout h (d.content old) 0 st.opens.means.groups) st.head_is st.opens.means.log

      pub apply_moments : ((groups : List (List Patch)) → length groups ≡ s.used → GroupsAre s.layout s.head (d.content old) 0 groups → Leaving d (record s { pending = s.pending ++ g ∷ [] }) old new groups (SeenOrPatched s (d.content old) (lsn + 1) g))
          → StoreLeaves d (store_of s lsn loaded failed forced old) (store_of t (lsn + 1) loaded2 failed2 forced2 new) (OpensToSome (Opens (shape_of s.layout) (Some s.layout.log)) n (s.pending ++ g ∷ []) b)
      apply_moments leaves = store_moments d (store_of s lsn loaded failed forced old) b n st q.shut (s.pending ++ g ∷ []) valid_all fit_all (SeenOrPatched s (d.content old) (lsn + 1) g) comes_all (store_of t (lsn + 1) loaded2 failed2 forced2 new)
          (subst (λ (h : Head). Leaving d (record s { head = h; pending = s.pending ++ g ∷ [] }) old new st.opens.means.groups (SeenOrPatched s (d.content old) (lsn + 1) g)) (sym st.head_is) (leaves st.opens.means.groups st.used_is log_there))

    -- and where it answered Ok
    module _ (patched : (i : ℕ) → i < block_count s.layout → seen s.layout (d.content new) t.held i ≡ step (lsn + 1) g i (seen s.layout (d.content old) s.held i)) where
      one_after : (i : ℕ) → i < block_count s.layout → step (lsn + 1) g i (seen s.layout (d.content old) s.held i) ≡ block_of (after_group (lsn + 1) g (blocks_by s.layout (d.content old) s.held)) i
      one_after i lt =
          let low = q.low i lt in
          let test : nat_lt (number_at (seen s.layout (d.content old) s.held i) 0 8) (lsn + 1) ≡ true = grind (arith, nat_tests) in
          rw test refl
          ∙ ap (after_block (lsn + 1) g i) (sym (one_by s.layout (d.content old) s.held i lt))
          ∙ sym (block_after (shape_of s.layout) (lsn + 1) i g (blocks_by s.layout (d.content old) s.held) (are_blocks s.layout (d.content old) s.held q.whole memory.units) lt (stays g group.each))

      pub patched_blocks : blocks_by t.layout (d.content new) t.held ≡ after_group (lsn + 1) g (blocks_by s.layout (d.content old) s.held)
      patched_blocks =
          ap (λ (l : Layout). blocks_by l (d.content new) t.held) k.layout
          ∙ same_blocks (block_count s.layout) (blocks_by s.layout (d.content new) t.held) (after_group (lsn + 1) g (blocks_by s.layout (d.content old) s.held))
          (length-map-range_with_len (seen s.layout (d.content new) t.held) 0 (block_count s.layout))
          (group_count (lsn + 1) g (blocks_by s.layout (d.content old) s.held) ∙ length-map-range_with_len (seen s.layout (d.content old) s.held) 0 (block_count s.layout))
          (λ i lt. one_by s.layout (d.content new) t.held i lt ∙ patched i lt ∙ one_after i lt)

      pub patched_low : (i : ℕ) → i < block_count s.layout → number_at (seen s.layout (d.content new) t.held i) 0 8 ≤ lsn + 1
      patched_low i lt =
          let low = q.low i lt in
          let is = ap (λ (x : List ℕ). number_at x 0 8) (patched i lt) in
          let high = rolled_high i (lsn + 1) (g ∷ []) (seen s.layout (d.content old) s.held i) (lsn + 1) (omega (arith, few)) (omega arith) (omega (arith, low)) in omega (arith, is, high)

      -- over a store in which blocks are stable
      module _ (b : List (List ℕ)) (n : ℕ) (st : IsStable d (store_of s lsn loaded failed forced old) b n) where
        pub apply_settles : d.image new (d.content new) → Settled d (record s { pending = s.pending ++ g ∷ [] }) t old new
            → ((groups : List (List Patch)) → length groups ≡ s.used → GroupsAre s.layout s.head (d.content old) 0 groups → Done d (record s { pending = s.pending ++ g ∷ [] }) t old new groups (SeenOrPatched s (d.content old) (lsn + 1) g))
            → Settles n (s.pending ++ g ∷ []) b (IsStable d (store_of t (lsn + 1) loaded2 failed2 forced2 new)) t.pending
        apply_settles here settled done =
            let dn = done st.opens.means.groups st.used_is (log_there b n st) in
            store_settles d (store_of s lsn loaded failed forced old) b n st q.shut (s.pending ++ g ∷ []) (valid_all b n st) (fit_all b n st) (SeenOrPatched s (d.content old) (lsn + 1) g) (comes_all b n st) dn.groups1 t.pending (store_of t (lsn + 1) loaded2 failed2 forced2 new)
            k.layout k.head (sym dn.used_is) refl (omega (arith, length-append s.pending (g ∷ []), st.numbered)) (settled.only q.only) here settled.calm.whole
            (subst (λ (h : Head). GroupsAre s.layout h (d.content new) 0 dn.groups1) (sym st.head_is) dn.log) (settled.calm.shut (d.content new) here) dn.later
            (patched_blocks ∙ ap (after_group (lsn + 1) g) st.reads ∙ ap (λ (m : ℕ). after_group m g (after_groups (n + 1) s.pending b)) (omega (arith, st.numbered)) ∙ sym (after_joined (n + 1) s.pending (g ∷ []) b))

-- the memory of a store behind a call
pub memory_again : (s t : CachedState) (lsn : ℕ) (loaded loaded2 : Option ℕ) (failed : Bool) → IsStoreMemory s lsn loaded failed → IsCachedMemory t → t.batch ≡ [] → Keeps s t → SameNumbers s t → ((which : ℕ) → loaded2 ≡ Some which → first_of t.held ≡ Some which) → IsStoreMemory t lsn loaded2 failed
memory_again s t lsn loaded loaded2 failed m cached batch k numbers front = record {
  cached = cached;
  empty = λ going. batch;
  numbered = λ going. let was = m.numbered going in let head = ap (λ (h : Head). h.number) k.head in omega (arith, was, head, numbers);
  few = m.few;
  front = front;
}

-- what waited goes on to wait where as many groups are in the log as before
pub waits_same : (s t : CachedState) → SameNumbers s t → StaysOrNone s t → t.used ≡ s.used → (more : List (List Patch)) × (t.pending ≡ s.pending ++ more)
waits_same s t numbers waits same = ([], ⊎_elim (λ is. is) (λ none. none ∙ sym (empty s.pending (omega (arith, numbers, ap length none, same)))) waits ∙ sym (append-nil s.pending))
  where
    empty : (gs : List (List Patch)) → length gs ≡ 0 → gs ≡ []
    empty [] is = refl
    empty (g ∷ gs) is = absurd (omega (arith, is))

-- a group waits behind the others where as many groups are in the log as before
pub waits_on : (s t : CachedState) (g : List Patch) → SameNumbers (record s { pending = s.pending ++ g ∷ [] }) t → StaysOrNone (record s { pending = s.pending ++ g ∷ [] }) t
    → t.used ≡ s.used → (more : List (List Patch)) × (t.pending ≡ s.pending ++ more)
waits_on s t g numbers waits same = ⊎_elim (λ is. (g ∷ [], is))
    (λ none. absurd (omega (arith, numbers, ap length none, length-append s.pending (g ∷ []), same))) waits
