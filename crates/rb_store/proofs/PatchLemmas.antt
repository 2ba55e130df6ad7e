-- The loop over the patches of a group, over any cache.
use Rattle.std.proofs.Common.{◌≡◌, ◌≢◌, ◌⊎◌, inl, inr, ⊎_elim, ℕ, ◌+◌, ◌^◌, ◌<◌, ◌==◌, Bool, true, false, if◌then◌else◌, nat_lt, List, [], ◌∷◌, ◌++◌, length, take, get_or, arith, ap, sym, ◌∙◌, subst, refl, append-nil, zero, suc}
use Rattle.std.proofs.lemmas.Bool.{cases_eq, eq-eqb, ne_eqb}
use Rattle.std.proofs.lemmas.List.{take_all, take_more}
use Rattle.rb_base.specs.Groups.{Patch}
use Rattle.rb_base.specs.Moments.{begun, joined, weaker}
use Rattle.rb_disk.specs.Moments.{Leaves}
use Rattle.rb_disk.specs.declared.disk.Disk.{Ghosts}
use Rattle.rb_layout.specs.Regions.{block_count}
use Rattle.rb_layout.specs.declared.layout.Head.{Head}
use Rattle.rb_layout.specs.declared.layout.Layout.{Layout}
use Rattle.law_redo.specs.Rolled.{after_block, has_block, step}
use Rattle.law_redo.proofs.Rolling.{rolled_again}
use Rattle.rb_cache.specs.Frames.{seen, AreClean}
use Rattle.rb_cache.specs.OnDisk.{IsCalm, Later, OnDisk}
use Rattle.rb_log.specs.GroupSlots.{GroupsAre}
use Rattle.rb_twin.specs.TwinLaws.{kept_shut}
use Rattle.rb_log.specs.GroupLaws.{same_group_log}
use Rattle.rb_cache.proofs.Parts.{home_part}
use Rattle.rb_cache.proofs.Steps.{later_joined, on_disk_later}
use Rattle.rb_store.specs.CachedFiles.{CachedState, IsCachedMemory, Done, FlushesFull, Keeps, Leaving, SeenAt, SeenOrPatched, Settled, StaysOrNone}
use Rattle.rb_store.specs.Patched.{HasPatched, PatchedSoFar}

-- a group that isn't of a block leaves it, and one that is there already too
pub step_none : (n k : ℕ) (g : List Patch) (x : List ℕ) → has_block k g ≡ false → step n g k x ≡ x
step_none n k g x none = by (nat_lt _ n)
  where
    by : (a : Bool) → (if a then after_block n g k x else x) ≡ x
    by true = rw none refl
    by false = refl

pub step_twice : (n k : ℕ) (g : List Patch) (x : List ℕ) → n < 2 ^ 63 → step n g k (step n g k x) ≡ step n g k x
step_twice n k g x few = rolled_again k n (g ∷ []) x (omega (arith, few))

or_there : (a b : Bool) → b ≡ true → (if a then true else b) ≡ true
or_there true b is = refl
or_there false b is = is

-- a patch of a block is among patches
pub has_at : (block : ℕ) (g : List Patch) (j : ℕ) (q : Patch) → j < length g → (get_or g j q).block ≡ block → has_block block g ≡ true
has_at block [] j q lt is = absurd (omega arith)
has_at block (p ∷ g) zero q lt is = rw (eq-eqb p.block block is) refl
has_at block (p ∷ g) (suc j) q lt is = or_there (p.block == block) (has_block block g) (has_at block g j q (omega arith) is)

-- what waited after two calls, one after the other
pub waits_joined : (s t u : CachedState) → StaysOrNone s t → StaysOrNone t u → StaysOrNone s u
waits_joined s t u first second = ⊎_elim (λ same. ⊎_elim (λ was. inl (same ∙ was)) (λ none. inr (same ∙ none)) first) (λ none. inr none) second

-- a flush of one of two calls
pub fills_joined : (s t u : CachedState) → FlushesFull s t → FlushesFull t u → FlushesFull s u
fills_joined s t u first second = record {
  cause = λ differ. elim (cases_eq t.used s.used) [
    | inl still ↦ second.cause (λ is. differ (is ∙ still))
    | inr early ↦ second.full (first.cause early)
  ];
  full = λ is. second.full (first.full is);
}

-- one patch more
has_more : (k : ℕ) (ps : List Patch) (p : Patch) → has_block k (ps ++ p ∷ []) ≡ (if p.block == k then true else has_block k ps)
has_more k [] p = refl
has_more k (q ∷ ps) p = by (q.block == k) (p.block == k) (has_more k ps p)
  where
    by : (a b : Bool) → has_block k (ps ++ p ∷ []) ≡ (if b then true else has_block k ps) → (if a then true else has_block k (ps ++ p ∷ [])) ≡ (if b then true else (if a then true else has_block k ps))
    by true true rest = refl
    by true false rest = refl
    by false b rest = rest

module _ {D : Type 0} (d : Ghosts D) where
  -- at the start of calls
  pub first_on_disk : (s : CachedState) (old : D) (groups : List (List Patch)) (may : ℕ → List ℕ → Type 0) → IsCalm (d.image old) s.layout (d.content old) → s.head.slot < s.layout.log → GroupsAre s.layout s.head (d.content old) 0 groups
      → (c : List ℕ) → d.image old c → OnDisk (d.image old) s.layout s.head groups s.pending (d.content old) may c
  first_on_disk s old groups may calm in_log log c here = record {
    whole = (calm.slots c here).long ∙ calm.whole;
    front = (c, here, refl);
    count = 0;
    few = omega arith;
    log = subst (GroupsAre s.layout s.head c 0) (sym (append-nil groups)) (same_group_log s.layout s.head (d.content old) c groups in_log (calm.slots c here) log);
    twin = λ gate. absurd (calm.shut c here gate);
    homes = λ k lt. inl (kept_shut s.layout c k (calm.shut c here) ∙ home_part s.layout (d.content old) c k lt (calm.blocks c here));
  }

  pub first_patched : (tells : Type 0) (s : CachedState) (old : D) (n : ℕ) (g : List Patch) → IsCachedMemory s → s.batch ≡ [] → (tells → IsCalm (d.image old) s.layout (d.content old)) → (tells → AreClean s.layout (d.content old) s.held)
      → (tells → (c : List ℕ) → d.image_since old (d.moment old) c → d.image old c) → PatchedSoFar d tells s s old old n g 0
  first_patched tells s old n g memory batch calm clean only = record {
    memory = memory;
    batch = batch;
    keeps = record { layout = refl; head = refl };
    numbers = refl;
    waits = inl refl;
    fills = record { cause = λ differ. absurd (differ refl); full = λ is. is };
    still = refl;
    told = λ told. record {
      seen = λ k lt. refl;
      settled = record { calm = calm told; clean = clean told; only = λ o. o; shut = λ o. o };
      done = λ groups long log. record {
        groups1 = groups;
        used_is = long;
        log = log;
        later = record { front = λ c here. (c, here, refl); log = inl (refl, refl, λ k lt. refl) };
      };
      any_moment = λ groups long log. begun d.moment d.image_since old (OnDisk (d.image old) s.layout s.head groups s.pending (d.content old) (SeenOrPatched s (d.content old) n g))
          (λ c left. first_on_disk s old groups (SeenOrPatched s (d.content old) n g) (calm told) memory.in_log log c (only told c left));
    };
  }

  -- what a call over a later state says, in the layout of the first
  pub leaving_at : (s t : CachedState) (mid new : D) (groups : List (List Patch)) (may : ℕ → List ℕ → Type 0) → Keeps s t → Leaving d t mid new groups may → Leaves d mid new (OnDisk (d.image mid) s.layout s.head groups t.pending (d.content mid) may)
  leaving_at s t mid new groups may k leaves =
      subst (λ (l : Layout). Leaves d mid new (OnDisk (d.image mid) l s.head groups t.pending (d.content mid) may)) k.layout
      (subst (λ (h : Head). Leaves d mid new (OnDisk (d.image mid) t.layout h groups t.pending (d.content mid) may)) k.head leaves)

  pub log_at : (s t : CachedState) (file : List ℕ) (groups : List (List Patch)) → Keeps s t → GroupsAre s.layout s.head file 0 groups → GroupsAre t.layout t.head file 0 groups
  log_at s t file groups k log = subst (λ (l : Layout). GroupsAre l t.head file 0 groups) (sym k.layout) (subst (λ (h : Head). GroupsAre s.layout h file 0 groups) (sym k.head) log)

  pub log_back : (s t : CachedState) (file : List ℕ) (groups : List (List Patch)) → Keeps s t → GroupsAre t.layout t.head file 0 groups → GroupsAre s.layout s.head file 0 groups
  log_back s t file groups k log = subst (λ (l : Layout). GroupsAre l s.head file 0 groups) k.layout (subst (λ (h : Head). GroupsAre t.layout h file 0 groups) k.head log)

  -- a block that is seen later is as it was, or with the group
  module _ (s t : CachedState) (old mid : D) (n : ℕ) (g : List Patch) (i : ℕ) (k : Keeps s t) (so_far : HasPatched d s t old mid n g i) where
    either : (a : Bool) (x y z : List ℕ) → z ≡ (if a then y else x) → (z ≡ x) ⊎ (z ≡ y)
    either true x y z is = inr is
    either false x y z is = inl is

    pub seen_or : (which : ℕ) → which < block_count s.layout → (x : List ℕ) → SeenAt t (d.content mid) which x → SeenOrPatched s (d.content old) n g which x
    seen_or which lt x is =
        either (has_block which (take i g)) (seen s.layout (d.content old) s.held which) (step n g which (seen s.layout (d.content old) s.held which)) x
        (is ∙ ap (λ (l : Layout). seen l (d.content mid) t.held which) k.layout ∙ so_far.seen which lt)

    -- what the moments of one call more leave
    pub more_leaves : (new : D) (groups : List (List Patch)) (long : length groups ≡ s.used) (log : GroupsAre s.layout s.head (d.content old) 0 groups)
        → ((groups1 : List (List Patch)) → length groups1 ≡ t.used → GroupsAre t.layout t.head (d.content mid) 0 groups1 → Leaving d t mid new groups1 (SeenAt t (d.content mid)))
        → Leaving d s old new groups (SeenOrPatched s (d.content old) n g)
    more_leaves new groups long log call =
        let dn = so_far.done groups long log in
        let mine = OnDisk (d.image old) s.layout s.head groups s.pending (d.content old) (SeenOrPatched s (d.content old) n g) in
        let here = OnDisk (d.image mid) s.layout s.head dn.groups1 t.pending (d.content mid) (SeenAt t (d.content mid)) in
        joined d.moment d.image_since old mid new mine (so_far.any_moment groups long log)
        (weaker d.moment d.image_since mid new here mine
        (on_disk_later (d.image old) (d.image mid) s.layout s.head groups s.pending (d.content old) dn.groups1 t.pending (d.content mid) (SeenOrPatched s (d.content old) n g) (SeenAt t (d.content mid)) dn.later
        (λ which x lt is. seen_or which lt x is))
        (leaving_at s t mid new dn.groups1 (SeenAt t (d.content mid)) k (call dn.groups1 dn.used_is (log_at s t (d.content mid) dn.groups1 k dn.log))))

    -- the patch of one block more
    pub more_patched : (p : Patch) (u : CachedState) (new : D) → n < 2 ^ 63 → p ≡ get_or g i p → i < length g
        → (seen t.layout (d.content new) u.held p.block ≡ step n g p.block (seen t.layout (d.content mid) t.held p.block))
        → ((which : ℕ) → which < block_count t.layout → which ≢ p.block → seen t.layout (d.content new) u.held which ≡ seen t.layout (d.content mid) t.held which)
        → Settled d t u mid new
        → ((groups1 : List (List Patch)) → length groups1 ≡ t.used → GroupsAre t.layout t.head (d.content mid) 0 groups1 → Done d t u mid new groups1 (SeenAt t (d.content mid)))
        → ((groups1 : List (List Patch)) → length groups1 ≡ t.used → GroupsAre t.layout t.head (d.content mid) 0 groups1 → Leaving d t mid new groups1 (SeenAt t (d.content mid)))
        → HasPatched d s u old new n g (i + 1)
    more_patched p u new few at lt own others settled done leaves = record {
      seen = λ which there. one which there (cases_eq which p.block);
      settled = record {
        calm = subst (λ (l : Layout). IsCalm (d.image new) l (d.content new)) k.layout settled.calm;
        clean = subst (λ (l : Layout). AreClean l (d.content new) u.held) k.layout settled.clean;
        only = λ was. settled.only (so_far.settled.only was);
        shut = λ was. settled.shut (so_far.settled.shut was);
      };
      done = λ groups long log.
          let dn = so_far.done groups long log in
          let d2 = done dn.groups1 dn.used_is (log_at s t (d.content mid) dn.groups1 k dn.log) in
          let later2 = subst (λ (l : Layout). Later (d.image mid) (d.image new) l dn.groups1 t.pending (d.content mid) d2.groups1 u.pending (d.content new) (SeenAt t (d.content mid))) k.layout d2.later in
          record {
            groups1 = d2.groups1;
            used_is = d2.used_is;
            log = log_back s t (d.content new) d2.groups1 k d2.log;
            later = later_joined (d.image old) (d.image mid) (d.image new) s.layout groups s.pending (d.content old) dn.groups1 t.pending (d.content mid) d2.groups1 u.pending (d.content new) (SeenOrPatched s (d.content old) n g) (SeenAt t (d.content mid)) dn.later later2
                (λ which x there is. seen_or which there x is);
          };
      any_moment = λ groups long log. more_leaves new groups long log leaves;
    }
      where
        more : (which : ℕ) → has_block which (take (i + 1) g) ≡ (if p.block == which then true else has_block which (take i g))
        more which = ap (has_block which) (take_more g i p lt ∙ ap (λ (q : Patch). take i g ++ q ∷ []) (sym at)) ∙ has_more which (take i g) p

        step_if : (a : Bool) (which : ℕ) (y : List ℕ) → step n g which (if a then step n g which y else y) ≡ step n g which y
        step_if true which y = step_twice n which g y few
        step_if false which y = refl

        one : (which : ℕ) → which < block_count s.layout → (which ≡ p.block) ⊎ (which ≡ p.block → ⊥)
            → seen s.layout (d.content new) u.held which ≡ (if has_block which (take (i + 1) g) then step n g which (seen s.layout (d.content old) s.held which) else seen s.layout (d.content old) s.held which)
        one which there (inl is) =
            let test : (p.block == which) ≡ true = eq-eqb p.block which (sym is) in
            let has : has_block which (take (i + 1) g) ≡ true = more which ∙ ap (λ (a : Bool). if a then true else has_block which (take i g)) test in
            ap (λ (l : Layout). seen l (d.content new) u.held which) (sym k.layout)
            ∙ subst (λ (w : ℕ). seen t.layout (d.content new) u.held w ≡ step n g w (seen t.layout (d.content mid) t.held w)) (sym is) own
            ∙ ap (step n g which) (ap (λ (l : Layout). seen l (d.content mid) t.held which) k.layout ∙ so_far.seen which there)
            ∙ step_if (has_block which (take i g)) which (seen s.layout (d.content old) s.held which)
            ∙ sym (rw has refl)
        one which there (inr differ) =
            let test : (p.block == which) ≡ false = ne_eqb p.block which (λ e. differ (sym e)) in
            let has : has_block which (take (i + 1) g) ≡ has_block which (take i g) = more which ∙ ap (λ (a : Bool). if a then true else has_block which (take i g)) test in
            let below : which < block_count t.layout = subst (λ (l : Layout). which < block_count l) (sym k.layout) there in
            ap (λ (l : Layout). seen l (d.content new) u.held which) (sym k.layout)
            ∙ others which below differ
            ∙ ap (λ (l : Layout). seen l (d.content mid) t.held which) k.layout ∙ so_far.seen which there
            ∙ sym (rw has refl)

    -- a patch of a block that has the group already
    pub patched_again : (p : Patch) → p ≡ get_or g i p → i < length g → has_block p.block (take i g) ≡ true → HasPatched d s t old mid n g (i + 1)
    patched_again p at lt has = record {
      seen = λ which there. so_far.seen which there
          ∙ ap (λ (a : Bool). if a then step n g which (seen s.layout (d.content old) s.held which) else seen s.layout (d.content old) s.held which) (sym (same which));
      settled = so_far.settled;
      done = so_far.done;
      any_moment = so_far.any_moment;
    }
      where
        by : (which : ℕ) → (which ≡ p.block) ⊎ (which ≡ p.block → ⊥) → (if p.block == which then true else has_block which (take i g)) ≡ has_block which (take i g)
        by which (inl is) = rw (eq-eqb p.block which (sym is)) (sym (subst (λ (w : ℕ). has_block w (take i g) ≡ true) (sym is) has))
        by which (inr differ) = rw (ne_eqb p.block which (λ e. differ (sym e))) refl

        same : (which : ℕ) → has_block which (take (i + 1) g) ≡ has_block which (take i g)
        same which = ap (has_block which) (take_more g i p lt ∙ ap (λ (q : Patch). take i g ++ q ∷ []) (sym at)) ∙ has_more which (take i g) p ∙ by which (cases_eq which p.block)

    -- at the end each block has the group
    pub all_patched : i ≡ length g → (which : ℕ) → which < block_count s.layout → seen s.layout (d.content mid) t.held which ≡ step n g which (seen s.layout (d.content old) s.held which)
    all_patched all which there =
        so_far.seen which there
        ∙ ap (λ (ps : List Patch). if has_block which ps then step n g which (seen s.layout (d.content old) s.held which) else seen s.layout (d.content old) s.held which) (ap (λ (j : ℕ). take j g) all ∙ take_all (length g) g (omega arith))
        ∙ whole (has_block which g) refl
      where
        whole : (a : Bool) → has_block which g ≡ a → (if a then step n g which (seen s.layout (d.content old) s.held which) else seen s.layout (d.content old) s.held which) ≡ step n g which (seen s.layout (d.content old) s.held which)
        whole true is = refl
        whole false is = sym (step_none n which g (seen s.layout (d.content old) s.held which) is)
