-- The loop over the groups of a log, over any cache.
use Rattle.std.proofs.Common.{◌≡◌, inl, ⊎_elim, ℕ, ◌+◌, ◌^◌, ◌<◌, List, [], ◌∷◌, ◌++◌, length, take, get_or, arith, ap, sym, ◌∙◌, subst, refl}
use Rattle.std.proofs.lemmas.List.{length-take-le, take_more}
use Rattle.rb_base.specs.Groups.{Patch}
use Rattle.rb_base.specs.Moments.{begun, joined, weaker}
use Rattle.rb_disk.specs.declared.disk.Disk.{Ghosts}
use Rattle.rb_layout.specs.Regions.{block_count}
use Rattle.rb_layout.specs.declared.layout.Layout.{Layout}
use Rattle.law_redo.specs.Rolled.{rolled, step}
use Rattle.law_redo.proofs.Rolling.{rolled_joined}
use Rattle.rb_cache.specs.Frames.{seen, AreClean}
use Rattle.rb_cache.specs.OnDisk.{IsCalm, Later, OnDisk}
use Rattle.rb_log.specs.GroupSlots.{GroupsAre}
use Rattle.rb_cache.proofs.Steps.{later_joined, on_disk_later}
use Rattle.rb_store.specs.CachedFiles.{CachedState, IsCachedMemory, Done, Keeps, Leaving, RollsTo, SeenOrPatched, Settled}
use Rattle.rb_store.proofs.GroupSteps.{comes_part}
use Rattle.rb_store.specs.Patched.{HasRolled, RolledSoFar}
use Rattle.rb_store.proofs.PatchLemmas.{first_on_disk, leaving_at, log_at, log_back}

module _ {D : Type 0} (d : Ghosts D) where
  pub first_rolled : (tells : Type 0) (s : CachedState) (old : D) (n : ℕ) (gs : List (List Patch)) → IsCachedMemory s → s.batch ≡ [] → (tells → IsCalm (d.image old) s.layout (d.content old)) → (tells → AreClean s.layout (d.content old) s.held)
      → (tells → (c : List ℕ) → d.image_since old (d.moment old) c → d.image old c) → RolledSoFar d tells s s old old n gs 0
  first_rolled tells s old n gs memory batch calm clean only = record {
    memory = memory;
    batch = batch;
    keeps = record { layout = refl; head = refl };
    numbers = refl;
    waits = inl refl;
    still = refl;
    told = λ told. record {
      seen = λ k lt. refl;
      settled = record { calm = calm told; clean = clean told; only = λ o. o; shut = λ o. o };
      done = λ groups long log. record {
        groups1 = groups;
        used_is = long;
        log = log;
        later = record { front = λ c here. (c, here, refl); log = inl (refl, refl, λ k lt. refl) };
      };
      any_moment = λ groups long log. begun d.moment d.image_since old (OnDisk (d.image old) s.layout s.head groups s.pending (d.content old) (RollsTo s (d.content old) n gs))
          (λ c left. first_on_disk d s old groups (RollsTo s (d.content old) n gs) (calm told) memory.in_log log c (only told c left));
    };
  }

  module _ (s t : CachedState) (old mid : D) (n : ℕ) (gs : List (List Patch)) (i : ℕ) (g : List Patch) (at : g ≡ get_or gs i g) (lt : i < length gs) (fits : n + length gs < 2 ^ 63) (k : Keeps s t) (so_far : HasRolled d s t old mid n gs i) where
    -- one group more
    one_more : (which : ℕ) (x : List ℕ) → step (n + i) g which (rolled n (take i gs) which x) ≡ rolled n (take (i + 1) gs) which x
    one_more which x =
        ap (λ (m : ℕ). step m g which (rolled n (take i gs) which x)) (omega (arith, length-take-le i gs (omega (arith, lt))))
        ∙ sym (rolled_joined which n (take i gs) (g ∷ []) x)
        ∙ ap (λ (l : List (List Patch)). rolled n l which x) (ap (λ (q : List Patch). take i gs ++ q ∷ []) at ∙ sym (take_more gs i g lt))

    seen_mid : (which : ℕ) → which < block_count s.layout → seen t.layout (d.content mid) t.held which ≡ rolled n (take i gs) which (seen s.layout (d.content old) s.held which)
    seen_mid which there = ap (λ (l : Layout). seen l (d.content mid) t.held which) k.layout ∙ so_far.seen which there

    pub rolls : (which : ℕ) → which < block_count s.layout → (x : List ℕ) → SeenOrPatched t (d.content mid) (n + i) g which x → RollsTo s (d.content old) n gs which x
    rolls which there x may = ⊎_elim
        (λ is. ap (rolled n gs which) (is ∙ seen_mid which there) ∙ comes_part n gs which i (seen s.layout (d.content old) s.held which) (omega (arith, lt)) (omega (arith, fits)))
        (λ is. ap (rolled n gs which) (is ∙ ap (step (n + i) g which) (seen_mid which there) ∙ one_more which (seen s.layout (d.content old) s.held which))
        ∙ comes_part n gs which (i + 1) (seen s.layout (d.content old) s.held which) (omega (arith, lt)) (omega (arith, fits))) may

    pub roll_leaves : (new : D) (groups : List (List Patch)) (long : length groups ≡ s.used) (log : GroupsAre s.layout s.head (d.content old) 0 groups)
        → ((groups1 : List (List Patch)) → length groups1 ≡ t.used → GroupsAre t.layout t.head (d.content mid) 0 groups1 → Leaving d t mid new groups1 (SeenOrPatched t (d.content mid) (n + i) g))
        → Leaving d s old new groups (RollsTo s (d.content old) n gs)
    roll_leaves new groups long log call =
        let dn = so_far.done groups long log in
        let mine = OnDisk (d.image old) s.layout s.head groups s.pending (d.content old) (RollsTo s (d.content old) n gs) in
        let here = OnDisk (d.image mid) s.layout s.head dn.groups1 t.pending (d.content mid) (SeenOrPatched t (d.content mid) (n + i) g) in
        joined d.moment d.image_since old mid new mine (so_far.any_moment groups long log)
        (weaker d.moment d.image_since mid new here mine
        (on_disk_later (d.image old) (d.image mid) s.layout s.head groups s.pending (d.content old) dn.groups1 t.pending (d.content mid) (RollsTo s (d.content old) n gs) (SeenOrPatched t (d.content mid) (n + i) g) dn.later
        (λ which x there may. rolls which there x may))
        (leaving_at d s t mid new dn.groups1 (SeenOrPatched t (d.content mid) (n + i) g) k (call dn.groups1 dn.used_is (log_at d s t (d.content mid) dn.groups1 k dn.log))))

    pub more_rolled : (u : CachedState) (new : D)
        → ((which : ℕ) → which < block_count t.layout → seen t.layout (d.content new) u.held which ≡ step (n + i) g which (seen t.layout (d.content mid) t.held which))
        → Settled d t u mid new
        → ((groups1 : List (List Patch)) → length groups1 ≡ t.used → GroupsAre t.layout t.head (d.content mid) 0 groups1 → Done d t u mid new groups1 (SeenOrPatched t (d.content mid) (n + i) g))
        → ((groups1 : List (List Patch)) → length groups1 ≡ t.used → GroupsAre t.layout t.head (d.content mid) 0 groups1 → Leaving d t mid new groups1 (SeenOrPatched t (d.content mid) (n + i) g))
        → HasRolled d s u old new n gs (i + 1)
    more_rolled u new seen_new settled done leaves = record {
      seen = λ which there.
          let below : which < block_count t.layout = subst (λ (l : Layout). which < block_count l) (sym k.layout) there in
          ap (λ (l : Layout). seen l (d.content new) u.held which) (sym k.layout) ∙ seen_new which below ∙ ap (step (n + i) g which) (seen_mid which there) ∙ one_more which (seen s.layout (d.content old) s.held which);
      settled = record {
        calm = subst (λ (l : Layout). IsCalm (d.image new) l (d.content new)) k.layout settled.calm;
        clean = subst (λ (l : Layout). AreClean l (d.content new) u.held) k.layout settled.clean;
        only = λ was. settled.only (so_far.settled.only was);
        shut = λ was. settled.shut (so_far.settled.shut was);
      };
      done = λ groups long log.
          let dn = so_far.done groups long log in
          let d2 = done dn.groups1 dn.used_is (log_at d s t (d.content mid) dn.groups1 k dn.log) in
          let later2 = subst (λ (l : Layout). Later (d.image mid) (d.image new) l dn.groups1 t.pending (d.content mid) d2.groups1 u.pending (d.content new) (SeenOrPatched t (d.content mid) (n + i) g)) k.layout d2.later in
          record {
            groups1 = d2.groups1;
            used_is = d2.used_is;
            log = log_back d s t (d.content new) d2.groups1 k d2.log;
            later = later_joined (d.image old) (d.image mid) (d.image new) s.layout groups s.pending (d.content old) dn.groups1 t.pending (d.content mid) d2.groups1 u.pending (d.content new) (RollsTo s (d.content old) n gs) (SeenOrPatched t (d.content mid) (n + i) g) dn.later later2
                (λ which x there may. rolls which there x may);
          };
      any_moment = λ groups long log. roll_leaves new groups long log leaves;
    }
