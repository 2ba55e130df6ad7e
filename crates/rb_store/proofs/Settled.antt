-- The clauses of a store's calls, from those of the cache's.
use Rattle.std.proofs.Common.{◌≡◌, ◌≢◌, inl, inr, ⊎_elim, ℕ, ◌+◌, ◌^◌, ◌<◌, List, ◌++◌, length, take, drop, arith, ap, sym, ◌∙◌, subst, refl, append-nil, Some}
use Rattle.std.proofs.lemmas.List.{take_all, drop_all, length-append, length-drop, length-take-le, take-append-drop}
use Rattle.std.specs.List.{AllByRecursion}
use Rattle.rb_base.specs.Blocks.{block_of, after_groups}
use Rattle.rb_base.specs.Groups.{Patch, IsGroup}
use Rattle.rb_base.specs.Moments.{begun, weaker}
use Rattle.rb_base.specs.Settling.{after_joined, told_same}
use Rattle.rb_base.specs.Stores.{OpensToSome, Settles}
use Rattle.rb_disk.specs.DiskModel.{Only}
use Rattle.rb_disk.specs.Moments.{Leaves}
use Rattle.rb_disk.specs.declared.disk.Disk.{Ghosts}
use Rattle.rb_layout.specs.Regions.{block_count, file_length, shape_of}
use Rattle.rb_layout.specs.declared.layout.Head.{Head}
use Rattle.rb_layout.specs.declared.layout.Layout.{Layout}
use Rattle.law_redo.specs.Rolled.{rolled}
use Rattle.rb_cache.specs.OnDisk.{Later, OnDisk}
use Rattle.rb_log.specs.GroupSlots.{GroupsAre}
use Rattle.rb_twin.specs.Twins.{twin_gate}
use Rattle.rb_twin.specs.TwinLaws.{kept_shut}
use Rattle.rb_store.specs.Meaning.{Opens}
use Rattle.rb_store.specs.StoreStates.{StoreState, StoreLeaves, IsStable, IsStableAt, blocks_in}
use Rattle.rb_store.specs.StoreLaws.{stable_left}
use Rattle.rb_store.proofs.Between.{between}

-- What a later moment has on the disk, by what is read there.
module _ (image image1 : List ℕ → Type 0) (l : Layout) (head : Head) (groups pending : List (List Patch)) (file : List ℕ) (groups1 pending1 : List (List Patch)) (file1 : List ℕ) (may : ℕ → List ℕ → Type 0) where
  pub later_on_disk : Later image image1 l groups pending file groups1 pending1 file1 may → image1 file1 → length file1 ≡ file_length l → GroupsAre l head file1 0 groups1 → twin_gate l file1 ≢ 1
      → (some : OnDisk image l head groups pending file may file1) × (pending1 ≡ drop some.count pending) × (length groups1 ≡ length groups + some.count)
  later_on_disk later here whole log shut =
      let front = later.front file1 here in
      ⊎_elim
      (λ still. (
        record {
          whole = whole;
          front = front;
          count = 0;
          few = omega arith;
          log = subst (GroupsAre l head file1 0) (still.0 ∙ sym (append-nil groups)) log;
          twin = λ gate. absurd (shut gate);
          homes = λ which lt. inl (kept_shut l file1 which shut ∙ still.2 which lt);
        },
        still.1,
        omega (arith, ap length still.0),
      ))
      (λ flushed. (
        record {
          whole = whole;
          front = front;
          count = length pending;
          few = omega arith;
          log = subst (GroupsAre l head file1 0) (flushed.0 ∙ ap (λ (p : List (List Patch)). groups ++ p) (sym (take_all (length pending) pending (omega arith)))) log;
          twin = λ gate. absurd (shut gate);
          homes = λ which lt. ⊎_elim (λ same. inl (kept_shut l file1 which shut ∙ same)) (λ m. inr (refl, subst (may which) (sym (kept_shut l file1 which shut)) m)) (flushed.2 which lt);
        },
        flushed.1 ∙ sym (drop_all (length pending) pending (omega arith)),
        omega (arith, ap length flushed.0, length-append groups pending),
      )) later.log

module _ {D : Type 0} (d : Ghosts D) where
  -- a store in which blocks are stable, where no call is made
  module _ (s : StoreState D) (b : List (List ℕ)) (n : ℕ) (st : IsStable d s b n) where
    pub still_settles : Settles n s.pending b (IsStable d s) s.pending
    still_settles = record { count = 0; few = omega arith; settled = told_same (IsStable d s) _ _ _ _ refl (omega arith) st; waits = refl }

    pub still_moments : ((c : List ℕ) → d.image_since s.disk (d.moment s.disk) c → d.image s.disk c)
        → StoreLeaves d s s (OpensToSome (Opens (shape_of s.layout) (Some s.layout.log)) n s.pending b)
    still_moments only_now = begun (λ (x : StoreState D). d.moment x.disk) (λ (x : StoreState D) t c. d.image_since x.disk t c) s (OpensToSome (Opens (shape_of s.layout) (Some s.layout.log)) n s.pending b)
        (λ c left. record {
          count = 0;
          few = omega arith;
          opening = told_same (Opens (shape_of s.layout) (Some s.layout.log) c) _ _ _ _ refl (omega arith) (stable_left c st (only_now c left));
        })

  -- A store in which blocks are stable, and calls that give it these groups, those that waited first.
  module _ (s : StoreState D) (b : List (List ℕ)) (n : ℕ) (st : IsStable d s b n) (shut : twin_gate s.layout (d.content s.disk) ≢ 1) (given : List (List Patch)) (valid : AllByRecursion IsGroup given) (fits : n + length given < 2 ^ 63)
      (may : ℕ → List ℕ → Type 0) (comes : (which : ℕ) (x : List ℕ) → which < block_count s.layout → may which x → rolled st.opens.means.head.number (st.opens.means.groups ++ given) which x ≡ block_of (after_groups (n + 1) given b) which) where
    pub store_moments : (new : StoreState D) → Leaves d s.disk new.disk (OnDisk (d.image s.disk) s.layout st.opens.means.head st.opens.means.groups given (d.content s.disk) may) → StoreLeaves d s new (OpensToSome (Opens (shape_of s.layout) (Some s.layout.log)) n given b)
    store_moments new leaves =
        let P = OpensToSome (Opens (shape_of s.layout) (Some s.layout.log)) n given b in
        let w = weaker d.moment d.image_since s.disk new.disk (OnDisk (d.image s.disk) s.layout st.opens.means.head st.opens.means.groups given (d.content s.disk) may) P
        (λ c some. record {
          count = some.count;
          few = some.few;
          opening = record { layout = s.layout; shape_is = refl; slots_are = refl; opens = (between (d.image s.disk) s.layout (d.content s.disk) b n st.opens shut st.only given valid fits may comes c some).opens };
        }) leaves in
        record { later = w.later; each = w.each; earlier = w.earlier }

    -- and the store afterwards
    module _ (groups1 pending1 : List (List Patch)) (new : StoreState D) (layout_is : new.layout ≡ s.layout) (head_is : new.head ≡ s.head) (used_is : new.used ≡ length groups1) (pending_is : new.pending ≡ pending1) (number_is : new.number ≡ n + length given)
        (only : Only (d.content new.disk) (d.image new.disk)) (here : d.image new.disk (d.content new.disk)) (whole : length (d.content new.disk) ≡ file_length s.layout) (log : GroupsAre s.layout st.opens.means.head (d.content new.disk) 0 groups1) (shut1 : twin_gate s.layout (d.content new.disk) ≢ 1)
        (later : Later (d.image s.disk) (d.image new.disk) s.layout st.opens.means.groups given (d.content s.disk) groups1 pending1 (d.content new.disk) may) (reads : blocks_in d new ≡ after_groups (n + 1) given b) where
      pub store_settles : Settles n given b (IsStable d new) new.pending
      store_settles =
          let o = later_on_disk (d.image s.disk) (d.image new.disk) s.layout st.opens.means.head st.opens.means.groups given (d.content s.disk) groups1 pending1 (d.content new.disk) may later here whole log shut1 in
          let some = o.0 in
          let firsts = take some.count given in
          let long = length-take-le some.count given some.few in
          let rest : new.pending ≡ drop some.count given = pending_is ∙ o.1 in
          let left = ap length rest in
          let few = some.few in
          let opens1 = between (d.image s.disk) s.layout (d.content s.disk) b n st.opens shut st.only given valid fits may comes (d.content new.disk) some in
          record {
            count = some.count;
            few = some.few;
            settled = subst (λ (l : Layout). IsStableAt l new.head new.used new.pending new.number (blocks_in d new) (d.content new.disk) (d.image new.disk) (after_groups (n + 1) firsts b) (n + some.count)) (sym layout_is) (record {
              only = only;
              opens = opens1.opens;
              head_is = opens1.head_is ∙ st.head_is ∙ sym head_is;
              used_is = omega (arith, ap length opens1.groups_are, length-append st.opens.means.groups firsts, long, used_is, o.2);
              numbered = omega (arith, left, length-drop some.count given, number_is, few);
              reads = reads ∙ ap (λ (gs : List (List Patch)). after_groups (n + 1) gs b) (sym (take-append-drop some.count given))
                  ∙ after_joined (n + 1) firsts (drop some.count given) b
                  ∙ ap (λ (k : ℕ). after_groups k (drop some.count given) (after_groups (n + 1) firsts b)) (omega (arith, long))
                  ∙ ap (λ (gs : List (List Patch)). after_groups (n + some.count + 1) gs (after_groups (n + 1) firsts b)) (sym rest);
            });
            waits = rest;
          }
