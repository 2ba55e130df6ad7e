-- What each step of an eviction leaves is on the disk as `OnDisk` says, also when it is seen from an earlier moment.
use Rattle.std.proofs.Common.{◌≡◌, ◌≢◌, ◌⊎◌, inl, inr, ⊎_elim, ℕ, ◌<◌, ◌≤◌, List, [], ◌++◌, length, take, arith}
use Rattle.std.proofs.Common.{ap, sym, ◌∙◌, subst, refl, append-nil}
use Rattle.std.proofs.lemmas.List.{take_all}
use Rattle.rb_base.specs.Groups.{Patch}
use Rattle.rb_layout.specs.Regions.{block_count, log_offset}
use Rattle.rb_layout.specs.declared.layout.Head.{Head}
use Rattle.rb_layout.specs.declared.layout.Layout.{Layout}
use Rattle.rb_log.specs.GroupLaws.{same_group_log}
use Rattle.rb_log.specs.GroupSlots.{FlushedOrNot, GroupsAre}
use Rattle.rb_twin.specs.Batches.{Image, with_batch}
use Rattle.rb_twin.specs.TwinLaws.{kept_shut}
use Rattle.rb_twin.specs.Twins.{home, kept, twin_gate, TwinSome}
use Rattle.rb_cache.specs.OnDisk.{IsCalm, Later, OnDisk}
use Rattle.rb_cache.proofs.Parts.{front_less, gate_behind, home_behind, home_part, part_on, slots_front}

module _ (image : List ℕ → Type 0) (l : Layout) (head : Head) (file : List ℕ) (calm : IsCalm image l file) where
  -- a moment of a flush
  pub flush_on_disk : (groups pending : List (List Patch)) (may : ℕ → List ℕ → Type 0) (c : List ℕ)
      → FlushedOrNot image l head groups pending c → OnDisk image l head groups pending file may c
  flush_on_disk groups pending may c some =
      let d = some.outside.0 in
      let here = some.outside.1 in
      let out = some.outside.2 in
      let shut : twin_gate l c ≢ 1 = λ is. calm.shut d here (sym (gate_behind l c d out.behind) ∙ is) in
      let came : (count : ℕ) × (count ≤ length pending) × GroupsAre l head c 0 (groups ++ take count pending) = ⊎_elim
      (λ none. (0, omega arith, subst (GroupsAre l head c 0) (sym (append-nil groups)) none))
      (λ all. (
        length pending,
        omega arith,
        subst (λ (p : List (List Patch)). GroupsAre l head c 0 (groups ++ p))
            (sym (take_all (length pending) pending (omega arith))) all,
      )) some.log in
      record {
        whole = out.long ∙ (calm.slots d here).long ∙ calm.whole;
        front = (d, here, out.before);
        count = came.0;
        few = came.1;
        log = came.2;
        twin = λ gate. absurd (shut gate);
        homes = λ which lt. inl (kept_shut l c which shut ∙ home_behind l c d which out.behind
            ∙ home_part l file d which lt (calm.blocks d here));
      }

  -- a moment of the write of a batch, where nothing waits
  pub twin_on_disk : (groups : List (List Patch)) (batch : List Image) (may : ℕ → List ℕ → Type 0) (c : List ℕ)
      → head.slot < l.log → GroupsAre l head file 0 groups
      → ((which : ℕ) → which < block_count l → (with_batch batch which (home l file which) ≡ home l file which)
      ⊎ may which (with_batch batch which (home l file which)))
      → TwinSome image l batch file c → OnDisk image l head groups [] file may c
  twin_on_disk groups batch may c in_log log comes some =
      let d = some.outside.0 in
      let here = some.outside.1 in
      let same = some.outside.2 in
      let slots = part_on (log_offset 0) (log_offset l.log) file d c (calm.slots d here) (slots_front l c d same.long same.before) in
      record {
        whole = same.long ∙ (calm.slots d here).long ∙ calm.whole;
        front = (d, here, front_less l c d same.before);
        count = 0;
        few = omega arith;
        log = subst (GroupsAre l head c 0) (sym (append-nil groups)) (same_group_log l head file c groups in_log slots log);
        twin = some.twin;
        homes = λ which lt. ⊎_elim (λ was. inl (was which))
            (λ now. ⊎_elim (λ home. inl (now which ∙ home)) (λ m. inr (refl, subst (may which) (sym (now which)) m)) (comes which lt))
            some.blocks;
      }

module _ (image image1 : List ℕ → Type 0) (l : Layout) (head : Head) (groups pending : List (List Patch)) (file : List ℕ) (groups1 pending1 : List (List Patch)) (file1 : List ℕ) (may may1 : ℕ → List ℕ → Type 0)
    (later : Later image image1 l groups pending file groups1 pending1 file1 may) (so : (which : ℕ) (x : List ℕ) → which < block_count l → may1 which x → may which x) where
  pub on_disk_later : (c : List ℕ) → OnDisk image1 l head groups1 pending1 file1 may1 c → OnDisk image l head groups pending file may c
  on_disk_later c some =
      let before = later.front some.front.0 some.front.1 in
      let front : (e : List ℕ) × image e × (take (log_offset 0) c ≡ take (log_offset 0) e) = (before.0, before.1, some.front.2 ∙ before.2) in
      ⊎_elim (λ still. record {
        whole = some.whole;
        front = front;
        count = some.count;
        few = subst (λ (p : List (List Patch)). some.count ≤ length p) still.1 some.few;
        log = subst (λ (p : List (List Patch)). GroupsAre l head c 0 (groups ++ take some.count p)) still.1
            (subst (λ (g : List (List Patch)). GroupsAre l head c 0 (g ++ take some.count pending1)) still.0 some.log);
        twin = some.twin;
        homes = λ which lt. ⊎_elim (λ was. inl (was ∙ still.2 which lt))
            (λ m. inr (m.0 ∙ ap length still.1, so which (kept l c which) lt m.1)) (some.homes which lt);
      })
      (λ flushed. record {
        whole = some.whole;
        front = front;
        count = length pending;
        few = omega arith;
        log = subst (GroupsAre l head c 0) (all flushed.0 flushed.1) some.log;
        twin = some.twin;
        homes = λ which lt. ⊎_elim
            (λ was. ⊎_elim (λ same. inl (was ∙ same)) (λ m. inr (refl, subst (may which) (sym was) m)) (flushed.2 which lt))
            (λ m. inr (refl, so which (kept l c which) lt m.1)) (some.homes which lt);
      }) later.log
    where
      all : groups1 ≡ groups ++ pending → pending1 ≡ [] → groups1 ++ take some.count pending1 ≡ groups ++ take (length pending) pending
      all is none =
          let nothing : take some.count pending1 ≡ [] = ap (take some.count) none ∙ take_all some.count [] (omega arith) in
          ap (λ (g : List (List Patch)). g ++ take some.count pending1) is ∙ ap (λ (p : List (List Patch)). (groups ++ pending) ++ p) nothing
          ∙ append-nil (groups ++ pending) ∙ ap (λ (p : List (List Patch)). groups ++ p) (sym (take_all (length pending) pending (omega arith)))

-- A later moment of a later moment.
module _ (image image1 image2 : List ℕ → Type 0) (l : Layout) (groups pending : List (List Patch)) (file : List ℕ) (groups1 pending1 : List (List Patch)) (file1 : List ℕ) (groups2 pending2 : List (List Patch)) (file2 : List ℕ) (may may1 : ℕ → List ℕ → Type 0) where
  pub later_joined : Later image image1 l groups pending file groups1 pending1 file1 may → Later image1 image2 l groups1 pending1 file1 groups2 pending2 file2 may1 → ((which : ℕ) (x : List ℕ) → which < block_count l → may1 which x → may which x)
      → Later image image2 l groups pending file groups2 pending2 file2 may
  later_joined a b so = record {
    front = λ c here. let o = b.front c here in let e = a.front o.0 o.1 in (e.0, e.1, o.2 ∙ e.2);
    log = ⊎_elim
        (λ still. ⊎_elim
        (λ quiet. inl (quiet.0 ∙ still.0, quiet.1 ∙ still.1, λ which lt. quiet.2 which lt ∙ still.2 which lt))
        (λ now. inr (
          now.0 ∙ ap (λ (p : List (List Patch)). groups1 ++ p) still.1 ∙ ap (λ (g : List (List Patch)). g ++ pending) still.0,
          now.1,
          λ which lt. ⊎_elim (λ same. inl (same ∙ still.2 which lt)) (λ m. inr (so which _ lt m)) (now.2 which lt),
        )) b.log)
        (λ flushed. inr (⊎_elim
        (λ quiet. (quiet.0 ∙ flushed.0, quiet.1 ∙ flushed.1, λ which lt. was flushed.2 which lt (quiet.2 which lt)))
        (λ now. (
          now.0 ∙ ap (λ (p : List (List Patch)). groups1 ++ p) flushed.1 ∙ append-nil groups1 ∙ flushed.0,
          now.1,
          λ which lt. ⊎_elim (λ same. was flushed.2 which lt same) (λ m. inr (so which _ lt m)) (now.2 which lt),
        )) b.log)) a.log;
  }
    where
      was : ((which : ℕ) → which < block_count l → (home l file1 which ≡ home l file which) ⊎ may which (home l file1 which)) → (which : ℕ) → which < block_count l → home l file2 which ≡ home l file1 which
          → (home l file2 which ≡ home l file which) ⊎ may which (home l file2 which)
      was before which lt same = ⊎_elim (λ e. inl (same ∙ e)) (λ m. inr (subst (may which) (sym same) m)) (before which lt)
