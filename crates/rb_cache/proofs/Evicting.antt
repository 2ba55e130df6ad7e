-- A call that evicts: a flush, a batch, and a read; and many batches one after another.
use Rattle.std.proofs.Common.{◌≡◌, ◌⊎◌, inl, inr, ⊎_elim, ℕ, ◌<◌, ◌≤◌, List, [], ◌++◌, arith}
use Rattle.std.proofs.Common.{ap, sym, ◌∙◌, subst, refl, append-nil}
use Rattle.rb_base.specs.Groups.{Patch}
use Rattle.rb_base.specs.Moments.{weaker, joined}
use Rattle.rb_disk.specs.Moments.{Leaves, Rests, rests_leave}
use Rattle.rb_disk.specs.declared.disk.Disk.{Ghosts}
use Rattle.rb_layout.specs.Regions.{block_count, block_offset, file_length, log_offset}
use Rattle.rb_layout.specs.declared.layout.Head.{Head}
use Rattle.rb_layout.specs.declared.layout.Layout.{Layout}
use Rattle.rb_log.specs.GroupLaws.{same_group_log}
use Rattle.rb_log.specs.GroupSlots.{FlushedOrNot, GroupsAre}
use Rattle.rb_twin.specs.Batches.{Image, with_batch}
use Rattle.rb_twin.specs.Twins.{home, twin_gate, TwinSome}
use Rattle.rb_cache.specs.Evictions.{Flushed, TwinWrote}
use Rattle.rb_cache.specs.OnDisk.{IsCalm, Later, OnDisk}
use Rattle.rb_cache.proofs.Parts.{blocks_behind, front_less, gate_behind, home_behind, part_back, part_on, same_part}
use Rattle.rb_cache.proofs.Parts.{slots_front}
use Rattle.rb_cache.proofs.Steps.{flush_on_disk, later_joined, on_disk_later, twin_on_disk}

module _ {D : Type 0} (d : Ghosts D)
    (counts : (disk : D) (t : ℕ) (c : List ℕ) → t ≤ d.moment disk → d.image disk c → d.image_since disk t c)
    (only : (disk : D) (c : List ℕ) → d.image_since disk (d.moment disk) c → d.image disk c) (l : Layout) (head : Head) where
  -- after a flush all is calm again
  pub flushed_calm : (groups pending : List (List Patch)) (old new : D) → IsCalm (d.image old) l (d.content old)
      → Flushed d l head groups pending old new → IsCalm (d.image new) l (d.content new)
  flushed_calm groups pending old new calm f =
      let some : (c : List ℕ) → d.image new c → FlushedOrNot (d.image old) l head groups pending c =
      λ c here. f.any_moment.each c (counts new (d.moment old) c f.any_moment.later here) in
      record {
        whole = f.outside.long ∙ calm.whole;
        slots = f.durable;
        blocks = λ c here.
            let o = (some c here).outside in
            let first = block_offset l 0 in
            let last = file_length l in
            let back = part_back first last (d.content old) (d.content new)
            (blocks_behind l (d.content new) (d.content old) f.outside.long f.outside.behind) in
            part_on first last (d.content new) (d.content old) c back
            (part_on first last (d.content old) o.0 c (calm.blocks o.0 o.1) (blocks_behind l c o.0 o.2.long o.2.behind));
        shut = λ c here is. let o = (some c here).outside in calm.shut o.0 o.1 (sym (gate_behind l c o.0 o.2.behind) ∙ is);
      }

  -- and after the write of a batch
  pub wrote_calm : (batch : List Image) (old new : D) → IsCalm (d.image old) l (d.content old) → TwinWrote d l batch old new
      → IsCalm (d.image new) l (d.content new)
  wrote_calm batch old new calm w = record {
    whole = w.outside.long ∙ calm.whole;
    slots = λ c here. same_part (log_offset 0) (log_offset l.log) (d.content new) c (w.durable c here);
    blocks = λ c here. same_part (block_offset l 0) (file_length l) (d.content new) c (w.durable c here);
    shut = λ c here is. let gate = ap (twin_gate l) (w.durable c here) in let shut = w.shut in omega (arith, gate, shut, is);
  }

  -- a flush and a batch
  module _ (groups pending : List (List Patch)) (batch : List Image) (may : ℕ → List ℕ → Type 0) (old mid new : D)
      (in_log : head.slot < l.log) (calm : IsCalm (d.image old) l (d.content old))
      (f : Flushed d l head groups pending old mid) (w : TwinWrote d l batch mid new)
      (comes : (which : ℕ) → which < block_count l
      → (with_batch batch which (home l (d.content old) which) ≡ home l (d.content old) which)
      ⊎ may which (with_batch batch which (home l (d.content old) which))) where
    abbrev Mine : List ℕ → Type 0
    Mine = OnDisk (d.image old) l head groups pending (d.content old) may

    homes_mid : (which : ℕ) → home l (d.content mid) which ≡ home l (d.content old) which
    homes_mid which = home_behind l (d.content mid) (d.content old) which f.outside.behind

    comes_mid : (which : ℕ) → which < block_count l
        → (with_batch batch which (home l (d.content mid) which) ≡ home l (d.content mid) which)
        ⊎ may which (with_batch batch which (home l (d.content mid) which))
    comes_mid which lt = subst (λ (x : List ℕ). (with_batch batch which x ≡ x) ⊎ may which (with_batch batch which x))
        (sym (homes_mid which)) (comes which lt)

    mid_later : Later (d.image old) (d.image mid) l groups pending (d.content old) (groups ++ pending) [] (d.content mid) may
    mid_later = record {
      front = λ c here.
          let o = (f.any_moment.each c (counts mid (d.moment old) c f.any_moment.later here)).outside in (o.0, o.1, o.2.before);
      log = inr (refl, refl, λ which lt. inl (homes_mid which));
    }

    pub batch_leaves : Leaves d old new Mine
    batch_leaves = joined d.moment d.image_since old mid new Mine
        (weaker d.moment d.image_since old mid (FlushedOrNot (d.image old) l head groups pending) Mine
        (λ c some. flush_on_disk (d.image old) l head (d.content old) calm groups pending may c some) f.any_moment)
        (weaker d.moment d.image_since mid new (TwinSome (d.image mid) l batch (d.content mid)) Mine
        (λ c some. on_disk_later (d.image old) (d.image mid) l head groups pending (d.content old) (groups ++ pending) []
        (d.content mid) may may mid_later (λ which x lt m. m) c
        (twin_on_disk (d.image mid) l head (d.content mid) (flushed_calm groups pending old mid calm f) (groups ++ pending) batch
        may c in_log f.log comes_mid some)) w.any_moment)

    -- seen from the start, the disk is a later one
    pub batch_later : Later (d.image old) (d.image new) l groups pending (d.content old) (groups ++ pending) [] (d.content new) may
    batch_later = record {
      front = λ c here.
          let o = (w.any_moment.each c (counts new (d.moment mid) c w.any_moment.later here)).outside in
          let e = mid_later.front o.0 o.1 in (e.0, e.1, front_less l c o.0 o.2.before ∙ e.2);
      log = inr (
        refl,
        refl,
        λ which lt.
            let is : home l (d.content new) which ≡ with_batch batch which (home l (d.content old) which) =
            w.written which ∙ ap (with_batch batch which) (homes_mid which) in
            ⊎_elim (λ same. inl (is ∙ same)) (λ m. inr (subst (may which) (sym is) m)) (comes which lt),
      );
    }

    pub batch_calm : IsCalm (d.image new) l (d.content new)
    batch_calm = wrote_calm batch mid new (flushed_calm groups pending old mid calm f) w

    pub batch_log : GroupsAre l head (d.content new) 0 (groups ++ pending)
    batch_log = same_group_log l head (d.content mid) (d.content new) (groups ++ pending) in_log
        (slots_front l (d.content new) (d.content mid) w.outside.long w.outside.before) f.log

    -- and then a read, which changes nothing
    pub evicting_leaves : (last : D) → Rests d new last → Leaves d old last Mine
    evicting_leaves last still = joined d.moment d.image_since old new last Mine batch_leaves
        (rests_leave d new last Mine (only new)
        (λ c here. batch_leaves.each c (counts new (d.moment old) c batch_leaves.later here)) still)

  -- Many batches one after another: after a flush, and after each batch, no more came home than may.
  module _ (groups pending : List (List Patch)) (may : ℕ → List ℕ → Type 0) (old : D) where
    pub record Cleaning (now : D) : Type 0 where
      pub leaves : Leaves d old now (OnDisk (d.image old) l head groups pending (d.content old) may)
      pub later : Later (d.image old) (d.image now) l groups pending (d.content old) (groups ++ pending) [] (d.content now) may
      pub calm : IsCalm (d.image now) l (d.content now)
      pub log : GroupsAre l head (d.content now) 0 (groups ++ pending)

    pub clean_begun : (mid : D) → IsCalm (d.image old) l (d.content old) → Flushed d l head groups pending old mid → Cleaning mid
    clean_begun mid calm f = record {
      leaves = weaker d.moment d.image_since old mid (FlushedOrNot (d.image old) l head groups pending)
          (OnDisk (d.image old) l head groups pending (d.content old) may)
          (λ c some. flush_on_disk (d.image old) l head (d.content old) calm groups pending may c some) f.any_moment;
      later = record {
        front = λ c here.
            let o = (f.any_moment.each c (counts mid (d.moment old) c f.any_moment.later here)).outside in (o.0, o.1, o.2.before);
        log = inr (refl, refl, λ which lt. inl (home_behind l (d.content mid) (d.content old) which f.outside.behind));
      };
      calm = flushed_calm groups pending old mid calm f;
      log = f.log;
    }

    pub clean_more : (batch : List Image) (mid new : D) → head.slot < l.log → Cleaning mid → TwinWrote d l batch mid new
        → ((which : ℕ) → which < block_count l
        → (with_batch batch which (home l (d.content mid) which) ≡ home l (d.content mid) which)
        ⊎ may which (with_batch batch which (home l (d.content mid) which))) → Cleaning new
    clean_more batch mid new in_log so_far w comes =
        let all = groups ++ pending in
        let mine = OnDisk (d.image old) l head groups pending (d.content old) may in
        let step : Later (d.image mid) (d.image new) l all [] (d.content mid) all [] (d.content new) may = record {
          front = λ c here.
              let o = (w.any_moment.each c (counts new (d.moment mid) c w.any_moment.later here)).outside in
              (o.0, o.1, front_less l c o.0 o.2.before);
          log = inr (
            sym (append-nil all),
            refl,
            λ which lt. ⊎_elim (λ same. inl (w.written which ∙ same))
                (λ m. inr (subst (may which) (sym (w.written which)) m)) (comes which lt),
          );
        } in record {
          leaves = joined d.moment d.image_since old mid new mine so_far.leaves
              (weaker d.moment d.image_since mid new (TwinSome (d.image mid) l batch (d.content mid)) mine
              (λ c some. on_disk_later (d.image old) (d.image mid) l head groups pending (d.content old) all [] (d.content mid) may
              may so_far.later (λ which x lt m. m) c
              (twin_on_disk (d.image mid) l head (d.content mid) so_far.calm all batch may c in_log so_far.log comes some))
              w.any_moment);
          later = later_joined (d.image old) (d.image mid) (d.image new) l groups pending (d.content old) all [] (d.content mid) all []
              (d.content new) may may so_far.later step (λ which x lt m. m);
          calm = wrote_calm batch mid new so_far.calm w;
          log = same_group_log l head (d.content mid) (d.content new) all in_log
              (slots_front l (d.content new) (d.content mid) w.outside.long w.outside.before) so_far.log;
        }
