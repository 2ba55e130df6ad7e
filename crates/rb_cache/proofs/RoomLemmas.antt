-- What a call leaves that flushes and writes a batch: of the log, of the disk and of what is seen.
use Rattle.std.proofs.Common.{Result, Ok, Err, OnOk, ◌≡◌, ◌⊎◌, inl, inr, ⊎_elim, ℕ, ◌+◌, ◌<◌, ◌≤◌, List, [], ◌++◌, length, arith, ap, sym, ◌∙◌, subst, refl, append-nil, length-append}
use Rattle.rb_base.specs.Groups.{Patch}
use Rattle.rb_base.specs.Moments.{begun, joined, weaker}
use Rattle.rb_disk.specs.DiskModel.{Only}
use Rattle.rb_disk.specs.Moments.{Leaves}
use Rattle.rb_disk.specs.Ranges.{SameBut}
use Rattle.rb_disk.specs.declared.disk.Disk.{Ghosts}
use Rattle.rb_layout.specs.Regions.{block_offset, file_length, log_offset, twin_offset}
use Rattle.rb_layout.specs.declared.layout.Layout.{Layout}
use Rattle.rb_log.specs.GroupLaws.{same_group_log}
use Rattle.rb_log.specs.GroupSlots.{FlushedOrNot, GroupsAre, LogState}
use Rattle.rb_log.specs.Slots.{gate_of, OutsideFrom, SameOutside, SameSlots}
use Rattle.rb_twin.specs.Batches.{Image, with_batch}
use Rattle.rb_twin.specs.TwinLaws.{kept_shut}
use Rattle.rb_twin.specs.Twins.{home, twin_gate, TwinSome}
use Rattle.rb_cache.specs.Calls.{IsDone, IsShutBehind, Leaving, LogHas, SeenAt, flushed}
use Rattle.rb_cache.specs.Frames.{AreClean, AreDifferent, AreSeen, Gathered, seen}
use Rattle.rb_cache.specs.OnDisk.{IsCalm, Later, OnDisk}
use Rattle.rb_cache.specs.declared.frame.Frame.{Frame}
use Rattle.rb_cache.proofs.FrameLemmas.{batch_seen, clean_after_batch, seen_after_batch}
use Rattle.rb_cache.proofs.Parts.{blocks_behind, front_less, gate_behind, home_behind, home_part, part_back, part_on, same_part, slots_front}
use Rattle.rb_cache.proofs.ShutLemmas.{flush_shut}
use Rattle.rb_cache.proofs.Steps.{flush_on_disk, on_disk_later, twin_on_disk}

module _ {D : Type 0} (d : Ghosts D)
    (counts : (disk : D) (t : ℕ) (c : List ℕ) → t ≤ d.moment disk → d.image disk c → d.image_since disk t c)
    (only : (disk : D) (c : List ℕ) → d.image_since disk (d.moment disk) c → d.image disk c)
    (l : Layout) (s : LogState) (in_log : s.head.slot < l.log) (old : D) (calm : IsCalm (d.image old) l (d.content old)) (before : List Frame) where
  abbrev May : ℕ → List ℕ → Type 0
  May = SeenAt l (d.content old) before

  -- no call at all
  pub stays_leaves : Leaving d l s old old May
  stays_leaves = λ groups has. begun d.moment d.image_since old (OnDisk (d.image old) l s.head groups s.pending (d.content old) May)
      (λ c left. first groups has c (only old c left))
    where
      first : (groups : List (List Patch)) → LogHas l s (d.content old) groups → (c : List ℕ) → d.image old c → OnDisk (d.image old) l s.head groups s.pending (d.content old) May c
      first groups has c here = record {
        whole = (calm.slots c here).long ∙ calm.whole;
        front = (c, here, refl);
        count = 0;
        few = omega arith;
        log = subst (GroupsAre l s.head c 0) (sym (append-nil groups)) (same_group_log l s.head (d.content old) c groups in_log (calm.slots c here) has.log);
        twin = λ gate. absurd (calm.shut c here gate);
        homes = λ k lt. inl (kept_shut l c k (calm.shut c here) ∙ home_part l (d.content old) c k lt (calm.blocks c here));
      }

  pub stays_done : IsDone d l s s old old May
  stays_done = λ groups has. record {
    groups1 = groups;
    has = has;
    later = record { front = λ c here. (c, here, refl); log = inl (refl, refl, λ k lt. refl) };
  }

  -- a flush
  pub flush_leaves : (mid : D) → ((groups : List (List Patch)) → LogHas l s (d.content old) groups → Leaves d old mid (FlushedOrNot (d.image old) l s.head groups s.pending)) → Leaving d l s old mid May
  flush_leaves mid moments = λ groups has. weaker d.moment d.image_since old mid (FlushedOrNot (d.image old) l s.head groups s.pending) (OnDisk (d.image old) l s.head groups s.pending (d.content old) May)
      (λ c some. flush_on_disk (d.image old) l s.head (d.content old) calm groups s.pending May c some) (moments groups has)

  module _ (mid : D) (images : Leaves d old mid (OutsideFrom l.log (d.image old))) (out : SameOutside l.log (d.content old) (d.content mid)) (durable : (c : List ℕ) → d.image mid c → SameSlots l.log (d.content mid) c) where
    from_old : (c : List ℕ) → d.image mid c → OutsideFrom l.log (d.image old) c
    from_old c here = images.each c (counts mid (d.moment old) c images.later here)

    pub mid_calm : IsCalm (d.image mid) l (d.content mid)
    mid_calm = record {
      whole = out.long ∙ calm.whole;
      slots = durable;
      blocks = λ c here.
          let o = from_old c here in
          let first = block_offset l 0 in
          let last = file_length l in
          let back = part_back first last (d.content old) (d.content mid) (blocks_behind l (d.content mid) (d.content old) out.long out.behind) in
          part_on first last (d.content mid) (d.content old) c back
          (part_on first last (d.content old) o.0 c (calm.blocks o.0 o.1) (blocks_behind l c o.0 o.2.long o.2.behind));
      shut = λ c here is. let o = from_old c here in calm.shut o.0 o.1 (sym (gate_behind l c o.0 o.2.behind) ∙ is);
    }

    homes_mid : (which : ℕ) → home l (d.content mid) which ≡ home l (d.content old) which
    homes_mid which = home_behind l (d.content mid) (d.content old) which out.behind

    mid_later : (groups : List (List Patch)) → Later (d.image old) (d.image mid) l groups s.pending (d.content old) (groups ++ s.pending) [] (d.content mid) May
    mid_later groups = record {
      front = λ c here. let o = from_old c here in (o.0, o.1, o.2.before);
      log = inr (refl, refl, λ which lt. inl (homes_mid which));
    }

    -- and a batch
    module _ (moments : (groups : List (List Patch)) → LogHas l s (d.content old) groups → Leaves d old mid (FlushedOrNot (d.image old) l s.head groups s.pending))
        (logged : (groups : List (List Patch)) → LogHas l s (d.content old) groups → GroupsAre l s.head (d.content mid) 0 (groups ++ s.pending)) (batch : List Image) (are : AreSeen before batch) (new : D) where
      comes : (which : ℕ) → (with_batch batch which (home l (d.content mid) which) ≡ home l (d.content mid) which) ⊎ May which (with_batch batch which (home l (d.content mid) which))
      comes which = batch_seen l (d.content old) before batch which (home l (d.content mid) which) are

      pub write_leaves : Leaves d mid new (TwinSome (d.image mid) l batch (d.content mid)) → Leaving d l s old new May
      write_leaves written = λ groups has.
          let mine = OnDisk (d.image old) l s.head groups s.pending (d.content old) May in
          joined d.moment d.image_since old mid new mine (flush_leaves mid moments groups has)
          (weaker d.moment d.image_since mid new (TwinSome (d.image mid) l batch (d.content mid)) mine
          (λ c some. on_disk_later (d.image old) (d.image mid) l s.head groups s.pending (d.content old) (groups ++ s.pending) [] (d.content mid) May May (mid_later groups) (λ which x lt m. m) c
          (twin_on_disk (d.image mid) l s.head (d.content mid) mid_calm (groups ++ s.pending) batch May c in_log (logged groups has) (λ which lt. comes which) some)) written)

      module _ (outside : SameBut (twin_offset l 0) (file_length l) (d.content mid) (d.content new)) (only_new : Only (d.content new) (d.image new)) (shut : twin_gate l (d.content new) ≡ 0)
          (home_new : (which : ℕ) → home l (d.content new) which ≡ with_batch batch which (home l (d.content mid) which)) where
        pub write_calm : IsCalm (d.image new) l (d.content new)
        write_calm = record {
          whole = outside.long ∙ out.long ∙ calm.whole;
          slots = λ c here. same_part (log_offset 0) (log_offset l.log) (d.content new) c (only_new c here);
          blocks = λ c here. same_part (block_offset l 0) (file_length l) (d.content new) c (only_new c here);
          shut = λ c here is. let gate = ap (twin_gate l) (only_new c here) in omega (arith, gate, shut, is);
        }

        pub write_done : Leaves d mid new (TwinSome (d.image mid) l batch (d.content mid)) → IsDone d l s (flushed s) old new May
        write_done written = λ groups has. record {
          groups1 = groups ++ s.pending;
          has = record {
            count = let count = has.count in omega (arith, count, length-append groups s.pending);
            log = same_group_log l s.head (d.content mid) (d.content new) (groups ++ s.pending) in_log (slots_front l (d.content new) (d.content mid) outside.long outside.before) (logged groups has);
          };
          later = record {
            front = λ c here.
                let o = (written.each c (counts new (d.moment mid) c written.later here)).outside in
                let e = from_old o.0 o.1 in (e.0, e.1, front_less l c o.0 o.2.before ∙ e.2.before);
            log = inr (refl, refl, λ which lt. ⊎_elim (λ is. inl (home_new which ∙ is ∙ homes_mid which)) (λ m. inr (home_new which ∙ m)) (comes which));
          };
        }

        pub write_seen : (held : List Frame) → Gathered before held batch → (k : ℕ) → seen l (d.content new) held k ≡ seen l (d.content old) before k
        write_seen held gathered k = ap (λ (h : List Frame). seen l (d.content new) h k) gathered.held_is
            ∙ seen_after_batch l (d.content old) (d.content new) before batch k are (home_new k ∙ ap (with_batch batch k) (homes_mid k))

        pub write_clean : (held : List Frame) → Gathered before held batch → AreDifferent before → AreClean l (d.content old) before → AreClean l (d.content new) held
        write_clean held gathered apart clean = subst (AreClean l (d.content new)) (sym gathered.held_is)
            (clean_after_batch l (d.content old) (d.content new) before batch are (λ which. home_new which ∙ ap (with_batch batch which) (homes_mid which)) apart clean)

-- What a flush says of a log of this layout.
module _ {D : Type 0} (d : Ghosts D) (s : LogState) (l : Layout) (same : s.layout ≡ l) (old mid : D) where
  pub moments_at : ((groups : List (List Patch)) → length groups ≡ s.used → GroupsAre s.layout s.head (d.content old) 0 groups → Leaves d old mid (FlushedOrNot (d.image old) s.layout s.head groups s.pending))
      → (groups : List (List Patch)) → LogHas l s (d.content old) groups → Leaves d old mid (FlushedOrNot (d.image old) l s.head groups s.pending)
  moments_at f groups has = subst (λ (m : Layout). Leaves d old mid (FlushedOrNot (d.image old) m s.head groups s.pending)) same
      (f groups has.count (subst (λ (m : Layout). GroupsAre m s.head (d.content old) 0 groups) (sym same) has.log))

  pub logged_at : ((groups : List (List Patch)) → length groups ≡ s.used → GroupsAre s.layout s.head (d.content old) 0 groups → GroupsAre s.layout s.head (d.content mid) 0 (groups ++ s.pending))
      → (groups : List (List Patch)) → LogHas l s (d.content old) groups → GroupsAre l s.head (d.content mid) 0 (groups ++ s.pending)
  logged_at f groups has = subst (λ (m : Layout). GroupsAre m s.head (d.content mid) 0 (groups ++ s.pending)) same
      (f groups has.count (subst (λ (m : Layout). GroupsAre m s.head (d.content old) 0 groups) (sym same) has.log))

  pub images_at : Leaves d old mid (OutsideFrom s.layout.log (d.image old)) → Leaves d old mid (OutsideFrom l.log (d.image old))
  images_at leaves = subst (λ (m : Layout). Leaves d old mid (OutsideFrom m.log (d.image old))) same leaves

  pub outside_at : SameOutside s.layout.log (d.content old) (d.content mid) → SameOutside l.log (d.content old) (d.content mid)
  outside_at out = subst (λ (m : Layout). SameOutside m.log (d.content old) (d.content mid)) same out

  pub durable_at : ((c : List ℕ) → d.image mid c → SameSlots s.layout.log (d.content mid) c) → (c : List ℕ) → d.image mid c → SameSlots l.log (d.content mid) c
  durable_at durable c here = subst (λ (m : Layout). SameSlots m.log (d.content mid) c) same (durable c here)

  pub shut_at : (0 < length s.pending → gate_of s.layout s.head (d.content mid) (s.used + length s.pending) ≡ 0) → (s.pending ≡ [] → mid ≡ old) → IsShutBehind l s (d.content old) → IsShutBehind l (flushed s) (d.content mid)
  shut_at closed none = flush_shut l s (d.content old) (d.content mid)
      (λ some. subst (λ (m : Layout). gate_of m s.head (d.content mid) (s.used + length s.pending) ≡ 0) same (closed some)) (λ is. ap d.content (none is))

-- what holds at an Ok by facts that hold at it
pub on_ok_three : {T E P Q R S : Type 0} (r : Result T E) → (P → Q → R → S) → OnOk r P → OnOk r Q → OnOk r R → OnOk r S
on_ok_three (Ok x) so p q r = so p q r
on_ok_three (Err e) so p q r = tt
