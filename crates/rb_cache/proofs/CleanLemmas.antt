-- The loop that brings each dirty frame home: what holds behind the flush, and behind each batch more.
use Rattle.std.proofs.Common.{◌≡◌, ◌⊎◌, inl, inr, ⊎_elim, false, ℕ, ◌+◌, ◌<◌, ◌≤◌, List, [], ◌++◌, length, arith, ap, sym, ◌∙◌, subst, length-append}
use Rattle.rb_base.specs.Groups.{Patch}
use Rattle.rb_disk.specs.DiskModel.{Only}
use Rattle.rb_disk.specs.Moments.{Leaves}
use Rattle.rb_disk.specs.declared.disk.Disk.{Ghosts}
use Rattle.rb_layout.specs.declared.layout.Layout.{Layout}
use Rattle.rb_base.specs.Moments.{joined, weaker}
use Rattle.rb_base.proofs.Each.{all_so}
use Rattle.rb_log.specs.GroupSlots.{FlushedOrNot, GroupsAre, LogState}
use Rattle.rb_log.specs.Slots.{SameOutside, SameSlots}
use Rattle.rb_twin.specs.Batches.{Image, with_batch}
use Rattle.rb_twin.specs.Twins.{home, TwinSome}
use Rattle.rb_cache.specs.Calls.{IsDone, IsShutBehind, Leaving, LogHas, SeenAt, Settled, flushed}
use Rattle.rb_cache.specs.Evictions.{TwinWrote}
use Rattle.rb_cache.specs.Frames.{AreClean, AreDifferent, AreSeen, Gathered, seen}
use Rattle.rb_cache.specs.OnDisk.{IsCalm, Later, OnDisk}
use Rattle.rb_cache.specs.declared.frame.Frame.{Frame}
use Rattle.rb_cache.proofs.Evicting.{clean_begun, clean_more, wrote_calm}
use Rattle.rb_cache.proofs.FrameLemmas.{batch_seen, clean_after_batch, seen_after_batch, seen_over}
use Rattle.rb_cache.proofs.Parts.{home_behind}
use Rattle.rb_cache.proofs.ShutLemmas.{batch_shut}
use Rattle.rb_cache.proofs.Steps.{on_disk_later, twin_on_disk}

module _ {D : Type 0} (d : Ghosts D) (l : Layout) (s : LogState) (old : D) (before : List Frame) where
  abbrev May : ℕ → List ℕ → Type 0
  May = SeenAt l (d.content old) before

  -- over a log that had these groups
  pub record CleanedLog (now : D) (groups : List (List Patch)) : Type 0 where
    pub leaves : Leaves d old now (OnDisk (d.image old) l s.head groups s.pending (d.content old) May)
    pub later : Later (d.image old) (d.image now) l groups s.pending (d.content old) (groups ++ s.pending) [] (d.content now) May
    pub log : GroupsAre l s.head (d.content now) 0 (groups ++ s.pending)

  -- what is told after some batches
  pub record CleanedSoFar (held : List Frame) (now : D) : Type 0 where
    pub seen_is : (k : ℕ) → seen l (d.content now) held k ≡ seen l (d.content old) before k
    pub calm : IsCalm (d.image now) l (d.content now)
    pub clean : AreClean l (d.content now) held
    pub only_now : Only (d.content old) (d.image old) → Only (d.content now) (d.image now)
    pub shut : IsShutBehind l s (d.content old) → IsShutBehind l (flushed s) (d.content now)
    pub cleaning : (groups : List (List Patch)) → LogHas l s (d.content old) groups → CleanedLog now groups

  pub cleaned_done : (held : List Frame) (now : D) → CleanedSoFar held now → IsDone d l s (flushed s) old now May
  cleaned_done held now so_far = λ groups has.
      let c = so_far.cleaning groups has in
      record {
        groups1 = groups ++ s.pending;
        has = record { count = let count = has.count in omega (arith, count, length-append groups s.pending); log = c.log };
        later = c.later;
      }

  pub cleaned_leaves : (held : List Frame) (now : D) → CleanedSoFar held now → Leaving d l s old now May
  cleaned_leaves held now so_far = λ groups has. let c = so_far.cleaning groups has in c.leaves

  pub cleaned_settled : (held : List Frame) (now : D) → CleanedSoFar held now → Settled d l s (flushed s) held old now
  cleaned_settled held now so_far = record {
    calm = so_far.calm;
    clean = so_far.clean;
    only = so_far.only_now;
    shut = so_far.shut;
  }

  module _ (counts : (disk : D) (t : ℕ) (c : List ℕ) → t ≤ d.moment disk → d.image disk c → d.image_since disk t c)
      (only : (disk : D) (c : List ℕ) → d.image_since disk (d.moment disk) c → d.image disk c) (in_log : s.head.slot < l.log) where
    -- a batch that was interrupted, and one that wasn't
    comes : (held : List Frame) (batch : List Image) (mid : D) → CleanedSoFar held mid → AreSeen held batch → (which : ℕ)
        → (with_batch batch which (home l (d.content mid) which) ≡ home l (d.content mid) which) ⊎ May which (with_batch batch which (home l (d.content mid) which))
    comes held batch mid so_far are which = ⊎_elim (λ is. inl is) (λ is. inr (is ∙ so_far.seen_is which)) (batch_seen l (d.content mid) held batch which (home l (d.content mid) which) are)

    pub cleaned_torn : (held : List Frame) (batch : List Image) (mid new : D) → CleanedSoFar held mid → AreSeen held batch → Leaves d mid new (TwinSome (d.image mid) l batch (d.content mid)) → Leaving d l s old new May
    cleaned_torn held batch mid new so_far are written = λ groups has.
        let c = so_far.cleaning groups has in
        let mine = OnDisk (d.image old) l s.head groups s.pending (d.content old) May in
        joined d.moment d.image_since old mid new mine c.leaves
        (weaker d.moment d.image_since mid new (TwinSome (d.image mid) l batch (d.content mid)) mine
        (λ im some. on_disk_later (d.image old) (d.image mid) l s.head groups s.pending (d.content old) (groups ++ s.pending) [] (d.content mid) May May c.later (λ which x lt m. m) im
        (twin_on_disk (d.image mid) l s.head (d.content mid) so_far.calm (groups ++ s.pending) batch May im in_log c.log (λ which lt. comes held batch mid so_far are which) some)) written)

    pub cleaned_more : (held more : List Frame) (batch : List Image) (mid new : D) → s.used + length s.pending < l.log → CleanedSoFar held mid → AreDifferent held → Gathered held more batch → TwinWrote d l batch mid new → CleanedSoFar more new
    cleaned_more held more batch mid new below so_far apart gathered w = record {
      seen_is = λ k. ap (λ (h : List Frame). seen l (d.content new) h k) gathered.held_is
          ∙ seen_after_batch l (d.content mid) (d.content new) held batch k gathered.seen_are (w.written k) ∙ so_far.seen_is k;
      calm = wrote_calm d counts only l s.head batch mid new so_far.calm w;
      clean = subst (AreClean l (d.content new)) (sym gathered.held_is) (clean_after_batch l (d.content mid) (d.content new) held batch gathered.seen_are w.written apart so_far.clean);
      only_now = λ was. w.durable;
      shut = λ was. batch_shut l s (d.content mid) (d.content new) in_log below w.outside (so_far.shut was);
      cleaning = λ groups has.
          let c = so_far.cleaning groups has in
          let next = clean_more d counts only l s.head groups s.pending May old batch mid new in_log (record { leaves = c.leaves; later = c.later; calm = so_far.calm; log = c.log }) w
          (λ which lt. comes held batch mid so_far gathered.seen_are which) in
          record { leaves = next.leaves; later = next.later; log = next.log };
    }

    -- behind the flush
    pub cleaned_begun : (mid : D) → IsCalm (d.image old) l (d.content old) → IsCalm (d.image mid) l (d.content mid) → AreClean l (d.content old) before → SameOutside l.log (d.content old) (d.content mid)
        → ((c : List ℕ) → d.image mid c → SameSlots l.log (d.content mid) c) → (Only (d.content old) (d.image old) → Only (d.content mid) (d.image mid))
        → (IsShutBehind l s (d.content old) → IsShutBehind l (flushed s) (d.content mid))
        → ((groups : List (List Patch)) → LogHas l s (d.content old) groups → Leaves d old mid (FlushedOrNot (d.image old) l s.head groups s.pending))
        → ((groups : List (List Patch)) → LogHas l s (d.content old) groups → GroupsAre l s.head (d.content mid) 0 (groups ++ s.pending)) → CleanedSoFar before mid
    cleaned_begun mid calm calm_mid clean out durable only_mid shut moments logged = record {
      seen_is = λ k. seen_over l (d.content old) (d.content mid) before k (λ none. home_behind l (d.content mid) (d.content old) k out.behind);
      calm = calm_mid;
      clean = all_so (λ f. f.dirty ≡ false → f.bytes ≡ home l (d.content old) f.block) (λ f. f.dirty ≡ false → f.bytes ≡ home l (d.content mid) f.block) before
          (λ f was is. was is ∙ sym (home_behind l (d.content mid) (d.content old) f.block out.behind)) clean;
      only_now = only_mid;
      shut = shut;
      cleaning = λ groups has.
          let first = clean_begun d counts only l s.head groups s.pending May old mid calm (record { any_moment = moments groups has; log = logged groups has; outside = out; durable = durable }) in
          record { leaves = first.leaves; later = first.later; log = first.log };
    }
