-- What an opening makes of a file whose log was scanned: it means blocks where its twin area is one, and a repair and
-- rolling forward leave that.
use Rattle.std.proofs.Common.{◌≡◌, ◌≢◌, ◌⊎◌, inl, inr, ⊎_elim, ℕ, ◌+◌, ◌*◌, ◌^◌, ◌<◌, ◌≤◌, ◌==◌, Bool, true, false, if◌then◌else◌, List, [], ◌∷◌, ◌++◌, length, take, drop, map, arith, ap, sym, ◌∙◌, subst, refl, slice_index}
use Rattle.std.proofs.lemmas.List.{length-take-le, length-drop, append-nil}
use Rattle.std.proofs.lemmas.List.FromFn.{get_or-map-range_with_len, length-map-range_with_len}
use Rattle.std.specs.List.{AllByRecursion, range_with_len}
use Rattle.rb_base.specs.Blocks.{block_of, after_groups}
use Rattle.rb_base.specs.Groups.{Patch}
use Rattle.rb_base.specs.Moments.{joined, weaker}
use Rattle.rb_base.specs.declared.sizes.TheConstants.{UNIT}
use Rattle.rb_disk.specs.DiskModel.{Only}
use Rattle.rb_disk.specs.Ranges.{SameBut}
use Rattle.std.proofs.lemmas.Bool.{eqb-true}
use Rattle.rb_disk.specs.Moments.{Leaves, Rests, rests_leave, rests_on}
use Rattle.rb_disk.specs.declared.disk.Disk.{Ghosts}
use Rattle.rb_layout.specs.Regions.{HasIdentity, block_count, block_offset, file_length, file_version, shape_of, twin_offset}
use Rattle.rb_layout.specs.declared.layout.Head.{Head}
use Rattle.rb_layout.specs.declared.layout.Layout.{Layout}
use Rattle.rb_log.specs.GroupSlots.{GroupsAre}
use Rattle.law_redo.specs.Rolled.{rolled}
use Rattle.law_redo.proofs.Heads.{rolled_head}
use Rattle.rb_twin.specs.Batches.{Image, batch_in, with_batch}
use Rattle.rb_twin.specs.TwinLaws.{kept_shut}
use Rattle.rb_twin.specs.Twins.{home, kept, twin_area, twin_gate, IsTwin, Repaired}
use Rattle.rb_twin.proofs.Images.{all_by, counted}
use Rattle.rb_cache.proofs.Parts.{front_less, gate_behind, home_behind, slots_front}
use Rattle.rb_control.specs.Heads.{head_of, IsHead}
use Rattle.rb_log.specs.GroupSlots.{KeptLog}
use Rattle.rb_log.specs.Slots.{gate_of, SameOutside}
use Rattle.rb_store.specs.Meaning.{AreHeaded, IsHeaded, KeepsHeads, Means, OpensAt}
use Rattle.rb_base.specs.Fields.{number_at}
use Rattle.rb_cache.specs.Frames.{seen, AreClean}
use Rattle.rb_cache.specs.OnDisk.{IsCalm, Later, OnDisk}
use Rattle.rb_store.specs.CachedFiles.{CachedState}
use Rattle.rb_store.specs.StoreStates.{IsQuietAt, IsStableAt, blocks_by}
use Rattle.rb_store.proofs.Settled.{later_on_disk}
use Rattle.rb_log.specs.GroupLaws.{one_group_log, same_group_log}
use Rattle.rb_store.proofs.Between.{between, front_head}
use Rattle.rb_cache.specs.declared.frame.Frame.{Frame}
use Rattle.rb_layout.specs.OneLayout.{one_layout}
use Rattle.rb_store.proofs.SameLayout.{same_layout}
use Rattle.rb_store.specs.Openings.{HasOpened, IsRepaired, LeavesMeaning, LeftAlone}
use Rattle.rb_store.proofs.CachedLemmas.{clean_same, seen_same}
use Rattle.rb_store.proofs.MeaningLemmas.{heads_of_kept, kept_heads, logged_groups, means_kept, means_logged}
use Rattle.rb_store.proofs.OneMeaning.{one_meaning}
use Rattle.rb_store.proofs.StoreLemmas.{all_units, one_by, same_blocks}
use Rattle.rb_twin.specs.declared.batch.TheConstants.{AREA}

-- the blocks that groups make of what a file keeps
abbrev pub made_blocks : Layout → Head → List (List Patch) → List ℕ → List (List ℕ)
made_blocks l head groups file = map (λ k. rolled head.number groups k (kept l file k)) (range_with_len 0 (block_count l))

pub made_one : (l : Layout) (head : Head) (groups : List (List Patch)) (file : List ℕ) (k : ℕ) → k < block_count l → block_of (made_blocks l head groups file) k ≡ rolled head.number groups k (kept l file k)
made_one l head groups file k lt = get_or-map-range_with_len (λ k. rolled head.number groups k (kept l file k)) 0 (block_count l) k k [] lt (omega arith)

-- what a file keeps of a block is a unit
unit_home : (l : Layout) (file : List ℕ) (k : ℕ) → length file ≡ file_length l → k < block_count l → length (home l file k) ≡ UNIT
unit_home l file k whole lt = length-take-le UNIT (drop (block_offset l k) file) (omega (arith, length-drop (block_offset l k) file, whole, lt))

unit_with : (images : List Image) (which : ℕ) (unit : List ℕ) → AllByRecursion (λ (i : Image). length i.unit ≡ UNIT) images → length unit ≡ UNIT → length (with_batch images which unit) ≡ UNIT
unit_with [] which unit each long = long
unit_with (image ∷ images) which unit each long = by (image.no == which) (unit_with images which unit each.1 long)
  where
    by : (a : Bool) → length (with_batch images which unit) ≡ UNIT → length (if a then image.unit else with_batch images which unit) ≡ UNIT
    by true rest = each.0
    by false rest = rest

unit_images : (l : Layout) (file : List ℕ) → length file ≡ file_length l → length (batch_in (twin_area l file)) ≤ 8 → AllByRecursion (λ (i : Image). length i.unit ≡ UNIT) (batch_in (twin_area l file))
unit_images l file whole few =
    let area = twin_area l file in
    let long : length area ≡ AREA = length-take-le AREA (drop (twin_offset l 0) file) (omega (arith, length-drop (twin_offset l 0) file, whole)) in
    all_by (λ (i : Image). length i.unit ≡ UNIT) area 0 (slice_index area 1) (λ k lt.
    length-take-le UNIT (drop (UNIT * (0 + k + 1)) area) (omega (arith, length-drop (UNIT * (0 + k + 1)) area, long, lt, few, counted area)))

pub unit_kept : (l : Layout) (file : List ℕ) (k : ℕ) → length file ≡ file_length l → IsTwin l file → k < block_count l → length (kept l file k) ≡ UNIT
unit_kept l file k whole twin lt = by (twin_gate l file == 1) refl
  where
    by : (a : Bool) → (twin_gate l file == 1) ≡ a → length (if a then with_batch (batch_in (twin_area l file)) k (home l file k) else home l file k) ≡ UNIT
    by true is = unit_with (batch_in (twin_area l file)) k (home l file k) (unit_images l file whole (twin (eqb-true (twin_gate l file) 1 is)).few) (unit_home l file k whole lt)
    by false is = unit_home l file k whole lt

-- a file whose log was scanned means blocks, where its twin area is one
pub means_made : (l : Layout) (file : List ℕ) (head : Head) (groups : List (List Patch)) (n : ℕ) → HasIdentity file_version l file → IsHead l head → head ≡ head_of file → GroupsAre l head file 0 groups → IsTwin l file
    → n + 1 ≡ head.number + length groups → Means l file (made_blocks l head groups file) n
means_made l file head groups n id valid head_is log twin last = record {
  identity = id;
  head = head;
  head_is = head_is;
  in_log = valid.slot;
  first = valid.first;
  groups = groups;
  log = log;
  twin = twin;
  last = last;
  whole = record {
    count = length-map-range_with_len (λ k. rolled head.number groups k (kept l file k)) 0 (block_count l);
    each = all_units (λ k. rolled head.number groups k (kept l file k)) 0 (block_count l)
        (λ k le lt. (rolled_head k head.number groups (kept l file k) (unit_kept l file k id.whole twin (omega (arith, lt))) (logged_groups l head file 0 groups log)).long);
  };
  made = λ which lt. made_one l head groups file which lt;
}

-- another meaning of the same file is the same
pub means_any : (l : Layout) (file c : List ℕ) (b b1 : List (List ℕ)) (n n1 : ℕ) → Means l file b n → Means l c b n → Means l file b1 n1 → Means l c b1 n1
means_any l file c b b1 n n1 m there other =
    let same = one_meaning l file b b1 n n1 m other in
    subst (λ (x : List (List ℕ)). Means l c x n1) same.0 (subst (λ (k : ℕ). Means l c b k) same.1 there)

-- an image of a repair means what the file did
pub repaired_means : (image : List ℕ → Type 0) (l : Layout) (file c : List ℕ) (b : List (List ℕ)) (n : ℕ) → Only file image → Means l file b n → Repaired image l file c → Means l c b n
repaired_means image l file c b n only m r =
    let same = subst (λ (d : List ℕ). SameBut (twin_offset l 0) (file_length l) d c) (only r.outside.0 r.outside.1) r.outside.2 in
    means_kept l file c b n (same.long ∙ m.identity.whole) (front_less l c file same.before) (slots_front l c file same.long same.before) r.twin (λ which lt. r.blocks which) m

-- An image of calls that give nothing opens to what the file does, where all that may come home rolls to that.
pub opens_still : (image : List ℕ → Type 0) (l : Layout) (file : List ℕ) (b : List (List ℕ)) (n : ℕ) (at : OpensAt l file b n) → twin_gate l file ≢ 1 → Only file image → (head : Head) (groups : List (List Patch))
    → at.means.head ≡ head → at.means.groups ≡ groups → n < 2 ^ 62 → (may : ℕ → List ℕ → Type 0) → ((k : ℕ) (x : List ℕ) → k < block_count l → may k x → rolled head.number groups k x ≡ block_of b k)
    → (c : List ℕ) → OnDisk image l head groups [] file may c → OpensAt l c b n
opens_still image l file b n at shut only head groups head_is groups_are few may comes c some =
    let there : OnDisk image l at.means.head at.means.groups [] file may c = subst (λ (g : List (List Patch)). OnDisk image l at.means.head g [] file may c) (sym groups_are)
    (subst (λ (h : Head). OnDisk image l h groups [] file may c) (sym head_is) some) in
    let rolls : (k : ℕ) (x : List ℕ) → k < block_count l → may k x → rolled at.means.head.number (at.means.groups ++ []) k x ≡ block_of b k =
    λ k x lt m. ap (λ (g : List (List Patch)). rolled at.means.head.number g k x) (append-nil at.means.groups ∙ groups_are)
    ∙ ap (λ (h : Head). rolled h.number groups k x) head_is ∙ comes k x lt m in
    let opens = (between image l file b n at shut only [] tt (omega (arith, few)) may rolls c there).opens in
    let few_count = there.few in
    let none : there.count ≡ 0 = omega (arith, few_count) in
    let nothing : take there.count [] ≡ [] = ap (λ (k : ℕ). take k []) none in
    subst (OpensAt l c b) (omega (arith, none)) (subst (λ (g : List (List Patch)). OpensAt l c (after_groups (n + 1) g b) (n + there.count)) nothing opens)

-- The disk of an opening, once its file was read: what is read is the only image, and its log was scanned.
module _ {D : Type 0} (d : Ghosts D)
    (counts : (disk : D) (t : ℕ) (c : List ℕ) → t ≤ d.moment disk → d.image disk c → d.image_since disk t c)
    (reads : (disk : D) → d.image disk (d.content disk)) (l : Layout) (old : D) (head : Head) (groups : List (List Patch)) (n : ℕ)
    (id : HasIdentity file_version l (d.content old)) (valid : IsHead l head) (head_is : head ≡ head_of (d.content old))
    (log : GroupsAre l head (d.content old) 0 groups) (last : n + 1 ≡ head.number + length groups)
    (only : Only (d.content old) (d.image old)) where
  abbrev blocks : List (List ℕ)
  blocks = made_blocks l head groups (d.content old)

  pub meaning : IsTwin l (d.content old) → Means l (d.content old) blocks n
  meaning twin = means_made l (d.content old) head groups n id valid head_is log twin last

  -- what each moment of a call leaves, where each image means what the file did
  pub leaves_meaning : (new : D) → IsTwin l (d.content old) → Leaves d old new (λ c. Means l c blocks n) → LeavesMeaning d l old new
  leaves_meaning new twin leaves =
      let here = leaves.each (d.content new) (counts new (d.moment old) (d.content new) leaves.later (reads new)) in
      record {
        file = λ b k m. means_any l (d.content old) (d.content new) blocks b n k (meaning twin) here m;
        images = λ b k m. weaker d.moment d.image_since old new (λ c. Means l c blocks n) (λ c. d.image old c ⊎ Means l c b k)
            (λ c there. inr (means_any l (d.content old) c blocks b n k (meaning twin) there m)) leaves;
        none = λ nothing. absurd (nothing blocks n (meaning twin));
      }

  -- a repair that failed
  pub repair_failed : (new : D) → ((IsTwin l (d.content old) → ⊥) → Rests d old new) → (IsTwin l (d.content old) → Leaves d old new (Repaired (d.image old) l (d.content old)))
      → LeavesMeaning d l old new
  repair_failed new foreign leaves = record {
    file = λ b k m. (by_twin m.twin).file b k m;
    images = λ b k m. (by_twin m.twin).images b k m;
    none = λ nothing. foreign (λ twin. nothing blocks n (meaning twin));
  }
    where
      by_twin : IsTwin l (d.content old) → LeavesMeaning d l old new
      by_twin twin = leaves_meaning new twin (weaker d.moment d.image_since old new (Repaired (d.image old) l (d.content old)) (λ c. Means l c blocks n)
          (λ c r. repaired_means (d.image old) l (d.content old) c blocks n only (meaning twin) r) (leaves twin))

  -- a file that opens keeps headed blocks
  pub keeps_of : (b : List (List ℕ)) (k : ℕ) → length groups < l.log → OpensAt l (d.content old) b k → KeepsHeads l (d.content old) n
  keeps_of b k few opens =
      let m = meaning opens.means.twin in
      let same = one_meaning l (d.content old) b blocks k n opens.means m in
      let low : k < 2 ^ 62 = omega (arith, same.1, few, last, valid.last, l.few_slots.1) in
      subst (KeepsHeads l (d.content old)) same.1
      (kept_heads l (d.content old) b k opens.means low (λ i lt. unit_kept l (d.content old) i id.whole opens.means.twin lt) opens.headed)

  -- The repair that answered Ok, and groups that are rolled forward behind it.
  module _ (few : length groups < l.log) (mid : D) (r : IsRepaired d l n old mid) where
    kept_mid : (k : ℕ) → kept l (d.content mid) k ≡ kept l (d.content old) k
    kept_mid k = kept_shut l (d.content mid) k r.shut ∙ r.homes k

    number_few : n < 2 ^ 62
    number_few = omega (arith, few, last, valid.last, l.few_slots.1)

    means_mid : Means l (d.content mid) blocks n
    means_mid = means_kept l (d.content old) (d.content mid) blocks n r.whole (front_less l (d.content mid) (d.content old) r.outside.before) (slots_front l (d.content mid) (d.content old) r.outside.long r.outside.before)
        (λ gate. absurd (r.shut gate)) (λ k lt. kept_mid k) (meaning r.twin)

    head_mid : head_of (d.content mid) ≡ head
    head_mid = front_head (d.content mid) (d.content old) r.outside.long (front_less l (d.content mid) (d.content old) r.outside.before) ∙ sym head_is

    headed : AreHeaded (shape_of l) blocks n
    headed = heads_of_kept l (d.content mid) blocks n means_mid number_few (λ k lt. unit_kept l (d.content mid) k r.whole (λ gate. absurd (r.shut gate)) lt)
        (λ k lt. subst (IsHeaded (shape_of l) n k) (sym (kept_shut l (d.content mid) k r.shut)) (r.headed k lt))

    abbrev opens_mid : OpensAt l (d.content mid) blocks n
    opens_mid = record { means = means_mid; headed = headed }

    pub log_mid : GroupsAre l head (d.content mid) 0 groups
    log_mid = same_group_log l head (d.content old) (d.content mid) groups valid.slot (slots_front l (d.content mid) (d.content old) r.outside.long r.outside.before) log

    groups_mid : means_mid.groups ≡ groups
    groups_mid = one_group_log l head (d.content mid) 0 means_mid.groups groups
        (subst (λ (h : Head). GroupsAre l h (d.content mid) 0 means_mid.groups) (means_mid.head_is ∙ head_mid) means_mid.log)
        (same_group_log l head (d.content old) (d.content mid) groups valid.slot (slots_front l (d.content mid) (d.content old) r.outside.long r.outside.before) log)

    -- what may come home while they are
    abbrev pub MayRoll : ℕ → List ℕ → Type 0
    MayRoll k x = rolled head.number groups k x ≡ rolled head.number groups k (home l (d.content mid) k)

    rolls : (k : ℕ) (x : List ℕ) → k < block_count l → MayRoll k x → rolled head.number groups k x ≡ block_of blocks k
    rolls k x lt may = may ∙ ap (rolled head.number groups k) (r.homes k) ∙ sym (made_one l head groups (d.content old) k lt)

    pub still_opens : (c : List ℕ) → OnDisk (d.image mid) l head groups [] (d.content mid) MayRoll c → OpensAt l c blocks n
    still_opens c some = opens_still (d.image mid) l (d.content mid) blocks n opens_mid r.shut r.only head groups (means_mid.head_is ∙ head_mid) groups_mid number_few MayRoll rolls c some

    -- each moment of both
    both_leave : (new : D) → Leaves d old mid (Repaired (d.image old) l (d.content old)) → Leaves d mid new (OnDisk (d.image mid) l head groups [] (d.content mid) MayRoll) → Leaves d old new (λ c. Means l c blocks n)
    both_leave new first second = joined d.moment d.image_since old mid new (λ c. Means l c blocks n)
        (weaker d.moment d.image_since old mid (Repaired (d.image old) l (d.content old)) (λ c. Means l c blocks n)
        (λ c x. repaired_means (d.image old) l (d.content old) c blocks n only (meaning r.twin) x) first)
        (weaker d.moment d.image_since mid new (OnDisk (d.image mid) l head groups [] (d.content mid) MayRoll) (λ c. Means l c blocks n) (λ c some. (still_opens c some).means) second)

    pub rolled_leaves : (new : D) → Leaves d old mid (Repaired (d.image old) l (d.content old)) → Leaves d mid new (OnDisk (d.image mid) l head groups [] (d.content mid) MayRoll) → LeavesMeaning d l old new
    rolled_leaves new first second = leaves_meaning new r.twin (both_leave new first second)

    -- and behind it, where it answered Ok
    module _ (new : D) (t : CachedState) (groups1 : List (List Patch)) (layout_is : t.layout ≡ l) (head_t : t.head ≡ head) (waits : t.pending ≡ []) (used_is : length groups1 ≡ t.used)
        (later : Later (d.image mid) (d.image new) l groups [] (d.content mid) groups1 t.pending (d.content new) MayRoll) (there : GroupsAre l head (d.content new) 0 groups1)
        (calm : IsCalm (d.image new) l (d.content new)) (clean : AreClean l (d.content new) t.held) (only_new : Only (d.content new) (d.image new))
        (seen_is : (k : ℕ) → k < block_count l → seen l (d.content new) t.held k ≡ rolled head.number groups k (home l (d.content mid) k)) where
      shut_new : twin_gate l (d.content new) ≢ 1
      shut_new = calm.shut (d.content new) (reads new)

      head_new : head_of (d.content new) ≡ head
      head_new =
          let front = later.front (d.content new) (reads new) in
          let same = r.only front.0 front.1 in
          front_head (d.content new) front.0 (calm.whole ∙ sym r.whole ∙ ap length (sym same)) front.2 ∙ ap head_of same ∙ head_mid

      opens_new : OpensAt l (d.content new) blocks n
      opens_new = still_opens (d.content new)
          (later_on_disk (d.image mid) (d.image new) l head groups [] (d.content mid) groups1 t.pending (d.content new) MayRoll later (reads new) calm.whole there shut_new).0

      groups_new : opens_new.means.groups ≡ groups1
      groups_new = one_group_log l head (d.content new) 0 opens_new.means.groups groups1
          (subst (λ (h : Head). GroupsAre l h (d.content new) 0 opens_new.means.groups) (opens_new.means.head_is ∙ head_new) opens_new.means.log) there

      -- The gate behind the groups is shut then: each moment of that leaves what the file means.
      module _ (end : D) (shuts : Leaves d new end (KeptLog (d.image new) l head groups1)) where
        logged : (c : List ℕ) → KeptLog (d.image new) l head groups1 c → Means l c blocks n
        logged c some =
            let outside = subst (λ (f : List ℕ). SameOutside l.log f c) (only_new some.outside.0 some.outside.1) some.outside.2 in
            means_logged l (d.content new) c blocks n outside opens_new.means shut_new
            (subst (λ (h : Head). GroupsAre l h c 0 opens_new.means.groups) (sym (opens_new.means.head_is ∙ head_new)) (subst (GroupsAre l head c 0) (sym groups_new) some.log))

        pub shut_leaves : Leaves d old mid (Repaired (d.image old) l (d.content old)) → Leaves d mid new (OnDisk (d.image mid) l head groups [] (d.content mid) MayRoll) → LeavesMeaning d l old end
        shut_leaves first second = leaves_meaning end r.twin (joined d.moment d.image_since old new end (λ c. Means l c blocks n)
            (both_leave new first second)
            (weaker d.moment d.image_since new end (KeptLog (d.image new) l head groups1) (λ c. Means l c blocks n) logged shuts))

        module _ (only_end : Only (d.content end) (d.image end)) (next : gate_of l head (d.content end) t.used ≢ 1) where
          kept_end : KeptLog (d.image new) l head groups1 (d.content end)
          kept_end = shuts.each (d.content end) (counts end (d.moment new) (d.content end) shuts.later (reads end))

          outside : SameOutside l.log (d.content new) (d.content end)
          outside = subst (λ (f : List ℕ). SameOutside l.log f (d.content end)) (only_new kept_end.outside.0 kept_end.outside.1) kept_end.outside.2

          seen_end : (k : ℕ) → seen l (d.content end) t.held k ≡ seen l (d.content new) t.held k
          seen_end k = seen_same l (d.content new) (d.content end) t.held k (home_behind l (d.content end) (d.content new) k outside.behind)

          reads_blocks : blocks_by l (d.content end) t.held ≡ blocks
          reads_blocks = same_blocks (block_count l) (blocks_by l (d.content end) t.held) blocks
              (length-map-range_with_len (seen l (d.content end) t.held) 0 (block_count l)) (length-map-range_with_len (λ k. rolled head.number groups k (kept l (d.content old) k)) 0 (block_count l))
              (λ k lt. one_by l (d.content end) t.held k lt ∙ seen_end k ∙ seen_is k lt ∙ ap (rolled head.number groups k) (r.homes k) ∙ sym (made_one l head groups (d.content old) k lt))

          opens_end : OpensAt l (d.content end) blocks n
          opens_end = record { means = logged (d.content end) kept_end; headed = headed }

          head_end : head_of (d.content end) ≡ head
          head_end = front_head (d.content end) (d.content new) outside.long outside.before ∙ head_new

          groups_end : opens_end.means.groups ≡ groups1
          groups_end = one_group_log l head (d.content end) 0 opens_end.means.groups groups1
              (subst (λ (h : Head). GroupsAre l h (d.content end) 0 opens_end.means.groups) (opens_end.means.head_is ∙ head_end) opens_end.means.log) kept_end.log

          low : (k : ℕ) → k < block_count l → number_at (seen l (d.content end) t.held k) 0 8 ≤ n
          low k lt =
              let is = ap (λ (b : List (List ℕ)). number_at (block_of b k) 0 8) reads_blocks in
              let one = ap (λ (x : List ℕ). number_at x 0 8) (one_by l (d.content end) t.held k lt) in
              let few = (headed k lt).low in omega (arith, is, one, few)

          pub has_opened : HasOpened d t n old end
          has_opened = record {
            quiet = subst (λ (m : Layout). IsQuietAt m t.head t.used n t.held (d.content end) (d.image end)) (sym layout_is) (record {
              whole = outside.long ∙ calm.whole;
              only = only_end;
              shut = λ gate. shut_new (sym (gate_behind l (d.content end) (d.content new) outside.behind) ∙ gate);
              next = subst (λ (h : Head). gate_of l h (d.content end) t.used ≢ 1) (sym head_t) next;
              clean = clean_same l (d.content new) (d.content end) t.held (λ k. home_behind l (d.content end) (d.content new) k outside.behind) clean;
              low = low;
            });
            found = subst (λ (m : Layout). OpensAt m (d.content old) (blocks_by m (d.content end) t.held) n) (sym layout_is)
                (subst (λ (b : List (List ℕ)). OpensAt l (d.content old) b n) (sym reads_blocks) (record { means = meaning r.twin; headed = headed }));
            stable = subst (λ (m : Layout). IsStableAt m t.head t.used t.pending n (blocks_by m (d.content end) t.held) (d.content end) (d.image end) (blocks_by m (d.content end) t.held) n) (sym layout_is)
                (subst (λ (b : List (List ℕ)). IsStableAt l t.head t.used t.pending n b (d.content end) (d.image end) b n) (sym reads_blocks) (record {
                  only = only_end;
                  opens = opens_end;
                  head_is = opens_end.means.head_is ∙ head_end ∙ sym head_t;
                  used_is = ap length groups_end ∙ used_is;
                  numbered = omega (arith, ap length waits);
                  reads = ap (λ (p : List (List Patch)). after_groups (n + 1) p blocks) (sym waits);
                }));
          }

-- What rolling forward says over frames that held nothing, and a log where nothing waited.
pub as_rolled : {D : Type 0} (d : Ghosts D) (l : Layout) (mid new : D) (head to : Head) (pending : List (List Patch)) (held : List Frame) (gs groups : List (List Patch))
    → head ≡ to → pending ≡ [] → held ≡ [] → gs ≡ groups
    → Leaves d mid new (OnDisk (d.image mid) l head groups pending (d.content mid) (λ k x. rolled to.number gs k x ≡ rolled to.number gs k (seen l (d.content mid) held k)))
    → Leaves d mid new (OnDisk (d.image mid) l to groups [] (d.content mid) (λ k x. rolled to.number groups k x ≡ rolled to.number groups k (home l (d.content mid) k)))
as_rolled d l mid new head to pending held gs groups head_is none empty same leaves =
    let image = d.image mid in
    let file = d.content mid in
    let n = to.number in
    let one = subst (λ (h : Head). Leaves d mid new (OnDisk image l h groups pending file (λ k x. rolled n gs k x ≡ rolled n gs k (seen l file held k)))) head_is leaves in
    let two = subst (λ (p : List (List Patch)). Leaves d mid new (OnDisk image l to groups p file (λ k x. rolled n gs k x ≡ rolled n gs k (seen l file held k)))) none one in
    let three = subst (λ (fs : List Frame). Leaves d mid new (OnDisk image l to groups [] file (λ k x. rolled n gs k x ≡ rolled n gs k (seen l file fs k)))) empty two in
    subst (λ (g : List (List Patch)). Leaves d mid new (OnDisk image l to groups [] file (λ k x. rolled n g k x ≡ rolled n g k (home l file k)))) same three

pub later_rolled : (image image1 : List ℕ → Type 0) (l : Layout) (n : ℕ) (file file1 : List ℕ) (pending : List (List Patch)) (held : List Frame) (gs groups groups1 pending1 : List (List Patch))
    → pending ≡ [] → held ≡ [] → gs ≡ groups
    → Later image image1 l groups pending file groups1 pending1 file1 (λ k x. rolled n gs k x ≡ rolled n gs k (seen l file held k))
    → Later image image1 l groups [] file groups1 pending1 file1 (λ k x. rolled n groups k x ≡ rolled n groups k (home l file k))
later_rolled image image1 l n file file1 pending held gs groups groups1 pending1 none empty same later =
    let one = subst (λ (p : List (List Patch)). Later image image1 l groups p file groups1 pending1 file1 (λ k x. rolled n gs k x ≡ rolled n gs k (seen l file held k))) none later in
    let two = subst (λ (fs : List Frame). Later image image1 l groups [] file groups1 pending1 file1 (λ k x. rolled n gs k x ≡ rolled n gs k (seen l file fs k))) empty one in
    subst (λ (g : List (List Patch)). Later image image1 l groups [] file groups1 pending1 file1 (λ k x. rolled n g k x ≡ rolled n g k (home l file k))) same two

-- What calls that left the disk, and then the opening of its file by its layout, leave of it.
pub left_alone : {D : Type 0} (d : Ghosts D) (only_now : (disk : D) (c : List ℕ) → d.image_since disk (d.moment disk) c → d.image disk c) (l : Layout) (old mid new : D)
    → HasIdentity file_version l (d.content old) → Rests d old mid → LeavesMeaning d l mid new → LeftAlone d old new
left_alone d only_now l old mid new id still left = record {
  file = λ m b n means.
      let is = layout_of m b n means in
      subst (λ (x : Layout). Means x (d.content new) b n) (sym is) (left.file b n (moved m b n means));
  images = λ m b n means.
      let is = layout_of m b n means in
      let mine = λ (c : List ℕ). d.image old c ⊎ Means m c b n in
      joined d.moment d.image_since old mid new mine (rests_leave d old mid mine (only_now old) (λ c here. inl here) still)
      (weaker d.moment d.image_since mid new (λ c. d.image mid c ⊎ Means l c b n) mine
      (λ c some. ⊎_elim (λ here. inl (still.crashes.no_more c here)) (λ there. inr (subst (λ (x : Layout). Means x c b n) (sym is) there)) some) (left.images b n (moved m b n means)));
  none = λ nothing. rests_on d old mid new still (left.none (λ b n means. nothing l b n (subst (λ (f : List ℕ). Means l f b n) still.same means)));
}
  where
    layout_of : (m : Layout) (b : List (List ℕ)) (n : ℕ) → Means m (d.content old) b n → m ≡ l
    layout_of m b n means = same_layout m l (one_layout file_version m l (d.content old) means.identity id)

    moved : (m : Layout) (b : List (List ℕ)) (n : ℕ) → Means m (d.content old) b n → Means l (d.content mid) b n
    moved m b n means = subst (λ (f : List ℕ). Means l f b n) (sym still.same) (subst (λ (x : Layout). Means x (d.content old) b n) (layout_of m b n means) means)

-- and calls that left the disk alone do so too
pub left_as_is : {D : Type 0} (d : Ghosts D) (only_now : (disk : D) (c : List ℕ) → d.image_since disk (d.moment disk) c → d.image disk c) (old new : D) → Rests d old new → LeftAlone d old new
left_as_is d only_now old new still = record {
  file = λ l b n means. subst (λ (f : List ℕ). Means l f b n) (sym still.same) means;
  images = λ l b n means. rests_leave d old new (λ c. d.image old c ⊎ Means l c b n) (only_now old) (λ c here. inl here) still;
  none = λ nothing. still;
}
