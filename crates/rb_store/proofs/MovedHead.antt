-- What a move of the head leaves of a file whose blocks are all at home: it opens to the same blocks.
use Rattle.std.proofs.Common.{◌≡◌, ◌≢◌, inr, ⊎_elim, ℕ, ◌+◌, ◌-◌, ◌<◌, ◌≤◌, ◌==◌, Bool, true, false, if◌then◌else◌, List, [], ◌∷◌, length, take, drop, arith, ap, sym, ◌∙◌, subst, refl, slice_index, Some}
use Rattle.std.proofs.lemmas.Bool.{eqb-true}
use Rattle.std.proofs.lemmas.List.{drop-drop, take-take}
use Rattle.std.proofs.lemmas.List.FromFn.{length-map-range_with_len}
use Rattle.rb_layout.specs.declared.layout.TheConstants.{IDENTITY}
use Rattle.rb_base.proofs.Fronts.{byte_of_part}
use Rattle.rb_base.specs.Blocks.{block_of, after_groups}
use Rattle.rb_base.specs.Fields.{number_at, part}
use Rattle.rb_base.specs.Groups.{Patch}
use Rattle.rb_base.specs.Moments.{weaker}
use Rattle.rb_base.specs.declared.sizes.TheConstants.{UNIT}
use Rattle.rb_control.specs.Heads.{head_of, Advanced}
use Rattle.rb_disk.specs.DiskModel.{Only}
use Rattle.rb_disk.specs.Moments.{Leaves}
use Rattle.rb_disk.specs.Ranges.{SameBut}
use Rattle.rb_disk.specs.declared.disk.Disk.{Ghosts}
use Rattle.rb_layout.specs.Regions.{HasIdentity, block_count, block_offset, file_version, log_offset, shape_of, twin_offset}
use Rattle.rb_layout.specs.declared.layout.Head.{Head}
use Rattle.rb_layout.specs.declared.layout.Layout.{Layout}
use Rattle.rb_log.specs.GroupLaws.{few_groups, same_units_log, slot_below, slot_moved}
use Rattle.rb_log.specs.GroupSlots.{GroupsAre}
use Rattle.rb_log.specs.Slots.{gate_of, head_at, slot_at, slot_of}
use Rattle.law_redo.specs.Rolled.{rolled}
use Rattle.rb_cache.specs.declared.frame.Frame.{Frame}
use Rattle.rb_cache.specs.Frames.{seen, AreClean, NoneDirty}
use Rattle.rb_twin.specs.TwinLaws.{kept_shut}
use Rattle.rb_twin.specs.Twins.{home, kept, twin_gate}
use Rattle.rb_store.specs.Meaning.{Means, Opens}
use Rattle.rb_store.specs.StoreStates.{StoreState, StoreLeaves, IsQuietAt, IsStable, IsStableAt, blocks_by}
use Rattle.rb_store.proofs.CachedLemmas.{clean_same, seen_same}
use Rattle.rb_store.proofs.StoreLemmas.{one_by, same_blocks}

-- Files that are the same but for the control copies and the chooser have the same units in the log and behind it.
later_part : (f g : List ℕ) (k m : ℕ) → SameBut UNIT (log_offset 0) f g → log_offset 0 ≤ k → part g k m ≡ part f k m
later_part f g k m same le =
    let from = log_offset 0 in
    let place : from + (k - from) ≡ k = omega (arith, le) in
    let back = λ (h : List ℕ). ap (take m) (drop-drop (k - from) from h ∙ ap (λ (i : ℕ). drop i h) place) in
    sym (back g) ∙ ap (λ (h : List ℕ). take m (drop (k - from) h)) same.behind ∙ back f

same_identity : (l : Layout) (f g : List ℕ) → SameBut UNIT (log_offset 0) f g → HasIdentity file_version l f → HasIdentity file_version l g
same_identity l f g same id = record {
  front = sym (take-take IDENTITY UNIT g (omega arith)) ∙ ap (take IDENTITY) same.before ∙ take-take IDENTITY UNIT f (omega arith) ∙ id.front;
  whole = same.long ∙ id.whole;
}

same_log : (l : Layout) (head : Head) (f g : List ℕ) (groups : List (List Patch)) → head.slot < l.log → SameBut UNIT (log_offset 0) f g → GroupsAre l head f 0 groups → GroupsAre l head g 0 groups
same_log l head f g groups slot same log = same_units_log l head f g 0 groups (λ k lt. later_part f g (log_offset (slot_of l head k)) UNIT same (omega arith)) (omega (arith, slot)) log

pub same_gate : (l : Layout) (f g : List ℕ) → SameBut UNIT (log_offset 0) f g → twin_gate l g ≡ twin_gate l f
same_gate l f g same = byte g ∙ ap (λ (h : List ℕ). slice_index h 0) (later_part f g (twin_offset l 0) 1 same (omega arith)) ∙ sym (byte f)
  where
    byte : (h : List ℕ) → twin_gate l h ≡ slice_index (part h (twin_offset l 0) 1) 0
    byte h = sym (byte_of_part h (twin_offset l 0) 1 (omega arith))

pub same_home : (l : Layout) (f g : List ℕ) (which : ℕ) → SameBut UNIT (log_offset 0) f g → home l g which ≡ home l f which
same_home l f g which same = later_part f g (block_offset l which) UNIT same (omega arith)

same_kept : (l : Layout) (f g : List ℕ) (which : ℕ) → SameBut UNIT (log_offset 0) f g → twin_gate l f ≢ 1 → kept l g which ≡ kept l f which
same_kept l f g which same shut = kept_shut l g which (λ opened. shut (sym (same_gate l f g same) ∙ opened)) ∙ same_home l f g which same ∙ sym (kept_shut l f which shut)

-- An image of a move that has the old head means what the file did.
means_old : (l : Layout) (f c : List ℕ) (blocks : List (List ℕ)) (n : ℕ) → (means : Means l f blocks n) → twin_gate l f ≢ 1 → SameBut UNIT (log_offset 0) f c → head_of c ≡ head_of f → Means l c blocks n
means_old l f c blocks n means shut same head_is = record {
  identity = same_identity l f c same means.identity;
  head = means.head;
  head_is = means.head_is ∙ sym head_is;
  in_log = means.in_log;
  first = means.first;
  groups = means.groups;
  log = same_log l means.head f c means.groups means.in_log same means.log;
  twin = λ opened. absurd (shut (sym (same_gate l f c same) ∙ opened));
  last = means.last;
  whole = means.whole;
  made = λ which lt. means.made which lt ∙ ap (rolled means.head.number means.groups which) (sym (same_kept l f c which same shut));
}

-- the gate of the first place of a head is that of the place to which it moved
pub moved_gate : (l : Layout) (head : Head) (f c : List ℕ) (used : ℕ) → head.slot < l.log → used < l.log → gate_of l head f used ≢ 1 → SameBut UNIT (log_offset 0) f c → gate_of l (head_at l head used) c 0 ≢ 1
moved_gate l head f c used slot few next same is =
    let at : slot_of l (head_at l head used) 0 ≡ slot_of l head used = slot_moved l head used 0 slot (omega (arith, few)) ∙ ap (slot_of l head) (omega arith) in
    next (ap (λ (u : List ℕ). slice_index u 0) (sym (later_part f c (log_offset (slot_of l head used)) UNIT same (omega arith)))
    ∙ ap (λ (s : ℕ). slice_index (slot_at c s) 0) (sym at) ∙ is)

-- One that has the new head, behind all groups, means the same where each block stands at home as it is, and the gate behind the
-- groups is shut: its log is empty.
module _ (l : Layout) (f : List ℕ) (blocks : List (List ℕ)) (n : ℕ) (means : Means l f blocks n) (shut : twin_gate l f ≢ 1) (next : gate_of l means.head f (length means.groups) ≢ 1) (homes : (which : ℕ) → which < block_count l → home l f which ≡ block_of blocks which) where
  few : length means.groups < l.log
  few = let all = few_groups l means.head f 0 means.groups (omega (arith, means.in_log)) means.log in omega (arith, all)

  means_new : (c : List ℕ) → SameBut UNIT (log_offset 0) f c → head_of c ≡ head_at l means.head (length means.groups) → Means l c blocks n
  means_new c same head_is =
      let k = length means.groups in
      let first = means.first in
      let last = means.last in
      let lt = few in
      let slot = means.in_log in record {
        identity = same_identity l f c same means.identity;
        head = head_at l means.head k;
        head_is = sym head_is;
        in_log = slot_below l means.head k slot (omega (arith, lt));
        first = omega (arith, first);
        groups = [];
        log = inr (moved_gate l means.head f c k slot lt next same);
        twin = λ opened. absurd (shut (sym (same_gate l f c same) ∙ opened));
        last = omega (arith, last);
        whole = means.whole;
        made = λ which lt. sym (homes which lt) ∙ sym (kept_shut l f which shut) ∙ sym (same_kept l f c which same shut);
      }

  -- each image of a move
  pub advanced_means : (image : List ℕ → Type 0) (c : List ℕ) → Only f image → Advanced image (head_of f) (head_at l means.head (length means.groups)) c → Means l c blocks n
  advanced_means image c only some =
      let same = subst (λ (d : List ℕ). SameBut UNIT (log_offset 0) d c) (only some.outside.0 some.outside.1) some.outside.2 in
      ⊎_elim (λ was. means_old l f c blocks n means shut same was) (λ moved. means_new c same moved) some.head

  pub new_head : (c : List ℕ) → SameBut UNIT (log_offset 0) f c → head_of c ≡ head_at l means.head (length means.groups) → (m : Means l c blocks n) × (m.head ≡ head_at l means.head (length means.groups)) × (length m.groups ≡ 0)
  unfolding means_new
  new_head c same head_is = (means_new c same head_is, refl, refl)

-- frames that are all clean show the homes
pub seen_home : (l : Layout) (file : List ℕ) (held : List Frame) (k : ℕ) → NoneDirty held → AreClean l file held → seen l file held k ≡ home l file k
seen_home l file [] k none clean = refl
seen_home l file (f ∷ held) k none clean = by (f.block == k) refl (seen_home l file held k none.1 clean.1)
  where
    by : (a : Bool) → (f.block == k) ≡ a → seen l file held k ≡ home l file k → (if a then f.bytes else seen l file held k) ≡ home l file k
    by true is rest = clean.0 none.0 ∙ ap (home l file) (eqb-true f.block k is)
    by false is rest = rest

-- A store whose blocks are all at home, and in which none waits, while the head of its log moves behind the groups.
module _ {D : Type 0} (d : Ghosts D) (s : StoreState D) (q : IsQuietAt s.layout s.head s.used s.number s.held (d.content s.disk) (d.image s.disk)) (none : NoneDirty s.held) (waits : s.pending ≡ []) (in_log : s.head.slot < s.layout.log) (few : s.used < s.layout.log) (new : D) where
  abbrev l : Layout
  l = s.layout

  abbrev f : List ℕ
  f = d.content s.disk

  abbrev to : Head
  to = head_at s.layout s.head s.used

  -- over blocks that are stable
  module _ (b : List (List ℕ)) (n : ℕ) (st : IsStable d s b n) where
    at_home : (which : ℕ) → which < block_count l → home l f which ≡ block_of b which
    at_home which lt =
        sym (seen_home l f s.held which none q.clean) ∙ sym (one_by l f s.held which lt)
        ∙ ap (λ (bs : List (List ℕ)). block_of bs which) (st.reads ∙ ap (λ (p : List (List Patch)). after_groups (n + 1) p b) waits)

    same_head : head_at l st.opens.means.head (length st.opens.means.groups) ≡ to
    same_head = ap (λ (h : Head). head_at l h (length st.opens.means.groups)) st.head_is ∙ ap (head_at l s.head) st.used_is

    behind : gate_of l st.opens.means.head f (length st.opens.means.groups) ≢ 1
    behind = subst (λ (h : Head). gate_of l h f (length st.opens.means.groups) ≢ 1) (sym st.head_is) (subst (λ (k : ℕ). gate_of l s.head f k ≢ 1) (sym st.used_is) q.next)

    pub move_moments : (t : StoreState D) → Leaves d s.disk t.disk (Advanced (d.image s.disk) (head_of f) to) → StoreLeaves d s t (λ c. Opens (shape_of l) (Some l.log) c b n)
    move_moments t leaves =
        let P : List ℕ → Type 0 = λ c. Opens (shape_of l) (Some l.log) c b n in
        let w = weaker d.moment d.image_since s.disk t.disk (Advanced (d.image s.disk) (head_of f) to) P (λ c some. record {
          layout = l;
          shape_is = refl;
          slots_are = refl;
          opens = record {
            means = advanced_means l f b n st.opens.means q.shut behind at_home (d.image s.disk) c q.only (subst (λ (h : Head). Advanced (d.image s.disk) (head_of f) h c) (sym same_head) some);
            headed = st.opens.headed;
          };
        }) leaves in
        record { later = w.later; each = w.each; earlier = w.earlier }

    -- the file behind the move opens to the same blocks
    pub move_stable : SameBut UNIT (log_offset 0) f (d.content new) → head_of (d.content new) ≡ to → Only (d.content new) (d.image new)
        → blocks_by l (d.content new) s.held ≡ blocks_by l f s.held
        → IsStableAt l to 0 s.pending s.number (blocks_by l (d.content new) s.held) (d.content new) (d.image new) b n
    move_stable same head_is only blocks =
        let moved = new_head l f b n st.opens.means q.shut behind at_home (d.content new) same (head_is ∙ sym same_head) in record {
          only = only;
          opens = record { means = moved.0; headed = st.opens.headed };
          head_is = moved.1 ∙ same_head;
          used_is = moved.2;
          numbered = st.numbered;
          reads = blocks ∙ st.reads;
        }

  module _ (same : SameBut UNIT (log_offset 0) f (d.content new)) where
    pub seen_moved : (k : ℕ) → seen l (d.content new) s.held k ≡ seen l f s.held k
    seen_moved k = seen_same l f (d.content new) s.held k (same_home l f (d.content new) k same)

    pub blocks_moved : blocks_by l (d.content new) s.held ≡ blocks_by l f s.held
    blocks_moved = same_blocks (block_count l) (blocks_by l (d.content new) s.held) (blocks_by l f s.held)
        (length-map-range_with_len (seen l (d.content new) s.held) 0 (block_count l)) (length-map-range_with_len (seen l f s.held) 0 (block_count l))
        (λ k lt. one_by l (d.content new) s.held k lt ∙ seen_moved k ∙ sym (one_by l f s.held k lt))

    pub move_quiet : Only (d.content new) (d.image new) → IsQuietAt l to 0 s.number s.held (d.content new) (d.image new)
    move_quiet only = record {
      whole = same.long ∙ q.whole;
      only = only;
      shut = λ gate. q.shut (sym (same_gate l f (d.content new) same) ∙ gate);
      next = moved_gate l s.head f (d.content new) s.used in_log few q.next same;
      clean = clean_same l f (d.content new) s.held (λ k. same_home l f (d.content new) k same) q.clean;
      low = λ which lt. let low = q.low which lt in let is = ap (λ (x : List ℕ). number_at x 0 8) (seen_moved which) in omega (arith, low, is);
    }
