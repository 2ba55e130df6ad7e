-- An image of the cache's calls opens to the blocks after some of the groups that waited.
use Rattle.std.proofs.Common.{◌*◌, ◌≡◌, ◌≢◌, ⊎_elim, ℕ, ◌+◌, ◌^◌, ◌<◌, List, ◌++◌, length, take, arith, ap, sym, ◌∙◌, subst, refl, slice_index}
use Rattle.std.proofs.lemmas.List.{take_all, take-take, length-take-le, length-append}
use Rattle.std.specs.List.{AllByRecursion}
use Rattle.rb_layout.specs.declared.layout.TheConstants.{IDENTITY}
use Rattle.rb_base.specs.Blocks.{block_of, after_groups}
use Rattle.rb_base.specs.Fields.{number_at}
use Rattle.rb_base.specs.Groups.{Patch, IsGroup}
use Rattle.rb_base.proofs.Blocks.{block_long}
use Rattle.rb_base.proofs.Each.{all_so, all_take}
use Rattle.rb_base.specs.declared.sizes.TheConstants.{UNIT}
use Rattle.rb_layout.specs.Regions.{HasIdentity, block_count, file_length, file_version, log_offset, shape_of}
use Rattle.rb_layout.specs.declared.layout.Head.{Head}
use Rattle.rb_layout.specs.declared.layout.Layout.{Layout}
use Rattle.rb_log.specs.GroupSlots.{IsLoggable}
use Rattle.law_redo.specs.Rolled.{rolled}
use Rattle.law_redo.proofs.Heads.{after_head}
use Rattle.law_redo.proofs.OneAfter.{blocks_after, groups_keep}
use Rattle.law_redo.proofs.Rolling.{after_high, rolled_above, rolled_again, rolled_joined}
use Rattle.rb_cache.proofs.Parts.{part_front}
use Rattle.rb_cache.specs.OnDisk.{OnDisk}
use Rattle.rb_control.specs.HeadLaws.{same_head}
use Rattle.rb_control.specs.Heads.{head_of}
use Rattle.rb_twin.specs.Twins.{home, kept, twin_gate}
use Rattle.rb_twin.specs.TwinLaws.{kept_shut}
use Rattle.rb_store.specs.Meaning.{AreHeaded, OpensAt, place_of}

-- groups that wait are groups
pub are_groups : (l : Layout) (gs : List (List Patch)) → AllByRecursion (IsLoggable l) gs → AllByRecursion IsGroup gs
are_groups l gs each = all_so (IsLoggable l) IsGroup gs (λ g valid. valid.valid) each

-- an image that is in front of the log as another one has its identity
pub same_identity : (l : Layout) (c d : List ℕ) → length c ≡ file_length l → take (log_offset 0) c ≡ take (log_offset 0) d → HasIdentity file_version l d → HasIdentity file_version l c
same_identity l c d whole front id = record {
  front = sym (take-take IDENTITY (log_offset 0) c (omega arith)) ∙ ap (take IDENTITY) front ∙ take-take IDENTITY (log_offset 0) d (omega arith) ∙ id.front;
  whole = whole;
}

-- and where they are of one length, its head
pub front_head : (c d : List ℕ) → length c ≡ length d → take (log_offset 0) c ≡ take (log_offset 0) d → head_of c ≡ head_of d
front_head c d long front = same_head d c (record { long = long; same = part_front (4 * UNIT) UNIT (3 * UNIT) c d front (omega arith) })

-- More groups behind those of a file that opens.
module _ (l : Layout) (file : List ℕ) (b : List (List ℕ)) (n : ℕ) (at : OpensAt l file b n) (shut : twin_gate l file ≢ 1) (more : List (List Patch)) (valid : AllByRecursion IsGroup more) (fits : n + length more < 2 ^ 63) where
  -- they make of a block what rolling all forward makes of its home
  pub made_all : (which : ℕ) → which < block_count l → block_of (after_groups (n + 1) more b) which ≡ rolled at.means.head.number (at.means.groups ++ more) which (home l file which)
  made_all which lt =
      let m = at.means in
      let h = m.head.number in
      let last = m.last in
      let x = block_of b which in
      let home_is : x ≡ rolled h m.groups which (home l file which) = m.made which lt ∙ ap (rolled h m.groups which) (kept_shut l file which shut) in
      let low = (at.headed which lt).low in
      blocks_after (shape_of l) (n + 1) which more b m.whole lt valid
      ∙ sym (rolled_above which (n + 1) more x (omega (arith, fits)) (omega (arith, low)))
      ∙ ap (rolled (n + 1) more which) home_is
      ∙ ap (λ (k : ℕ). rolled k more which (rolled h m.groups which (home l file which))) (omega (arith, last))
      ∙ sym (rolled_joined which h m.groups more (home l file which))

  -- a block that has them all comes to the same
  pub comes_again : (which : ℕ) → which < block_count l → let T = block_of (after_groups (n + 1) more b) which in rolled at.means.head.number (at.means.groups ++ more) which T ≡ T
  comes_again which lt =
      let m = at.means in
      let h = m.head.number in
      let last = m.last in
      let is = made_all which lt in
      let count = length-append m.groups more in
      ap (rolled h (m.groups ++ more) which) is
      ∙ rolled_again which h (m.groups ++ more) (home l file which) (omega (arith, last, count, fits))
      ∙ sym is

  pub headed_after : AreHeaded (shape_of l) (after_groups (n + 1) more b) (n + length more)
  headed_after =
      let m = at.means in
      let same : (which : ℕ) → which < block_count l → place_of (block_of (after_groups (n + 1) more b) which) ≡ place_of (block_of b which) =
      λ which lt. ap place_of (blocks_after (shape_of l) (n + 1) which more b m.whole lt valid) ∙ (after_head which (n + 1) more (block_of b which) (block_long (shape_of l) b which m.whole lt) valid).head in
      λ which lt. record {
        kind = ap (λ (p : List ℕ). slice_index p 0) (same which lt) ∙ (at.headed which lt).kind;
        own = ap (λ (p : List ℕ). number_at p 4 4) (same which lt) ∙ (at.headed which lt).own;
        low =
            let low = (at.headed which lt).low in
            let is = ap (λ (x : List ℕ). number_at x 0 8) (blocks_after (shape_of l) (n + 1) which more b m.whole lt valid) in
            let high = after_high which (n + 1) more (block_of b which) (omega (arith, fits)) (omega (arith, low)) in
            omega (arith, is, high);
      }

-- a file opens to blocks by a log that begins there and has these groups
pub record OpensBy (l : Layout) (head : Head) (groups : List (List Patch)) (file : List ℕ) (blocks : List (List ℕ)) (n : ℕ) : Type 0 where
  pub opens : OpensAt l file blocks n
  pub head_is : opens.means.head ≡ head
  pub groups_are : opens.means.groups ≡ groups

module _ (image : List ℕ → Type 0) (l : Layout) (file : List ℕ) (b : List (List ℕ)) (n : ℕ) (at : OpensAt l file b n) (shut : twin_gate l file ≢ 1) (only : (d : List ℕ) → image d → d ≡ file) (pending : List (List Patch)) (valid : AllByRecursion IsGroup pending) (fits : n + length pending < 2 ^ 63)
    (may : ℕ → List ℕ → Type 0) (comes : (which : ℕ) (x : List ℕ) → which < block_count l → may which x → rolled at.means.head.number (at.means.groups ++ pending) which x ≡ block_of (after_groups (n + 1) pending b) which) where
  pub between : (c : List ℕ) → (some : OnDisk image l at.means.head at.means.groups pending file may c)
      → OpensBy l at.means.head (at.means.groups ++ take some.count pending) c (after_groups (n + 1) (take some.count pending) b) (n + some.count)
  between c some =
      let m = at.means in
      let h = m.head.number in
      let last = m.last in
      let firsts = take some.count pending in
      let long : length firsts ≡ some.count = length-take-le some.count pending some.few in
      let few = some.few in
      let ok : AllByRecursion IsGroup firsts = all_take IsGroup some.count pending valid in
      let fit : n + length firsts < 2 ^ 63 = omega (arith, long, few, fits) in
      let count = length-append m.groups firsts in
      record {
        opens = record {
          means = record {
            identity = same_identity l c some.front.0 some.whole some.front.2 (subst (HasIdentity file_version l) (sym (only some.front.0 some.front.1)) m.identity);
            head = m.head;
            head_is = m.head_is ∙ ap head_of (sym (only some.front.0 some.front.1)) ∙ sym (front_head c some.front.0 (some.whole ∙ sym m.identity.whole ∙ ap length (sym (only some.front.0 some.front.1))) some.front.2);
            in_log = m.in_log;
            first = m.first;
            groups = m.groups ++ firsts;
            log = some.log;
            twin = some.twin;
            last = omega (arith, last, count, long);
            whole = groups_keep (shape_of l) (n + 1) firsts b m.whole ok;
            made = λ which lt. ⊎_elim
                (λ was. made_all l file b n at shut firsts ok fit which lt ∙ ap (rolled h (m.groups ++ firsts) which) (sym was))
                (λ came. let all : firsts ≡ pending = ap (λ (k : ℕ). take k pending) came.0 ∙ take_all (length pending) pending (omega arith) in
                ap (λ (gs : List (List Patch)). block_of (after_groups (n + 1) gs b) which) all ∙ sym (comes which (kept l c which) lt came.1) ∙ ap (λ (gs : List (List Patch)). rolled h (m.groups ++ gs) which (kept l c which)) (sym all))
                (some.homes which lt);
          };
          headed = subst (AreHeaded (shape_of l) (after_groups (n + 1) firsts b)) (ap (λ (k : ℕ). n + k) long) (headed_after l file b n at shut firsts ok fit);
        };
        head_is = refl;
        groups_are = refl;
      }
