-- The frames of a store while a group is patched into them, block by block, with evictions in between; and while the groups of a
-- log are rolled forward.
use Rattle.std.proofs.Common.{◌≡◌, ◌≢◌, ℕ, ◌+◌, ◌^◌, ◌<◌, ◌≤◌, true, nat_lt, List, [], ◌∷◌, ◌++◌, length, take, drop, arith, ap, sym, ◌∙◌, refl, append_assoc}
use Rattle.std.proofs.lemmas.Bool.Decides.{nat_tests}
use Rattle.std.proofs.lemmas.List.{length-append, length-take-le, take-append-drop}
use Rattle.std.specs.List.{AllByRecursion}
use Rattle.rb_base.specs.Blocks.{block_of, after_group, after_groups}
use Rattle.rb_base.specs.Fields.{number_at}
use Rattle.rb_base.specs.Groups.{Patch, IsGroup}
use Rattle.rb_base.specs.Moments.{weaker, joined}
use Rattle.rb_base.specs.Settling.{after_joined}
use Rattle.rb_base.proofs.Each.{all_push}
use Rattle.rb_disk.specs.Moments.{Leaves}
use Rattle.rb_disk.specs.declared.disk.Disk.{Ghosts}
use Rattle.rb_layout.specs.Regions.{block_count, shape_of}
use Rattle.rb_layout.specs.declared.layout.Head.{Head}
use Rattle.rb_layout.specs.declared.layout.Layout.{Layout}
use Rattle.law_redo.specs.Rolled.{rolled, step}
use Rattle.law_redo.proofs.OneAfter.{block_after, groups_keep, stays}
use Rattle.law_redo.proofs.Rolling.{rolled_prefix}
use Rattle.rb_cache.specs.OnDisk.{Later, OnDisk}
use Rattle.rb_twin.specs.Twins.{home, twin_gate}
use Rattle.rb_cache.proofs.Steps.{later_joined, on_disk_later}
use Rattle.rb_store.specs.Meaning.{OpensAt}
use Rattle.rb_store.proofs.Between.{made_all, comes_again, headed_after}

-- One group behind those that wait: what it makes of each block, and what comes of a block that has it already or not yet.
module _ (l : Layout) (file : List ℕ) (b : List (List ℕ)) (n : ℕ) (at : OpensAt l file b n) (shut : twin_gate l file ≢ 1) (pending : List (List Patch)) (g : List Patch) (valid : AllByRecursion IsGroup pending) (one : IsGroup g) (fits : n + length pending + 1 < 2 ^ 63) where
  all_valid : AllByRecursion IsGroup (pending ++ g ∷ [])
  all_valid = all_push IsGroup pending g valid one

  all_fit : n + length (pending ++ g ∷ []) < 2 ^ 63
  all_fit = omega (arith, length-append pending (g ∷ []), fits)

  pub group_makes : (which : ℕ) → which < block_count l
      → block_of (after_groups (n + 1) (pending ++ g ∷ []) b) which ≡ step (n + length pending + 1) g which (block_of (after_groups (n + 1) pending b) which)
  group_makes which lt =
      let before = after_groups (n + 1) pending b in
      let low = (headed_after l file b n at shut pending valid (omega (arith, fits)) which lt).low in
      let test : nat_lt (number_at (block_of before which) 0 8) (n + length pending + 1) ≡ true = grind (arith, nat_tests) in
      ap (λ (bs : List (List ℕ)). block_of bs which) (after_joined (n + 1) pending (g ∷ []) b)
      ∙ ap (λ (k : ℕ). block_of (after_group k g before) which) (omega arith)
      ∙ block_after (shape_of l) (n + length pending + 1) which g before (groups_keep (shape_of l) (n + 1) pending b at.means.whole valid) lt (stays g one.each)
      ∙ sym (rw test refl)

  pub comes_before : (which : ℕ) → which < block_count l
      → rolled at.means.head.number (at.means.groups ++ (pending ++ g ∷ [])) which (block_of (after_groups (n + 1) pending b) which) ≡ block_of (after_groups (n + 1) (pending ++ g ∷ []) b) which
  comes_before which lt =
      let m = at.means in
      let h = m.head.number in
      let last = m.last in
      let H = home l file which in
      let whole : m.groups ++ (pending ++ g ∷ []) ≡ (m.groups ++ pending) ++ g ∷ [] = sym (append_assoc m.groups pending (g ∷ [])) in
      ap (λ (gs : List (List Patch)). rolled h gs which (block_of (after_groups (n + 1) pending b) which)) whole
      ∙ ap (rolled h ((m.groups ++ pending) ++ g ∷ []) which) (made_all l file b n at shut pending valid (omega (arith, fits)) which lt)
      ∙ rolled_prefix which h (m.groups ++ pending) (g ∷ []) H (omega (arith, last, length-append m.groups pending, fits))
      ∙ ap (λ (gs : List (List Patch)). rolled h gs which H) (sym whole)
      ∙ sym (made_all l file b n at shut (pending ++ g ∷ []) all_valid all_fit which lt)

  pub comes_after : (which : ℕ) → which < block_count l
      → rolled at.means.head.number (at.means.groups ++ (pending ++ g ∷ [])) which (block_of (after_groups (n + 1) (pending ++ g ∷ []) b) which) ≡ block_of (after_groups (n + 1) (pending ++ g ∷ []) b) which
  comes_after which lt = comes_again l file b n at shut (pending ++ g ∷ []) all_valid all_fit which lt

-- Groups of a log that are rolled forward: a block that has the first of them comes to the same.
pub comes_part : (h : ℕ) (groups : List (List Patch)) (which k : ℕ) (x : List ℕ) → k ≤ length groups → h + length groups ≤ 2 ^ 63 → rolled h groups which (rolled h (take k groups) which x) ≡ rolled h groups which x
comes_part h groups which k x few fits =
    let whole = take-append-drop k groups in
    ap (λ (gs : List (List Patch)). rolled h gs which (rolled h (take k groups) which x)) (sym whole)
    ∙ rolled_prefix which h (take k groups) (drop k groups) x (omega (arith, length-take-le k groups few, few, fits))
    ∙ ap (λ (gs : List (List Patch)). rolled h gs which x) whole

-- Calls of the cache one after another, seen from the first: no more comes home than what rolls to the target.
module _ {D : Type 0} (d : Ghosts D) (l : Layout) (head : Head) (groups pending : List (List Patch)) (may : ℕ → List ℕ → Type 0) (old : D) where
  abbrev Mine : List ℕ → Type 0
  Mine = OnDisk (d.image old) l head groups pending (d.content old) may

  pub record Went (groups1 pending1 : List (List Patch)) (now : D) : Type 0 where
    pub leaves : Leaves d old now (OnDisk (d.image old) l head groups pending (d.content old) may)
    pub later : Later (d.image old) (d.image now) l groups pending (d.content old) groups1 pending1 (d.content now) may

  pub went_on : (groups1 pending1 groups2 pending2 : List (List Patch)) (may1 : ℕ → List ℕ → Type 0) (mid new : D) → Went groups1 pending1 mid
      → Leaves d mid new (OnDisk (d.image mid) l head groups1 pending1 (d.content mid) may1) → Later (d.image mid) (d.image new) l groups1 pending1 (d.content mid) groups2 pending2 (d.content new) may1
      → ((which : ℕ) (x : List ℕ) → which < block_count l → may1 which x → may which x) → Went groups2 pending2 new
  went_on groups1 pending1 groups2 pending2 may1 mid new went leaves later so = record {
    leaves = joined d.moment d.image_since old mid new Mine went.leaves
        (weaker d.moment d.image_since mid new (OnDisk (d.image mid) l head groups1 pending1 (d.content mid) may1) Mine
        (λ c some. on_disk_later (d.image old) (d.image mid) l head groups pending (d.content old) groups1 pending1 (d.content mid) may may1 went.later so c some) leaves);
    later = later_joined (d.image old) (d.image mid) (d.image new) l groups pending (d.content old) groups1 pending1 (d.content mid) groups2 pending2 (d.content new) may may1 went.later later so;
  }
