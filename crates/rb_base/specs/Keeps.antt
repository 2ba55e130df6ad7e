-- A property of all that a crash may leave of a store.
use Rattle.std.specs.Prelude.{◌≡◌, ℕ, ◌+◌, ◌≤◌, Bool, true, List, [], ◌++◌, length, take, drop}
use Rattle.std.proofs.Common.{arith, sym, ap, ◌∙◌, refl, append-nil}
use Rattle.std.proofs.lemmas.List.{length-drop}
use Rattle.rb_base.specs.Blocks.{after_groups}
use Rattle.rb_base.specs.Groups.{Patch}
use Rattle.rb_base.specs.Logs.{Laws, LogsBy}
use Rattle.rb_base.specs.Moments.{LeavesOnly, weaker}
use Rattle.rb_base.specs.Settling.{told_same, two_steps}
use Rattle.rb_base.specs.Stores.{OpensToSome}
use Rattle.rb_base.specs.declared.store.Store.{Ghosts}

-- The blocks after any number of these groups have a property, in order from the first, with their last log number.
-- Before the first it is n.
abbrev pub AfterEach : (List (List ℕ) → ℕ → Type 0) → ℕ → List (List Patch) → List (List ℕ) → Type 0
AfterEach P n given blocks = (count : ℕ) → count ≤ length given
    → P (after_groups (n + 1) (take count given) blocks) (n + count)

-- What is stable in a store, patched by any number of the groups that wait, has a property.
pub record Keeps {S : Type 0} (s : Ghosts S) (P : List (List ℕ) → ℕ → Type 0) (store : S) : Type 0 where
  pub base : List (List ℕ)
  pub first : ℕ
  pub stable : s.stable store base first
  pub each : AfterEach P first (s.pending store) base

module _ {S : Type 0} (s : Ghosts S) where
  -- a property goes on over calls where it holds after each of their groups
  pub keeps_logged : {Between : S → S → Type 0} (P : List (List ℕ) → ℕ → Type 0) (old new : S)
      (groups : List (List Patch)) → s.keeps
      → (kept : Keeps s P old) → LogsBy s Between old new groups true
      → AfterEach P kept.first (s.pending old ++ groups) kept.base → Keeps s P new
  keeps_logged P old new groups keeps kept logs each =
      let given = s.pending old ++ groups in
      let settles = logs.settles keeps refl kept.base kept.first kept.stable in
      let made = after_groups (kept.first + 1) (take settles.count given) kept.base in
      let waiting = ap length settles.waits in record {
        base = made;
        first = kept.first + settles.count;
        stable = settles.settled;
        each = λ count few. told_same P _ _ _ _
            (sym (ap (λ (l : List (List Patch)). after_groups (kept.first + settles.count + 1) (take count l) made)
            (settles.waits ∙ sym (append-nil (drop settles.count given)))
            ∙ two_steps kept.first given [] settles.count count kept.base settles.few
            ∙ ap (λ (l : List (List Patch)). after_groups (kept.first + 1) (take (settles.count + count) l)
            kept.base)
            (append-nil given)))
            (omega arith)
            (each (settles.count + count)
            (omega (arith, few, length-drop settles.count given, waiting, settles.few)));
      }

  -- each image that a crash in calls may leave opens to what has a property, where that holds after each group
  pub leaves_logged : {Between : S → S → Type 0} (P : List (List ℕ) → ℕ → Type 0) (old new : S)
      (groups : List (List Patch)) (going : Bool)
      → s.keeps → Laws s → (kept : Keeps s P old) → LogsBy s Between old new groups going
      → AfterEach P kept.first (s.pending old ++ groups) kept.base
      → LeavesOnly s.moment s.left_since old new
      (λ i. (b : List (List ℕ)) × (n : ℕ) × s.opens (s.shape_of old) (s.slots old) i b n × P b n)
  leaves_logged P old new groups going keeps laws kept logs each =
      let opening = s.opens (s.shape_of old) (s.slots old) in
      let given = s.pending old ++ groups in
      weaker s.moment s.left_since old new (OpensToSome opening kept.first given kept.base)
      (λ i. (b : List (List ℕ)) × (n : ℕ) × opening i b n × P b n)
      (λ i some. (
        after_groups (kept.first + 1) (take some.count given) kept.base,
        kept.first + some.count,
        some.opening,
        each some.count some.few,
      ))
      (logs.any_moment keeps laws kept.base kept.first kept.stable)

  -- where no group waits, what is stable is what the store reads
  pub all_stable : (store : S) (b : List (List ℕ)) (n : ℕ) → s.keeps → Laws s → s.stable store b n
      → s.pending store ≡ [] → s.stable store (s.blocks store) (s.lsn store)
  all_stable store b n keeps laws stable none = told_same (s.stable store) _ _ _ _
      (sym (laws.stable_patched store b n keeps stable
      ∙ ap (λ (l : List (List Patch)). after_groups (n + 1) l b) none))
      (omega (arith, laws.stable_numbered store b n keeps stable, ap length none)) stable
