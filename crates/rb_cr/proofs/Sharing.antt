-- A home that was begun at one that is kept, as a history tells it.
use Rattle.std.proofs.Common.{◌≡◌, ◌≤◌, ℕ, List, [], map, Bool, true, Option, Some, Ok, Err, sym, ◌∙◌, ap, subst, arith, Bor}
use Rattle.std.specs.Option.{option_copied}
use Rattle.rb_base.specs.declared.shape.Shape.{Shape}
use Rattle.rb_copies.specs.Copies.{KeptHomes, copy_key, kept_under}
use Rattle.rb_copies.specs.declared.homes.CopyKey.{CopyKey}
use Rattle.rb_copies.specs.declared.homes.KeptHome.{KeptHome}
use Rattle.rb_cr.specs.Clauses.{answer_to}
use Rattle.rb_cr.specs.Copies.{BuiltAt, HasNoneIn, IsFree, IsReadWith, home_kept}
use Rattle.rb_cr.specs.Going.{IsCopy, WentOn}
use Rattle.rb_cr.specs.Scratches.{scratch_home}
use Rattle.rb_cr.specs.declared.faults.CrFault.{CrFault}
use Rattle.rb_cr.specs.declared.scratch.Scratch.{Scratch}
use Rattle.rb_cr.specs.declared.scratch.Snapshot.{Snapshot}
use Rattle.law_read.specs.Copies.{Copied, Unseen}
use Rattle.law_read.specs.Heights.{Over}
use Rattle.law_read.specs.Keeping.{Kept, overlay}
use Rattle.law_read.specs.Reading.{History, rows_in}
use Rattle.law_read.proofs.Copying.{copy_shows}
use Rattle.law_read.proofs.Unseen.{none_unseen, unseen_plain}
use Rattle.law_blocks.specs.Says.{walk_cell}
use Rattle.law_blocks.specs.Standing.{env_of, homes_of}
use Rattle.law_home.specs.Walk.{Home, entry_at}

module _ (shape : Shape) (blocks : List (List ℕ)) (kept : KeptHomes) (b : ℕ) (h : History) (snap : Snapshot) (read : IsReadWith shape blocks kept b h snap) (none : HasNoneIn shape blocks b snap) where
  unseen : Unseen h snap.own snap.upto snap.scn
  unseen = none_unseen (env_of shape blocks) h snap.own snap.upto snap.scn (homes_of shape blocks b) read.read read.told none

  -- a home that is kept at the snapshot shows what the reader sees
  pub kept_shows : (copy : KeptHome) → kept_under kept (copy_key b snap.scn) ≡ Some copy → (k : ℕ) → rows_in (map walk_cell copy.cells) k ≡ answer_to h snap k
  kept_shows copy there k =
      copy_shows (env_of shape blocks) h.base h.rows h.list snap.scn (home_kept shape b copy) (read.copies snap.scn copy there) k
      ∙ sym (unseen_plain h snap.own snap.upto snap.scn unseen k)

  module _ (m : ℕ) (copy : KeptHome) (there : kept_under kept (copy_key b m) ≡ Some copy) (s : Scratch) (home : scratch_home shape s ≡ home_kept shape b copy) where
    pub copied_at : Copied (env_of shape blocks) h.base h.rows h.list m (scratch_home shape s)
    copied_at = subst (Copied (env_of shape blocks) h.base h.rows h.list m) (sym home) (read.copies m copy there)

    -- one that is kept at the snapshot itself shows what the reader sees
    pub taken : m ≡ snap.scn → s.kept ≡ [] → (count : ℕ) → BuiltAt shape blocks b h snap count (Ok (tt {0})) s count
    taken at nothing count =
        let copied : Copied (env_of shape blocks) h.base h.rows h.list snap.scn (scratch_home shape s) = subst (λ (n : ℕ). Copied (env_of shape blocks) h.base h.rows h.list n (scratch_home shape s)) at copied_at in
        record {
          rows = λ k.
              ap (λ (z : Kept). overlay z (rows_in (map walk_cell s.cells)) k) nothing
              ∙ (copy_shows (env_of shape blocks) h.base h.rows h.list snap.scn (scratch_home shape s) copied k
              ∙ sym (unseen_plain h snap.own snap.upto snap.scn unseen k));
          most = omega arith;
          old = tt;
          left = λ high. copied;
        }

    -- and any other can be taken further back
    pub goes : snap.scn ≤ m → IsCopy (record { shape = shape; env = env_of shape blocks }) h snap m s
    goes le = record { honest = read.read.honest; low = read.read.low; below = le; lower = read.read.lower; copied = copied_at; unseen = unseen }

  pub built_on : (m count : ℕ) (s : Scratch) (count2 : ℕ) (whole : Bool) → whole ≡ true → WentOn (env_of shape blocks) h snap.own snap.upto snap.scn m count (Ok whole) (scratch_home shape s) s.kept count2 → BuiltAt shape blocks b h snap count (Ok (tt {0})) s count2
  built_on m count s count2 whole is went = record { rows = went.rows is; most = omega (arith, went.most); old = tt; left = λ high. went.left is }

  pub built_worn : (m count : ℕ) (s : Scratch) (count2 : ℕ) (fault : CrFault) → WentOn (env_of shape blocks) h snap.own snap.upto snap.scn m count (Err fault) (scratch_home shape s) s.kept count2 → BuiltAt shape blocks b h snap count (Err fault) s count2
  built_worn m count s count2 fault went = record { rows = tt; most = omega (arith, went.most); old = went.old (homes_of shape blocks b); left = λ high. tt }

-- a kept home no entry of which is over the snapshot is never passed over
pub not_over : (shape : Shape) (blocks : List (List ℕ)) (kept : KeptHomes) (b n m : ℕ) (copy : KeptHome) (start : Home) → kept_under kept (copy_key b m) ≡ Some copy → start ≡ home_kept shape b copy
    → IsFree shape blocks kept b n m → (j : ℕ) → Over (env_of shape blocks) n (entry_at start j) → ⊥
not_over shape blocks kept b n m copy start there is free j over =
    let both : Some copy ≡ Some free.0 = sym there ∙ free.1 in
    let same : copy ≡ free.0 = cc in
    free.2 j (subst (λ (z : Home). Over (env_of shape blocks) n (entry_at z j)) (is ∙ ap (home_kept shape b) same) over)

-- the home that was found once its key was used was there before
pub found_is : (kept kept2 : KeptHomes) (key : CopyKey) (found : Option (Bor KeptHome)) (home : Bor KeptHome) → kept_under kept2 key ≡ kept_under kept key → option_copied found ≡ kept_under kept2 key → found ≡ Some home → kept_under kept key ≡ Some home.now
found_is kept kept2 key found home same copied is = sym same ∙ (sym copied ∙ ap option_copied is)
