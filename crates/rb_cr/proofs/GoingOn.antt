-- How a page goes on: what is known of its rows is known of those that are left, of a block or of a home that is kept.
use Rattle.std.proofs.Common.{◌≡◌, ◌∙◌, ℕ, List, Option, None, Some, IfSome, refl, sym, ap, subst}
use Rattle.rb_base.specs.Blocks.{block_of}
use Rattle.rb_base.specs.declared.store.Store.{Ghosts}
use Rattle.rb_copies.specs.Copies.{KeptHomes, copy_key, kept_under}
use Rattle.rb_copies.specs.declared.homes.CopyKey.{CopyKey}
use Rattle.rb_copies.specs.declared.homes.KeptHome.{KeptHome}
use Rattle.rb_cr.specs.Copies.{HasNoneIn, lsn_at}
use Rattle.rb_cr.specs.Pages.{AreNext, GoesOn, GoesOnBy, IsKeptPage, IsPageOf, PageRows, TellsAll}
use Rattle.rb_cr.specs.declared.plain.KeyCell.{KeyCell}
use Rattle.rb_cr.specs.declared.scratch.Snapshot.{Snapshot}
use Rattle.rb_heap.specs.Homes.{home_of}

module _ {S : Type 0} (s : Ghosts S) (store : S) (kept : KeptHomes) (b : ℕ) (snap : Snapshot) (after : Option ℕ) (lo hi : ℕ) where
  -- where the rows are of no kept home they are the block's own,
  pub of_block : (rows : List KeyCell) (o : Option CopyKey) → ((key : CopyKey) → o ≡ Some key → ⊥) → GoesOnBy s store kept b snap after lo hi rows o
      → (s.loaded store ≡ Some b) × (s.tells → IsPageOf (block_of (s.blocks store) b) snap.scn after lo hi rows)
  of_block rows None not goes = goes
  of_block rows (Some key) not goes = absurd (not key refl)

  -- and else of the home under that key
  pub of_kept : (rows : List KeyCell) (o : Option CopyKey) (key : CopyKey) → o ≡ Some key → GoesOnBy s store kept b snap after lo hi rows o
      → (key ≡ copy_key b snap.scn) × (s.tells → IsKeptPage (s.shape_of store) (s.blocks store) kept b snap after lo hi rows)
  of_kept rows o key is goes = subst (GoesOnBy s store kept b snap after lo hi rows) is goes

  -- the rows of a block that tells go on,
  pub block_goes_on : (page : Option PageRows) → s.loaded store ≡ Some b → (s.tells → TellsAll (block_of (s.blocks store) b) snap.scn)
      → IfSome page (λ left. left.kept ≡ None) → (s.tells → IfSome page (λ left. AreNext after lo hi (home_of (block_of (s.blocks store) b)).cells left.rows))
      → IfSome page (GoesOn s store kept b snap after lo hi)
  block_goes_on None loaded told same next = tt
  block_goes_on (Some left) loaded told same next =
      subst (GoesOnBy s store kept b snap after lo hi left.rows) (sym same) (loaded, λ tells. record { told = told tells; next = next tells })

  -- and those of a kept home
  pub kept_goes_on : (page : Option PageRows) (key : CopyKey) → key ≡ copy_key b snap.scn → IfSome page (λ left. left.kept ≡ Some key)
      → (s.tells → (copy : KeptHome) × (kept_under kept key ≡ Some copy) × (copy.number ≡ lsn_at (s.blocks store) b) × HasNoneIn (s.shape_of store) (s.blocks store) b snap
      × IfSome page (λ left. AreNext after lo hi copy.cells left.rows)) → IfSome page (GoesOn s store kept b snap after lo hi)
  kept_goes_on None key is same next = tt
  kept_goes_on (Some left) key is same next =
      subst (GoesOnBy s store kept b snap after lo hi left.rows) (sym same) (
        is,
        λ tells.
            let (copy, there, unchanged, none, rows) = next tells in
            record { copy = copy; there = subst (λ (k : CopyKey). kept_under kept k ≡ Some copy) is there; unchanged = unchanged; none = none; next = rows },
      )

-- one home is kept under a key
pub same_copy : (kept : KeptHomes) (key key2 : CopyKey) (a b : KeptHome) → key ≡ key2 → kept_under kept key ≡ Some a → kept_under kept key2 ≡ Some b → a ≡ b
same_copy kept key key2 a b same one two = (let at : Some a ≡ Some b = sym one ∙ (ap (kept_under kept) same ∙ two) in cc)

-- two things that are said of what a page has are said each
pub firsts : (P Q : PageRows → Type 0) → (o : Option PageRows) → IfSome o (λ page. P page × Q page) → IfSome o P
firsts P Q None is = tt
firsts P Q (Some page) is = is.0

pub seconds : (P Q : PageRows → Type 0) → (o : Option PageRows) → IfSome o (λ page. P page × Q page) → IfSome o Q
seconds P Q None is = tt
seconds P Q (Some page) is = is.1

-- and both
pub both : (P Q : PageRows → Type 0) → (o : Option PageRows) → IfSome o P → IfSome o Q → IfSome o (λ page. P page × Q page)
both P Q None p q = tt
both P Q (Some page) p q = (p, q)
