-- Slot entries that were Open, and are Open still or are what the look at their transaction made of them, tell the looks.
use Rattle.std.proofs.Common.{◌≡◌, ◌⊎◌, inl, inr, ◌<◌, ◌==◌, ℕ, List, sym, ◌∙◌, ap, arith}
use Rattle.std.proofs.lemmas.Bool.{cases_lt, cond-true}
use Rattle.std.proofs.lemmas.Bool.Decides.{nat_tests}
use Rattle.std.proofs.lemmas.List.{get_or-map, get_or_past}
use Rattle.rb_base.specs.Blocks.{block_of, table_blocks}
use Rattle.rb_base.specs.declared.ids.Xid.{Xid}
use Rattle.rb_base.specs.declared.shape.Shape.{Shape}
use Rattle.rb_heap.proofs.Reading.{entries_counted}
use Rattle.rb_heap.specs.Cleaning.{cleaned_entry, cleaned_home, told_entry}
use Rattle.rb_heap.specs.Homes.{Home, home_entry, home_of}
use Rattle.law_crash.specs.Made.{TellsLooks, entry_in}
use Rattle.rb_itl.specs.Entries.{free_entry}
use Rattle.rb_itl.specs.declared.slots.Entry.{Entry}
use Rattle.rb_itl.specs.declared.slots.TheConstants.{BOUND, EXACT, OPEN}
use Rattle.law_blocks.specs.Standing.{env_of}
use Rattle.rb_txntable.specs.declared.looks.Look.{Look}
use Rattle.rb_txntable.specs.declared.looks.Look.TheVariants.{Active, At, Before}

told_exact : (was is : Entry) (look : Look) → is ≡ told_entry was look → was.kind ≡ OPEN → is.kind ≡ EXACT → look ≡ At is.number
told_exact was is Active told opened exact = let same = ap (λ (e : Entry). e.kind) told in absurd (omega (arith, same, opened, exact))
told_exact was is (At c) told opened exact = ap At (sym (ap (λ (e : Entry). e.number) told))
told_exact was is (Before c) told opened exact = let same = ap (λ (e : Entry). e.kind) told in absurd (omega (arith, same, exact))

told_bound : (was is : Entry) (look : Look) → is ≡ told_entry was look → was.kind ≡ OPEN → is.kind ≡ BOUND → look ≡ Before is.number
told_bound was is Active told opened bound = let same = ap (λ (e : Entry). e.kind) told in absurd (omega (arith, same, opened, bound))
told_bound was is (At c) told opened bound = let same = ap (λ (e : Entry). e.kind) told in absurd (omega (arith, same, bound))
told_bound was is (Before c) told opened bound = ap Before (sym (ap (λ (e : Entry). e.number) told))

told_same : (was is : Entry) (look : Look) → is ≡ told_entry was look → is.xid ≡ was.xid
told_same was is Active told = ap (λ (e : Entry). e.xid) told
told_same was is (At c) told = ap (λ (e : Entry). e.xid) told
told_same was is (Before c) told = ap (λ (e : Entry). e.xid) told

-- an entry of a cleaned home that was Open
pub cleaned_told : (look : Xid → Look) (block : List ℕ) (i : ℕ) → (home_entry (home_of block) i).kind ≡ OPEN
    → home_entry (cleaned_home look (home_of block)) i ≡ told_entry (home_entry (home_of block) i) (look (home_entry (home_of block) i).xid)
cleaned_told look block i opened = elim (cases_lt i 8) [
  | inl few ↦
      let e = home_entry (home_of block) i in
      get_or-map (cleaned_entry look) (home_of block).entries i free_entry free_entry (omega (arith, few, entries_counted block))
      ∙ cond-true (e.kind == OPEN) (told_entry e (look e.xid)) e (grind (arith, nat_tests))
  | inr past ↦
      let none : home_entry (home_of block) i ≡ free_entry = get_or_past (home_of block).entries i free_entry (omega (arith, past, entries_counted block)) in
      let kind = ap (λ (e : Entry). e.kind) none in
      absurd (omega (arith, kind, opened))
]

module _ (shape : Shape) (before now : List (List ℕ)) where
  abbrev look_at : (b i : ℕ) → Look
  look_at b i = (env_of shape before).look (entry_in before b i).xid

  -- what has become of an entry that was Open
  abbrev pub IsTold : (b i : ℕ) → Type 0
  IsTold b i = ((entry_in now b i).kind ≡ OPEN) ⊎ (entry_in now b i ≡ told_entry (entry_in before b i) (look_at b i))

  pub tells_by : ((b i : ℕ) → b < table_blocks shape → (entry_in before b i).kind ≡ OPEN → IsTold b i) → TellsLooks shape before now
  tells_by each = record {
    exact = λ b i b_in opened exact. elim (each b i b_in opened) [
      | inl still ↦ absurd (omega (arith, still, exact))
      | inr told ↦ told_exact (entry_in before b i) (entry_in now b i) (look_at b i) told opened exact
    ];
    bound = λ b i b_in opened bound. elim (each b i b_in opened) [
      | inl still ↦ absurd (omega (arith, still, bound))
      | inr told ↦ told_bound (entry_in before b i) (entry_in now b i) (look_at b i) told opened bound
    ];
    same = λ b i b_in opened closed. elim (each b i b_in opened) [
      | inl still ↦ absurd (closed still)
      | inr told ↦ told_same (entry_in before b i) (entry_in now b i) (look_at b i) told
    ];
  }

  -- blocks that are as they were, or cleaned
  pub tells_cleaned : ((b : ℕ) → b < table_blocks shape → (block_of now b ≡ block_of before b) ⊎ (home_of (block_of now b) ≡ cleaned_home (env_of shape before).look (home_of (block_of before b)))) → TellsLooks shape before now
  tells_cleaned each = tells_by (λ b i b_in opened. elim (each b b_in) [
    | inl same ↦ inl (ap (λ (block : List ℕ). (home_entry (home_of block) i).kind) same ∙ opened)
    | inr clean ↦ inr (ap (λ (home : Home). home_entry home i) clean ∙ cleaned_told (env_of shape before).look (block_of before b) i opened)
  ])

  -- blocks that are as they were
  pub tells_same : now ≡ before → TellsLooks shape before now
  tells_same same = tells_cleaned (λ b b_in. inl (ap (λ (blocks : List (List ℕ)). block_of blocks b) same))
