-- A file has one layout.
use Rattle.std.specs.Prelude.{◌≡◌, ℕ, List}
use Rattle.std.proofs.Common.{arith, ap, sym, ◌∙◌}
use Rattle.rb_base.specs.Fields.{number_at}
use Rattle.rb_layout.specs.declared.layout.Layout.{Layout}
use Rattle.rb_layout.specs.Regions.{identity, HasIdentity}

tables_at : (version : ℕ) (l : Layout) → number_at (identity version l) 12 2 ≡ l.tables
tables_at version l = let h = l.few_tables.1 in omega arith

segments_at : (version : ℕ) (l : Layout) → number_at (identity version l) 14 2 ≡ l.segments
segments_at version l = let h = l.few_segments.1 in omega arith

blocks_at : (version : ℕ) (l : Layout) → number_at (identity version l) 16 4 ≡ l.blocks
blocks_at version l = let h = l.few_blocks.1 in omega arith

slots_at : (version : ℕ) (l : Layout) → number_at (identity version l) 20 4 ≡ l.log
slots_at version l = let h = l.few_slots.1 in omega arith

-- two layouts have the same numbers
pub record SameNumbers (l m : Layout) : Type 0 where
  pub tables : l.tables ≡ m.tables
  pub blocks : l.blocks ≡ m.blocks
  pub segments : l.segments ≡ m.segments
  pub log : l.log ≡ m.log

pub one_layout : (version : ℕ) (l m : Layout) (file : List ℕ) → HasIdentity version l file
    → HasIdentity version m file → SameNumbers l m
one_layout version l m file one two =
    let same : identity version l ≡ identity version m = sym one.front ∙ two.front in
    record {
      tables = sym (tables_at version l) ∙ ap (λ bytes. number_at bytes 12 2) same ∙ tables_at version m;
      blocks = sym (blocks_at version l) ∙ ap (λ bytes. number_at bytes 16 4) same ∙ blocks_at version m;
      segments = sym (segments_at version l) ∙ ap (λ bytes. number_at bytes 14 2) same ∙ segments_at version m;
      log = sym (slots_at version l) ∙ ap (λ bytes. number_at bytes 20 4) same ∙ slots_at version m;
    }
