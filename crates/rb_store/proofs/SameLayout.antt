-- Layouts of the same numbers are one layout.
use Rattle.std.proofs.Common.{◌≡◌, ℕ, ◌≤◌, ap, subst, ◌∙◌}
use Rattle.std.proofs.Math.Bridge.{le_prop}
use Rattle.rb_layout.specs.OneLayout.{SameNumbers}
use Rattle.rb_layout.specs.declared.layout.Layout.{Layout}

-- how a number lies between two others is told in one way
one_way : (a b t : ℕ) → IsProp ((a ≤ t) × (t ≤ b))
one_way a b t = hlevel le_prop

module _ (l : Layout) where
  other_tables : (t : ℕ) → l.tables ≡ t → (few : (1 ≤ t) × (t ≤ 16)) → l ≡ record l { tables = t; few_tables = few }
  other_tables t e = subst (λ (t : ℕ). (few : (1 ≤ t) × (t ≤ 16)) → l ≡ record l { tables = t; few_tables = few }) e
      (λ few. ap (λ (p : (1 ≤ l.tables) × (l.tables ≤ 16)). record l { few_tables = p }) (one_way 1 16 l.tables l.few_tables few))

  other_blocks : (t : ℕ) → l.blocks ≡ t → (few : (1 ≤ t) × (t ≤ 4096)) → l ≡ record l { blocks = t; few_blocks = few }
  other_blocks t e = subst (λ (t : ℕ). (few : (1 ≤ t) × (t ≤ 4096)) → l ≡ record l { blocks = t; few_blocks = few }) e
      (λ few. ap (λ (p : (1 ≤ l.blocks) × (l.blocks ≤ 4096)). record l { few_blocks = p }) (one_way 1 4096 l.blocks l.few_blocks few))

  other_segments : (t : ℕ) → l.segments ≡ t → (few : (1 ≤ t) × (t ≤ 16)) → l ≡ record l { segments = t; few_segments = few }
  other_segments t e = subst (λ (t : ℕ). (few : (1 ≤ t) × (t ≤ 16)) → l ≡ record l { segments = t; few_segments = few }) e
      (λ few. ap (λ (p : (1 ≤ l.segments) × (l.segments ≤ 16)). record l { few_segments = p }) (one_way 1 16 l.segments l.few_segments few))

  other_slots : (t : ℕ) → l.log ≡ t → (few : (64 ≤ t) × (t ≤ 4096)) → l ≡ record l { log = t; few_slots = few }
  other_slots t e = subst (λ (t : ℕ). (few : (64 ≤ t) × (t ≤ 4096)) → l ≡ record l { log = t; few_slots = few }) e
      (λ few. ap (λ (p : (64 ≤ l.log) × (l.log ≤ 4096)). record l { few_slots = p }) (one_way 64 4096 l.log l.few_slots few))

pub same_layout : (l m : Layout) → SameNumbers l m → l ≡ m
same_layout l m s =
    let a = record l { tables = m.tables; few_tables = m.few_tables } in
    let b = record a { blocks = m.blocks; few_blocks = m.few_blocks } in
    let c = record b { segments = m.segments; few_segments = m.few_segments } in
    other_tables l m.tables s.tables m.few_tables ∙ other_blocks a m.blocks s.blocks m.few_blocks
    ∙ other_segments b m.segments s.segments m.few_segments ∙ other_slots c m.log s.log m.few_slots
