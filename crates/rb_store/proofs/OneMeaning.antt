-- A file has one meaning.
use Rattle.std.proofs.Common.{◌≡◌, ℕ, ◌<◌, List, [], length, arith, ap, sym, ◌∙◌, subst}
use Rattle.std.proofs.lemmas.List.{same_lists, get_or_default}
use Rattle.rb_base.specs.Groups.{Patch}
use Rattle.rb_layout.specs.Regions.{block_count}
use Rattle.rb_layout.specs.declared.layout.Head.{Head}
use Rattle.rb_layout.specs.declared.layout.Layout.{Layout}
use Rattle.law_redo.specs.Rolled.{rolled}
use Rattle.rb_log.specs.GroupSlots.{GroupsAre}
use Rattle.rb_twin.specs.Twins.{kept}
use Rattle.rb_log.specs.GroupLaws.{one_group_log}
use Rattle.rb_store.specs.Meaning.{Means}

pub one_meaning : (l : Layout) (file : List ℕ) (first second : List (List ℕ)) (n k : ℕ) → Means l file first n → Means l file second k → (first ≡ second) × (n ≡ k)
one_meaning l file first second n k a b = (
  same_lists first second (a.whole.count ∙ sym b.whole.count) (λ i e lt.
      let there : i < block_count l = omega (arith, lt, a.whole.count) in
      get_or_default first i e [] lt ∙ a.made i there ∙ same_rolled i ∙ sym (b.made i there) ∙ sym (get_or_default second i e [] (omega (arith, there, b.whole.count)))),
  omega (arith, a.last, b.last, ap length groups, ap (λ (h : Head). h.number) heads),
)
  where
    heads : a.head ≡ b.head
    heads = a.head_is ∙ sym b.head_is

    groups : a.groups ≡ b.groups
    groups = one_group_log l b.head file 0 a.groups b.groups (subst (λ (h : Head). GroupsAre l h file 0 a.groups) heads a.log) b.log

    same_rolled : (i : ℕ) → rolled a.head.number a.groups i (kept l file i) ≡ rolled b.head.number b.groups i (kept l file i)
    same_rolled i = ap (λ (h : Head). rolled h.number a.groups i (kept l file i)) heads ∙ ap (λ (gs : List (List Patch)). rolled b.head.number gs i (kept l file i)) groups
