-- Groups leave bytes 8 to 31 of a block, which tell its kind and its place, and its length.
use Rattle.std.proofs.Common.{◌≡◌, inl, inr, ℕ, ◌+◌, ◌<◌, ◌≤◌, ◌==◌, Bool, true, false, if◌then◌else◌, nat_lt, List, [], ◌∷◌, length, refl, arith, ap, sym, ◌∙◌}
use Rattle.std.specs.List.{AllByRecursion}
use Rattle.rb_base.specs.declared.sizes.TheConstants.{UNIT}
use Rattle.byteorder.specs.Endian.{big_bytes}
use Rattle.byteorder.specs.Numbers.{length-bytes_high_first}
use Rattle.rb_base.specs.Blocks.{written_to, StaysBehind}
use Rattle.rb_base.specs.Fields.{part, overwritten, with_number, number_at}
use Rattle.rb_base.specs.Groups.{Patch, IsGroup}
use Rattle.rb_base.proofs.Overwriting.{length-overwritten, part_apart}
use Rattle.law_redo.proofs.OneAfter.{number_is, number_long, stays}
use Rattle.law_redo.specs.Laws.{SameHead}
use Rattle.law_redo.specs.Rolled.{has_block, numbered_by, after_block, after_blocks, step, rolled}

pub on_same : (x y z : List ℕ) → SameHead x y → SameHead y z → SameHead x z
on_same x y z a b = record { long = b.long; head = b.head ∙ a.head }

same_written : (which : ℕ) (ps : List Patch) (x : List ℕ) → length x ≡ UNIT → AllByRecursion StaysBehind ps → SameHead x (written_to which ps x)
same_written which [] x long stay = record { long = long; head = refl }
same_written which (p ∷ ps) x long stay =
    let one = by (p.block == which) in on_same x (if p.block == which then overwritten x p.at p.bytes else x) _ one (same_written which ps (if p.block == which then overwritten x p.at p.bytes else x) one.long stay.1)
  where
    by : (b : Bool) → SameHead x (if b then overwritten x p.at p.bytes else x)
    by true =
        let within = stay.0.within_block in
        let behind = stay.0.behind_head in record {
          long = length-overwritten x p.at p.bytes (omega (arith, within, long)) ∙ long;
          head = part_apart x p.at p.bytes 8 24 (length p.bytes) (omega (arith, within, long)) refl (inl (omega (arith, behind)));
        }
    by false = record { long = long; head = refl }

same_numbered : (n : ℕ) (x : List ℕ) → length x ≡ UNIT → SameHead x (with_number x 0 8 n)
same_numbered n x long =
    let count = length-bytes_high_first 8 n in
    record {
      long = number_long n x (omega (arith, long)) ∙ long;
      head = ap (λ (l : List ℕ). part l 8 24) (number_is n x) ∙ part_apart x 0 (big_bytes 8 n) 8 24 8 (omega (arith, count, long)) count (inr (omega arith));
    }

module _ (which : ℕ) where
  made : (n : ℕ) (g : List Patch) (x : List ℕ) → length x ≡ UNIT → IsGroup g → SameHead x (numbered_by n g which x)
  made n g x long valid =
      let one = same_written which g x long (stays g valid.each) in
      on_same x (written_to which g x) _ one (same_numbered n (written_to which g x) one.long)

  by_has : (n : ℕ) (g : List Patch) (x : List ℕ) (b : Bool) → length x ≡ UNIT → IsGroup g → SameHead x (if b then numbered_by n g which x else x)
  by_has n g x true long valid = made n g x long valid
  by_has n g x false long valid = record { long = long; head = refl }

  pub after_head : (n : ℕ) (gs : List (List Patch)) (x : List ℕ) → length x ≡ UNIT → AllByRecursion IsGroup gs → SameHead x (after_blocks n gs which x)
  after_head n [] x long valid = record { long = long; head = refl }
  after_head n (g ∷ gs) x long valid =
      let one = by_has n g x (has_block which g) long valid.0 in
      on_same x (after_block n g which x) _ one (after_head (n + 1) gs (after_block n g which x) one.long valid.1)

  by_number : (n : ℕ) (g : List Patch) (x : List ℕ) (a b : Bool) → length x ≡ UNIT → IsGroup g → SameHead x (if a then (if b then numbered_by n g which x else x) else x)
  by_number n g x true b long valid = by_has n g x b long valid
  by_number n g x false b long valid = record { long = long; head = refl }

  pub rolled_head : (n : ℕ) (gs : List (List Patch)) (x : List ℕ) → length x ≡ UNIT → AllByRecursion IsGroup gs → SameHead x (rolled n gs which x)
  rolled_head n [] x long valid = record { long = long; head = refl }
  rolled_head n (g ∷ gs) x long valid =
      let one = by_number n g x (nat_lt (number_at x 0 8) n) (has_block which g) long valid.0 in
      on_same x (step n g which x) _ one (rolled_head (n + 1) gs (step n g which x) one.long valid.1)
