-- Copies of a block that are cleaned patch by patch, in step with a group.
use Rattle.std.proofs.Common.{◌≡◌, ℕ, ◌+◌, ◌≤◌, ◌==◌, if◌then◌else◌, List, [], ◌∷◌, ◌++◌, length, refl, arith, ap, sym, ◌∙◌, append_assoc, append-nil, length-append}
use Rattle.std.proofs.lemmas.Bool.{eq-eqb}
use Rattle.std.proofs.lemmas.List.Sums.{sum_by_push}
use Rattle.std.specs.List.{AllByRecursion}
use Rattle.rb_base.specs.Blocks.{written_to}
use Rattle.rb_base.specs.Fields.{overwritten}
use Rattle.rb_base.specs.Groups.{Patch, patch, group_length, patch_length}
use Rattle.rb_cleanout.specs.Cleaned.{Cleans}
use Rattle.rb_heap.specs.Cleaning.{IsCleanPatch}

-- patches behind others are written over what these made
pub written_on : (block : ℕ) (ps qs : List Patch) (copy : List ℕ) → written_to block (ps ++ qs) copy ≡ written_to block qs (written_to block ps copy)
written_on block [] qs copy = refl
written_on block (p ∷ ps) qs copy = written_on block ps qs (if p.block == block then overwritten copy p.at p.bytes else copy)

pub all_joined : {X : Type 0} (P : X → Type 0) (xs ys : List X) → AllByRecursion P xs → AllByRecursion P ys → AllByRecursion P (xs ++ ys)
all_joined P [] ys front rest = rest
all_joined P (x ∷ xs) ys front rest = (front.0, all_joined P xs ys front.1 rest)

pub no_cleans : (block : ℕ) (copy : List ℕ) (group : List Patch) → Cleans block copy copy group group 0 0
no_cleans block copy group = record {
  patches = [];
  same = record { copy = refl; group = sym (append-nil group) };
  each = tt;
  few = omega arith;
  short = omega arith;
}

pub one_clean : (block : ℕ) (old now : List ℕ) (held holds : List Patch) (p : Patch) → IsCleanPatch block p → now ≡ written_to block (p ∷ []) old → holds ≡ held ++ p ∷ [] → Cleans block old now held holds 1 (patch_length p)
one_clean block old now held holds p is copy group = record {
  patches = p ∷ [];
  same = record { copy = copy; group = group };
  each = (is, tt);
  few = omega (arith, ap length group, length-append held (p ∷ []));
  short = omega (arith, ap group_length group, sum_by_push patch_length held p);
}

-- bytes that were set in the copy and in the group
pub one_set : (block : ℕ) (old now : List ℕ) (held holds : List Patch) (at : ℕ) (bytes : List ℕ) → IsCleanPatch block (patch block at bytes) → now ≡ overwritten old at bytes → holds ≡ held ++ patch block at bytes ∷ []
    → Cleans block old now held holds 1 (8 + length bytes)
one_set block old now held holds at bytes is copy group = one_clean block old now held holds (patch block at bytes) is (copy ∙ rw (eq-eqb block block refl) refl) group

-- some patches, and then others
pub more_cleans : (block : ℕ) (old mid now : List ℕ) (held group holds : List Patch) (count bytes more longer all size : ℕ) → Cleans block old mid held group count bytes → Cleans block mid now group holds more longer → count + more ≤ all → bytes + longer ≤ size
    → Cleans block old now held holds all size
more_cleans block old mid now held group holds count bytes more longer all size a b few short = record {
  patches = a.patches ++ b.patches;
  same = record {
    copy = b.same.copy ∙ ap (written_to block b.patches) a.same.copy ∙ sym (written_on block a.patches b.patches old);
    group = b.same.group ∙ ap (λ (l : List Patch). l ++ b.patches) a.same.group ∙ append_assoc held a.patches b.patches;
  };
  each = all_joined (IsCleanPatch block) a.patches b.patches a.each b.each;
  few = omega (arith, a.few, b.few, few);
  short = omega (arith, a.short, b.short, short);
}
