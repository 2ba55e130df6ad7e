-- The counts of lists that are joined.
use Rattle.std.proofs.Common.{◌≡◌, ◌∙◌, ap, sym, refl, subst, arith, ℕ, ◌+◌, Bool, List, [], ◌∷◌, ◌++◌, ◌≤◌, Result, Err}
use Rattle.std.proofs.lemmas.List.Sums.{sum_by-append}
use Rattle.std.specs.Prelude.{cond}
use Rattle.std.specs.List.{count_by}
use Rattle.rb_generator.specs.Counted.{counts_of, is_committed, is_refused, is_row, is_wait, no_counts, plus}
use Rattle.rb_generator.specs.declared.counts.Counts.{Counts}
use Rattle.rb_model.specs.Calls.{Answer}
use Rattle.rb_model.specs.declared.row.Row.{Row}
use Rattle.rb_base.specs.Counts.{IsCounted, Rose}
use Rattle.rb_base.specs.declared.faults.Failed.{Failed}

-- counts are the same where each of them is
pub same_counts : (a b : Counts) → a.committed ≡ b.committed → a.rows ≡ b.rows → a.waits ≡ b.waits → a.refused ≡ b.refused → a ≡ b
same_counts a b e f g h = rw (e, f, g, h) refl

count_both : (p : Answer → Bool) (xs ys : List Answer) → count_by p (xs ++ ys) ≡ count_by p xs + count_by p ys
count_both p xs ys = sum_by-append (λ x. cond (p x) 1 0) xs ys

pub counts_both : (xs ys : List Answer) → counts_of (xs ++ ys) ≡ plus (counts_of xs) (counts_of ys)
counts_both xs ys = same_counts _ _ (count_both is_committed xs ys) (count_both is_row xs ys) (count_both is_wait xs ys) (count_both is_refused xs ys)

pub plus_none : (a : Counts) → plus a no_counts ≡ a
plus_none a = same_counts _ _ (omega arith) (omega arith) (omega arith) (omega arith)

pub none_plus : (a : Counts) → plus no_counts a ≡ a
none_plus a = same_counts _ _ (omega arith) (omega arith) (omega arith) (omega arith)

pub plus_plus : (a b c : Counts) → plus (plus a b) c ≡ plus a (plus b c)
plus_plus a b c = same_counts _ _ (omega arith) (omega arith) (omega arith) (omega arith)

-- more answers behind those that were counted
pub counted_on : (before counts counts2 : Counts) (xs ys : List Answer) → counts ≡ plus before (counts_of xs) → counts2 ≡ plus counts (counts_of ys) → counts2 ≡ plus before (counts_of (xs ++ ys))
counted_on before counts counts2 xs ys is more =
    more ∙ ap (λ (a : Counts). plus a (counts_of ys)) is ∙ plus_plus before (counts_of xs) (counts_of ys) ∙ ap (plus before) (sym (counts_both xs ys))

-- an answer without a row is the same whatever row there is
pub some_row : Row
some_row = record { key = 0; value = record { items = [] } }

pub counted_as_is : (counts counts2 : Counts) (r r2 : Answer) → counts2 ≡ plus counts (counts_of (r ∷ [])) → r ≡ r2 → counts2 ≡ plus counts (counts_of (r2 ∷ []))
counted_as_is counts counts2 r r2 counted is = counted ∙ ap (λ (x : Answer). plus counts (counts_of (x ∷ []))) is

-- a call that failed, by its error
pub counted_err : {before now : ℕ} (result : Result (Unit {0}) Failed) (failed : Failed) → result ≡ Err failed → before ≤ now → Rose before now → IsCounted before now result
counted_err {before} {now} result failed is no_less rose = subst (λ (r : Result (Unit {0}) Failed). IsCounted before now r) (sym is) (record { no_less = no_less; cause = rose; still = tt })
