use Rattle.std.proofs.Common.{◌≡◌, true, false, sym, ◌∙◌, arith}
use Rattle.std.proofs.lemmas.Fmt.{decimal_injective}
use Rattle.rb_script.proofs.words.count_of.Goals as goal

pub returns-then-not-is_count-clause-none : goal.returns-then-not-is_count-clause-none
returns-then-not-is_count-clause-none c n low high e =
    let m = c.in_ok-number.number in
    let same : m ≡ n = decimal_injective m n (omega arith) (omega arith) (sym c.in_ok-number.ensures.found ∙ e) in
    let yes : c.is_count.result ≡ true = c.is_count.ensures.1 (omega arith, omega arith) in
    let clash : true ≡ false = sym yes ∙ c.if-not-is_count.true in
    cc
