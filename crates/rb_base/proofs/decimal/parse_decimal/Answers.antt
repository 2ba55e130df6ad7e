use Rattle.std.proofs.Common.{◌≡◌, ◌<◌, length, get_or, arith, ap, ◌∙◌, below_more}
use Rattle.std.specs.Str.Parse.{digits_value}
use Rattle.std.proofs.lemmas.Grind.{common_steps}
use Rattle.std.proofs.lemmas.Int.Digits.{digits_value_more}
use Rattle.std.proofs.lemmas.List.{take_all}
use Rattle.rb_base.proofs.Decimals.{some_digit, no_leading_zero, digit_of, front_fits, digits_are}
use Rattle.rb_base.proofs.decimal.parse_decimal.Goals as goal
use Rattle.rb_base.proofs.decimal.parse_decimal.Goals.{then-is_empty-via-then-is_empty, then-is_empty-via-else-is_empty+then-has_leading_zero}

pub returns-then-is_empty-clause-none : goal.returns-then-is_empty-clause-none
returns-then-is_empty-clause-none c = λ n small e.
    let some = some_digit c.args.text.now n small e in
    let plain = no_leading_zero c.args.text.now n small e in
    elim c.then-is_empty.branch [
      | then-is_empty-via-then-is_empty w ↦ grind (arith, common_steps, some, w.if-is_empty)
      | then-is_empty-via-else-is_empty+then-has_leading_zero w ↦ grind (arith, common_steps, plain, w.has_leading_zero.ensures, w.if-has_leading_zero)
    ]

pub returns-in_err-value-clause-none : goal.returns-in_err-value-clause-none
returns-in_err-value-clause-none c = rw c.from_residual.ensures (λ n small e.
    let i = c.loop-byte.byte-index in
    let text = c.args.text.now in
    let below : i < length text = omega arith in
    let full = c.in_err-value.ensures.none (digit_of text n i small e below) in
    let fits = front_fits text n i small e below in
    omega (arith, full, fits, c.loop-byte.invariant.sum))

pub loop-byte-preserved : goal.loop-byte-preserved
loop-byte-preserved c =
    let i = c.loop-byte.byte-index in
    let h = c.in_ok-value.ensures.digit in
    record {
      digits = below_more _ _ c.loop-byte.invariant.digits h.0;
      small = c.in_ok-value.ensures.fits;
      sum = omega (arith, h.1, digits_value_more 10 c.args.text.now i (omega arith), c.loop-byte.invariant.sum);
    }

pub returns-clause-found : goal.returns-clause-found
returns-clause-found c =
    let text = c.args.text.now in
    let some : 0 < length text = grind (arith, common_steps) in
    let plain : get_or text 0 0 ≡ 48 → length text ≡ 1 = λ z. grind (arith, common_steps, c.has_leading_zero.ensures, c.if-has_leading_zero) in
    digits_are text c.loop-byte.value c.loop-byte.invariant.small some plain
    (λ k below. c.loop-byte.invariant.digits k (omega arith))
    (c.loop-byte.invariant.sum ∙ ap (digits_value 10) (take_all c.loop-byte.byte-index text (omega arith)))
