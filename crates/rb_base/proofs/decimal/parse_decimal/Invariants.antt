use Rattle.std.proofs.Common.{◌≡◌, ◌<◌, ◌^◌, take}
use Rattle.std.specs.Str.Parse.{digits_value}
use Rattle.rb_base.proofs.Decimals.{AreDigitsTo}
use Rattle.rb_base.proofs.decimal.parse_decimal.Given as goal

abbrev pub invariant-loop-byte : goal.invariant-loop-byte
invariant-loop-byte l = record {
  small : l.value < 2 ^ 64;
  digits : AreDigitsTo l.byte-index l.text;
  sum : l.value ≡ digits_value 10 (take l.byte-index l.text);
}
