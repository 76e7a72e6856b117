use Rattle.std.proofs.Common.{◌≡◌, ◌↔◌, ◌<◌, ◌^◌, drop}
use Rattle.std.specs.Str.Parse.{AllDigits, digits_value, digits_value_after}
use Rattle.base.proofs.numbers.digits_number.Given as goal

-- the number so far, followed by the digits that are left, is the whole number
abbrev pub invariant-loop-byte : goal.invariant-loop-byte
invariant-loop-byte l = record {
  small : l.number < 2 ^ 32;
  digits : AllDigits 10 l.bytes ↔ AllDigits 10 (drop l.byte-index l.bytes);
  value : digits_value 10 l.bytes ≡ digits_value_after 10 l.number (drop l.byte-index l.bytes);
}
