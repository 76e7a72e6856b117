use Rattle.decimal.proofs.Common.{◌≡◌, ◌+◌, ◌-◌, ◌*◌, ◌^◌, ◌≤◌, length, take, drop, is_ascii_digit, prefix_len}
use Rattle.decimal.proofs.Common.{digits_value_after}
use Rattle.decimal.proofs.plain.leading_digits.Given as goal

abbrev pub invariant-loop-len : goal.invariant-loop-len
invariant-loop-len l = record {
  prefix : l.len + prefix_len is_ascii_digit (drop l.len l.bytes) ≡ prefix_len is_ascii_digit l.bytes;
  number : l.number ≡ digits_value_after 10 l.initial.number (take l.len l.bytes);
  room : (l.number + 1) * 10 ^ (length l.bytes - l.len) ≤ 10 ^ 19;
}
