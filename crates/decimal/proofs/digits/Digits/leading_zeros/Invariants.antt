use Rattle.decimal.proofs.Common.{◌≡◌, ◌+◌, drop, prefix_len}
use Rattle.decimal.specs.Cutting.{is_zero}
use Rattle.decimal.proofs.digits.Digits.leading_zeros.Given as goal

abbrev pub invariant-loop-i : goal.invariant-loop-i
invariant-loop-i l = l.i + prefix_len is_zero (drop l.i l.self) ≡ prefix_len is_zero l.self
