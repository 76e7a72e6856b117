use Rattle.decimal.proofs.Common.{◌≡◌, ◌+◌, ◌≤◌, length, take, suffix_len}
use Rattle.decimal.specs.Cutting.{is_zero}
use Rattle.decimal.proofs.digits.Digits.len_without_trailing_zeros.Given as goal

abbrev pub invariant-loop-end : goal.invariant-loop-end
invariant-loop-end l =
    (l.end ≤ length l.self) × (l.end + suffix_len is_zero l.self ≡ length l.self + suffix_len is_zero
    (take l.end l.self))

abbrev pub decreases-loop-end : goal.decreases-loop-end
decreases-loop-end l = l.end
