use Rattle.decimal.proofs.Common.{◌≡◌, ◌-◌, ◌^◌, ◌<◌, take, drop, digits_value}
use Rattle.decimal.proofs.digits.Digits.value.Given as goal

abbrev pub invariant-loop-i : goal.invariant-loop-i
invariant-loop-i l =
    (l.value ≡ digits_value 10 (take (l.i - l.start) (drop l.start l.self))) × (l.value < 10 ^ (l.i - l.start))
