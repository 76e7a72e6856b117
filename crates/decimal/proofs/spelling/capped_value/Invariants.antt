use Rattle.decimal.proofs.Common.{◌≡◌, min, take, digits_value}
use Rattle.decimal.specs.Cutting.{greatest_power}
use Rattle.decimal.proofs.spelling.capped_value.Given as goal

abbrev pub invariant-loop-digit : goal.invariant-loop-digit
invariant-loop-digit l = l.value ≡ min (digits_value 10 (take l.digit-index l.digits)) greatest_power
