use Rattle.decimal.proofs.Common.{arith}
use Rattle.decimal.proofs.DigitLists.{capped_more}
use Rattle.decimal.specs.Cutting.{greatest_power}
use Rattle.decimal.proofs.spelling.capped_value.Goals as goal

pub loop-digit-preserved : goal.loop-digit-preserved
loop-digit-preserved c =
    capped_more c.args.digits.now c.loop-digit.digit-index c.loop-digit.value c.min-value.result greatest_power
    c.requires (omega arith) c.loop-digit.invariant (rw c.from.ensures at c.min-value.ensures)
