use Rattle.decimal.proofs.Common.{arith}
use Rattle.decimal.proofs.PlainNumbers.{ten_out}
use Rattle.decimal.proofs.plain.without_zeros.Goals as goal

pub loop-zeros-preserved : goal.loop-zeros-preserved
loop-zeros-preserved c = ten_out c.args.number c.loop-zeros.left c.loop-zeros.zeros c.loop-zeros.invariant (omega arith)
