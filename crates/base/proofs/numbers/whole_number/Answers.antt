use Rattle.base.proofs.WholeNumbers.{whole_of-is}
use Rattle.base.proofs.numbers.whole_number.Goals as goal

pub returns-clause-computed : goal.returns-clause-computed
returns-clause-computed c = whole_of-is c.args.bytes.now c.digits_number.result c.digits_number.ensures
