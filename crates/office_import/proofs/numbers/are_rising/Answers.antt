use Rattle.office_import.proofs.Sides.{are_rising}
use Rattle.office_import.proofs.numbers.are_rising.Goals as goal

pub returns : goal.returns
returns c = λ _. are_rising c.args.blocks.now c.loop-i.i c.loop-i-test.false c.loop-i.invariant
