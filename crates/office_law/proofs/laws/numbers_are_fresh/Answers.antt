use Rattle.office_law.proofs.FreshNumbers.{numbers_are_fresh}
use Rattle.office_law.proofs.laws.numbers_are_fresh.Goals as goal

pub returns : goal.returns
returns c = numbers_are_fresh
