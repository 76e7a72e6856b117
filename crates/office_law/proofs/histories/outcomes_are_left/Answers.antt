use Rattle.office_law.proofs.NetsApart.{outcomes_are_left}
use Rattle.office_law.proofs.histories.outcomes_are_left.Goals as goal

pub returns : goal.returns
returns c = outcomes_are_left
