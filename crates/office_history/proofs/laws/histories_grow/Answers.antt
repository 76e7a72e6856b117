use Rattle.office_history.proofs.Histories.{histories_grow}
use Rattle.office_history.proofs.laws.histories_grow.Goals as goal

pub returns : goal.returns
returns c = histories_grow
