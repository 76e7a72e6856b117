use Rattle.desk_head.proofs.Leading.{targets_lead_there}
use Rattle.desk_head.proofs.laws.targets_lead_there.Goals as goal

pub returns : goal.returns
returns c = targets_lead_there
