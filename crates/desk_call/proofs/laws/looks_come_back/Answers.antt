use Rattle.desk_call.proofs.LooksBack.{looks_come_back}
use Rattle.desk_call.proofs.laws.looks_come_back.Goals as goal

pub returns : goal.returns
returns c = looks_come_back
