use Rattle.desk_send.proofs.ActionsBack as back
use Rattle.desk_send.proofs.laws.actions_come_back.Goals as goal

pub returns : goal.returns
returns c = back.actions_come_back
