use Rattle.desk_send.proofs.ValuesBack as back
use Rattle.desk_send.proofs.laws.values_come_back.Goals as goal

pub returns : goal.returns
returns c = back.values_come_back
