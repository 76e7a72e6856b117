use Rattle.desk_client.proofs.RepliesBack as back
use Rattle.desk_client.proofs.laws.replies_come_back.Goals as goal

pub returns : goal.returns
returns c = back.replies_come_back
