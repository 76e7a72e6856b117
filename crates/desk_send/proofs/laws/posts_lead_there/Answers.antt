use Rattle.desk_send.proofs.TargetsBack as back
use Rattle.desk_send.proofs.laws.posts_lead_there.Goals as goal

pub returns : goal.returns
returns c = back.posts_lead_there
