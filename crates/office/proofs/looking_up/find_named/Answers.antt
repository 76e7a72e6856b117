use Rattle.office.proofs.Looked.{live_rises}
use Rattle.office.proofs.looking_up.find_named.Goals as goal

pub look_up-requires-clause-rising : goal.look_up-requires-clause-rising
look_up-requires-clause-rising c = live_rises c.args.net.now c.requires.net
