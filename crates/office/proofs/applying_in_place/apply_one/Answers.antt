use Rattle.office.proofs.Looked.{live_rises}
use Rattle.office.proofs.applying_in_place.apply_one.Goals as goal

pub set_message-requires-clause-rising : goal.set_message-requires-clause-rising
set_message-requires-clause-rising c = live_rises c.args.net.now c.requires.net
