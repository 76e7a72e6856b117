use Rattle.store.proofs.ClearNetworks.{held_networks_are_clear}
use Rattle.store.proofs.laws.held_networks_are_clear.Goals as goal

pub returns : goal.returns
returns c = held_networks_are_clear c.histories_leave_offices.ensures
