use Rattle.office_law.proofs.Apart.{networks_are_apart}
use Rattle.office_law.proofs.laws.networks_are_apart.Goals as goal

pub returns : goal.returns
returns c = networks_are_apart
