use Rattle.office_law.proofs.OtherBodies.{bodies_dont_count}
use Rattle.office_law.proofs.laws.bodies_dont_count.Goals as goal

pub returns : goal.returns
returns c = bodies_dont_count
