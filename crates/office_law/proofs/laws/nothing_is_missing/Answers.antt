use Rattle.office_law.proofs.FoundWherePassed.{nothing_is_missing}
use Rattle.office_law.proofs.laws.nothing_is_missing.Goals as goal

pub returns : goal.returns
returns c = nothing_is_missing
