use Rattle.office_law.proofs.KeptOffice.{offices_are_kept}
use Rattle.office_law.proofs.laws.offices_are_kept.Goals as goal

pub returns : goal.returns
returns c = offices_are_kept
