use Rattle.office_law.proofs.RefusalsForAbsence.{refused_for_want}
use Rattle.office_law.proofs.laws.wants_are_real.Goals as goal

pub returns : goal.returns
returns c = refused_for_want
