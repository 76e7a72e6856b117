use Rattle.office_law.proofs.RefusalsForAbsence.{never_two}
use Rattle.office_law.proofs.laws.sheets_have_one_multiplexor.Goals as goal

pub returns : goal.returns
returns c = never_two
