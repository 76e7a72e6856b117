use Rattle.office_law.proofs.RefusalsForAbsence.{least_inside_blocks}
use Rattle.office_law.proofs.laws.numbers_elsewhere_do_not_count.Goals as goal

pub returns : goal.returns
returns c = least_inside_blocks
