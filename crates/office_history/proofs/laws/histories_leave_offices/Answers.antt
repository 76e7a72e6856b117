use Rattle.office_history.proofs.Common.{steps_agree}
use Rattle.office_history.proofs.Offices.{histories_leave_offices}
use Rattle.office_history.proofs.laws.histories_leave_offices.Goals as goal

pub returns : goal.returns
returns c = histories_leave_offices (steps_agree c.texts_read_as_one_sheet.ensures)
