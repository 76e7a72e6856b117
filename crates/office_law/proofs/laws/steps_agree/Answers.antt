use Rattle.office_law.proofs.OneStep.{steps_agree}
use Rattle.office_law.proofs.laws.steps_agree.Goals as goal

pub returns : goal.returns
returns c = steps_agree c.texts_read_as_one_sheet.ensures
