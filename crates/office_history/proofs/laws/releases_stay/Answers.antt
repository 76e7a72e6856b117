use Rattle.office_history.proofs.Common.{steps_agree}
use Rattle.office_history.proofs.Releases.{releases_stay}
use Rattle.office_history.proofs.laws.releases_stay.Goals as goal

pub returns : goal.returns
returns c = releases_stay (steps_agree c.texts_read_as_one_sheet.ensures)
