use Rattle.office_history.proofs.Common.{steps_agree}
use Rattle.office_history.proofs.Names.{numbers_keep_their_names}
use Rattle.office_history.proofs.laws.numbers_keep_their_names.Goals as goal

pub returns : goal.returns
returns c = numbers_keep_their_names (steps_agree c.texts_read_as_one_sheet.ensures)
