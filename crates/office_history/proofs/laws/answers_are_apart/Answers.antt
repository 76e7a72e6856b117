use Rattle.office_history.proofs.NetworksApart.{answers_are_apart}
use Rattle.office_history.proofs.laws.answers_are_apart.Goals as goal

pub returns : goal.returns
returns c = answers_are_apart c.texts_read_as_one_sheet.ensures
