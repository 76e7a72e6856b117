use Rattle.office_law.proofs.HistoriesApart.{replies_apart}
use Rattle.office_law.proofs.histories.replies_are_apart.Goals as goal

pub returns : goal.returns
returns c = replies_apart c.texts_read_as_one_sheet.ensures
