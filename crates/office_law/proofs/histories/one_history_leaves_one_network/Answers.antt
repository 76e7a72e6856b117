use Rattle.office_law.proofs.HistoriesApart.{one_history_one_network}
use Rattle.office_law.proofs.histories.one_history_leaves_one_network.Goals as goal

pub returns : goal.returns
returns c = one_history_one_network c.texts_read_as_one_sheet.ensures
