use Rattle.dbc_sheet.proofs.SameMessages.{same_is_equal}
use Rattle.dbc_sheet.proofs.same_law.same_messages_are_equal.Goals as goal

pub returns : goal.returns
returns c = same_is_equal
