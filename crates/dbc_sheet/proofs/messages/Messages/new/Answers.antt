use Rattle.dbc_sheet.proofs.MessageRules.{none_indexed}
use Rattle.dbc_sheet.proofs.messages.Messages.new.Goals as goal

pub invariant_of-result : goal.invariant_of-result
invariant_of-result c = none_indexed c.new.result c.new-2.result c.new.ensures c.new-2.ensures
