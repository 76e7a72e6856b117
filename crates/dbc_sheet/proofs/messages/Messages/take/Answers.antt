use Rattle.dbc_sheet.proofs.MessageRules.{none_indexed}
use Rattle.dbc_sheet.proofs.messages.Messages.take.Goals as goal

pub invariant_of-self : goal.invariant_of-self
invariant_of-self c = none_indexed c.take.new.self c.clear.new.self c.take.ensures.rest c.clear.ensures
