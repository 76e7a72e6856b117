use Rattle.dbc_sheet.proofs.Multiplexors.{none_known}
use Rattle.dbc_sheet.proofs.signals.Signals.new.Goals as goal

pub invariant_of-result : goal.invariant_of-result
invariant_of-result c = none_known c.new.result c.new.ensures
