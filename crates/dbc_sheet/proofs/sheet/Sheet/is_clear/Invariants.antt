use Rattle.dbc_sheet.proofs.Common.{All, take}
use Rattle.dbc_sheet.specs.Messages.{IsClearMessage}
use Rattle.dbc_sheet.proofs.sheet.Sheet.is_clear.Given as goal

abbrev pub invariant-loop-message : goal.invariant-loop-message
invariant-loop-message l = All IsClearMessage (take l.message-index l.message-items)
