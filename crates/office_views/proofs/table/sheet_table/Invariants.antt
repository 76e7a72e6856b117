use Rattle.std.proofs.Common.{◌≡◌, map, take}
use Rattle.office_views.specs.Table.{message_row}
use Rattle.office_views.proofs.table.sheet_table.Given as goal

abbrev pub invariant-loop-message : goal.invariant-loop-message
invariant-loop-message l = l.rows ≡ map message_row (take l.message-index l.message-items)
