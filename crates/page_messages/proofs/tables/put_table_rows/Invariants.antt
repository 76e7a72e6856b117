use Rattle.page_messages.proofs.Common.{take, flat_map, Becomes, adding}
use Rattle.page_messages.specs.Tables.{table_row}
use Rattle.page_messages.proofs.tables.put_table_rows.Given as goal

abbrev pub invariant-loop-table : goal.invariant-loop-table
invariant-loop-table l = Becomes l.page (adding (flat_map table_row (take l.table-index l.tables)) l.initial.page)
