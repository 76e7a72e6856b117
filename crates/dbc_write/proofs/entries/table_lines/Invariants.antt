use Rattle.dbc_write.proofs.Common.{map, take, line_text, table_line}
use Rattle.dbc_write.specs.Adding.{Adds}
use Rattle.dbc_write.proofs.entries.table_lines.Given as goal

abbrev pub invariant-loop-table : goal.invariant-loop-table
invariant-loop-table l = Adds line_text l.initial.text.items l.text.items (map table_line (take l.table-index l.tables))
