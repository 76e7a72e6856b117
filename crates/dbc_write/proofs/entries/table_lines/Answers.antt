use Rattle.dbc_write.proofs.Common.{table_line}
use Rattle.dbc_write.proofs.Adds.{one_more}
use Rattle.dbc_write.proofs.entries.table_lines.Goals as goal

pub loop-table-preserved : goal.loop-table-preserved
loop-table-preserved c =
    one_more table_line c.args.tables.now c.loop-table.table-index c.table-item.result c.loop-table-test.true
    c.table-item.is
    c.loop-table.invariant c.in_ok-table_line.ensures
