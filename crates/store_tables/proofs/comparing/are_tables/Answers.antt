use Rattle.store_tables.proofs.Common.{rules}
use Rattle.store_tables.specs.Comparing.{every_table, table_of}
use Rattle.store_tables.proofs.Firsts.{one_more}
use Rattle.store_tables.proofs.comparing.are_tables.Goals as goal

pub loop-at-preserved : goal.loop-at-preserved
loop-at-preserved c = one_more table_of c.args.tables.now every_table c.loop-at.at c.index-tables-at.result _ _
    c.is_table.result c.loop-at-test.true (search rules)
    c.index-tables-at.is c.is_table.ensures c.if-not-is_table.false c.loop-at.invariant
