use Rattle.store_tables.proofs.Common.{rules}
use Rattle.store_tables.specs.Comparing.{column_at}
use Rattle.store_tables.proofs.Firsts.{one_more}
use Rattle.store_tables.proofs.comparing.are_columns.Goals as goal

pub loop-at-preserved : goal.loop-at-preserved
loop-at-preserved c = one_more column_at c.args.columns.now c.args.office.now c.loop-at.at c.index-columns-at.result _ _
    c.is_column.result (search rules) (search rules)
    c.index-columns-at.is c.is_column.ensures c.if-not-is_column.false c.loop-at.invariant
