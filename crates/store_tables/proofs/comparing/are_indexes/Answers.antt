use Rattle.store_tables.proofs.Common.{rules}
use Rattle.store_tables.specs.Comparing.{every_index, index_of}
use Rattle.store_tables.proofs.Firsts.{one_more}
use Rattle.store_tables.proofs.comparing.are_indexes.Goals as goal

pub loop-at-preserved : goal.loop-at-preserved
loop-at-preserved c = one_more index_of c.args.indexes.now every_index c.loop-at.at c.index-indexes-at.result _ _
    c.is_index.result c.loop-at-test.true (search rules)
    c.index-indexes-at.is c.is_index.ensures c.if-not-is_index.false c.loop-at.invariant
