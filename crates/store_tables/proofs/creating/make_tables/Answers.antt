use Rattle.store_tables.proofs.Common.{state}
use Rattle.store_tables.proofs.Making.{all_made}
use Rattle.store_tables.proofs.creating.make_tables.Goals as goal

pub returns-clause-made : goal.returns-clause-made
returns-clause-made g c clean none = all_made (state g.S.Store c.make_each.new.tx.conn.now) c.make_each.result
    (c.make_each.ensures.made clean none)
