use Rattle.store_tables.proofs.Common.{state, Ok}
use Rattle.store_tables.proofs.Growing.{extends_table, grows_table}
use Rattle.store_tables.proofs.Making.{makes_table}
use Rattle.store_tables.proofs.creating.create_table.Goals as goal

pub returns-clause-made : goal.returns-clause-made
returns-clause-made g c clean =
    makes_table c.args.table c.requires (state g.S.Store c.args.tx.now.conn.now)
    (state g.S.Store c.execute.new.self.conn.now) (Ok c.in_ok-execute.field-0) (λ no. (c.in_ok-execute.ensures.ended no).0)
    (rw c.text_of.ensures at (c.in_ok-execute.ensures.runs clean))

pub returns-clause-grown : goal.returns-clause-grown
returns-clause-grown g c clean =
    grows_table c.args.table c.requires (state g.S.Store c.args.tx.now.conn.now)
    (state g.S.Store c.execute.new.self.conn.now) (Ok c.in_ok-execute.field-0) (λ no. (c.in_ok-execute.ensures.ended no).0)
    (rw c.text_of.ensures at (c.in_ok-execute.ensures.runs clean))

pub returns-clause-extended : goal.returns-clause-extended
returns-clause-extended g c clean =
    extends_table c.args.table c.requires (state g.S.Store c.args.tx.now.conn.now)
    (state g.S.Store c.execute.new.self.conn.now) (Ok c.in_ok-execute.field-0) (λ no. (c.in_ok-execute.ensures.ended no).0)
    (rw c.text_of.ensures at (c.in_ok-execute.ensures.runs clean))
