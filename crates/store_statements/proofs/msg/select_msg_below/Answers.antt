use Rattle.store_statements.proofs.Common.{state, reads_only}
use Rattle.store_statements.proofs.MsgTexts.{below_found, below_text, below_plain}
use Rattle.store_statements.proofs.msg.select_msg_below.Goals as goal

pub returns-clause-found : goal.returns-clause-found
returns-clause-found g c clean office =
    below_found (λ rows. rows.items) c.args.rowid (state g.S.Store c.args.tx.now.conn.now)
    (state g.S.Store c.query_all.new.self.conn.now) c.query_all.result office.schema
    (rw c.to_sql.ensures at (c.query_all.ensures.ok clean))

pub returns-clause-frame : goal.returns-clause-frame
returns-clause-frame g c =
    reads_only g.S.Store c.args.tx.now c.query_all.new.self (λ rows. rows.items) below_text _ c.query_all.result
    below_plain
    c.query_all.ensures.same_reference c.query_all.ensures.ok c.query_all.ensures.err c.query_all.ensures.survives
