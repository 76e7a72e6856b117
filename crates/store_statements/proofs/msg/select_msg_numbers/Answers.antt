use Rattle.store_statements.proofs.MsgTexts.{msg_numbers_found, msg_numbers_plain}
use Rattle.store_statements.proofs.Texts.{shows}
use Rattle.store_statements.proofs.msg.select_msg_numbers.Goals as goal

pub returns-clause-found : goal.returns-clause-found
returns-clause-found g c =
    (shows g.S.Store c.args.tx.now c.query_all.new.self (λ rows. rows.items) c.query_all.result _ _ _
    (msg_numbers_found (λ rows. rows.items) c.args.net.now c.args.first c.args.last) msg_numbers_plain
    c.query_all.ensures.same_reference (rw (c.to_sql.ensures, c.to_sql-2.ensures) at c.query_all.ensures.ok)
    (rw (c.to_sql.ensures, c.to_sql-2.ensures) at c.query_all.ensures.err) c.query_all.ensures.survives).0

pub returns-clause-frame : goal.returns-clause-frame
returns-clause-frame g c =
    (shows g.S.Store c.args.tx.now c.query_all.new.self (λ rows. rows.items) c.query_all.result _ _ _
    (msg_numbers_found (λ rows. rows.items) c.args.net.now c.args.first c.args.last) msg_numbers_plain
    c.query_all.ensures.same_reference (rw (c.to_sql.ensures, c.to_sql-2.ensures) at c.query_all.ensures.ok)
    (rw (c.to_sql.ensures, c.to_sql-2.ensures) at c.query_all.ensures.err) c.query_all.ensures.survives).1
