use Rattle.store_statements.proofs.MsgTexts.{msg_named_found, msg_named_plain}
use Rattle.store_statements.proofs.Texts.{shows}
use Rattle.store_statements.proofs.msg.select_msg_named.Goals as goal

pub returns-clause-found : goal.returns-clause-found
returns-clause-found g c =
    (shows g.S.Store c.args.tx.now c.query_all.new.self (λ rows. rows.items) c.query_all.result _ _ _
    (msg_named_found (λ rows. rows.items) c.args.net.now c.args.name.now) msg_named_plain
    c.query_all.ensures.same_reference c.query_all.ensures.ok c.query_all.ensures.err c.query_all.ensures.survives).0

pub returns-clause-frame : goal.returns-clause-frame
returns-clause-frame g c =
    (shows g.S.Store c.args.tx.now c.query_all.new.self (λ rows. rows.items) c.query_all.result _ _ _
    (msg_named_found (λ rows. rows.items) c.args.net.now c.args.name.now) msg_named_plain
    c.query_all.ensures.same_reference c.query_all.ensures.ok c.query_all.ensures.err c.query_all.ensures.survives).1
