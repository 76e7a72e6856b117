use Rattle.store_statements.proofs.ReplyTexts.{reply_found, reply_plain}
use Rattle.store_statements.proofs.Texts.{shows}
use Rattle.store_statements.proofs.reply.select_reply.Goals as goal

pub returns : goal.returns
returns g c =
    let both = shows g.S.Store c.args.tx.now c.query_all.new.self (λ rows. rows.items) c.query_all.result _ _ _
    (reply_found (λ rows. rows.items) c.args.team.now c.args.key.now) reply_plain c.query_all.ensures.same_reference
    c.query_all.ensures.ok c.query_all.ensures.err c.query_all.ensures.survives in
    record { found = both.0; frame = both.1 }
