use Rattle.std.proofs.Common.{rules}
use Rattle.store_statements.proofs.ReceiverTexts.{deletes}
use Rattle.store_statements.proofs.Texts.{edits}
use Rattle.store_statements.proofs.receiver.delete_receivers.Goals as goal

pub returns : goal.returns
returns g c =
    let both = edits g.S.Store c.args.tx.now c.execute.new.self c.execute.result _ _ _ _ (deletes c.args.net.now c.args.number)
    c.execute.ensures.ended (rw c.to_sql.ensures at c.execute.ensures.runs) in
    record { removed = both.0; rows = both.1; frame = search rules }
