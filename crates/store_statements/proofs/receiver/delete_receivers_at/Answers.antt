use Rattle.std.proofs.Common.{rules}
use Rattle.store_statements.proofs.ReceiverTexts.{deletes_at}
use Rattle.store_statements.proofs.Texts.{edits}
use Rattle.store_statements.proofs.receiver.delete_receivers_at.Goals as goal

pub returns : goal.returns
returns g c =
    let both = edits g.S.Store c.args.tx.now c.execute.new.self c.execute.result _ _ _ _
    (deletes_at c.args.net.now c.args.number c.args.place) c.execute.ensures.ended
    (rw (c.to_sql.ensures, c.to_sql-2.ensures) at c.execute.ensures.runs) in
    record { removed = both.0; rows = both.1; frame = search rules }
