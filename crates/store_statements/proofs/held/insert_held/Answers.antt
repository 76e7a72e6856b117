use Rattle.std.proofs.Common.{rules}
use Rattle.store_statements.proofs.HeldTexts.{inserts}
use Rattle.store_statements.proofs.Texts.{edits}
use Rattle.store_statements.proofs.held.insert_held.Goals as goal

pub returns : goal.returns
returns g c =
    let both = edits g.S.Store c.args.tx.now c.execute.new.self c.execute.result _ _ _ _ (inserts c.args.net.now c.args.number)
    c.execute.ensures.ended (rw c.to_sql.ensures at c.execute.ensures.runs) in
    record { added = both.0; rows = both.1; frame = search rules }
