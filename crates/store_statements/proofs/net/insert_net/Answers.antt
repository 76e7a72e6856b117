use Rattle.std.proofs.Common.{rules}
use Rattle.store_statements.proofs.NetTexts.{inserts}
use Rattle.store_statements.proofs.Texts.{edits}
use Rattle.store_statements.proofs.net.insert_net.Goals as goal

pub returns : goal.returns
returns g c =
    let both = edits g.S.Store c.args.tx.now c.execute.new.self c.execute.result _ _ _ _ (inserts c.args.row.now)
    c.execute.ensures.ended (rw (c.to_sql.ensures, c.to_sql-2.ensures, c.to_sql-3.ensures) at c.execute.ensures.runs) in
    record { added = both.0; rows = both.1; frame = search rules }
