use Rattle.std.proofs.Common.{rules}
use Rattle.store_statements.proofs.ProfileTexts.{inserts}
use Rattle.store_statements.proofs.Texts.{edits}
use Rattle.store_statements.proofs.profile.insert_profile.Goals as goal

pub returns : goal.returns
returns g c =
    let both = edits g.S.Store c.args.tx.now c.execute.new.self c.execute.result _ _ _ _ (inserts c.args.one c.args.number)
    c.execute.ensures.ended (rw (c.to_sql.ensures, c.to_sql-2.ensures) at c.execute.ensures.runs) in
    record { added = both.0; rows = both.1; frame = search rules }
