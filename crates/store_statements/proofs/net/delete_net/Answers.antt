use Rattle.std.proofs.Common.{rules}
use Rattle.store_statements.proofs.NetTexts.{delete_nets}
use Rattle.store_statements.proofs.Texts.{edits}
use Rattle.store_statements.proofs.net.delete_net.Goals as goal

pub returns : goal.returns
returns g c =
    let both = edits g.S.Store c.args.tx.now c.execute.new.self c.execute.result _ _ _ _ (delete_nets c.args.name.now)
    c.execute.ensures.ended c.execute.ensures.runs in
    record { removed = both.0; rows = both.1; frame = search rules }
