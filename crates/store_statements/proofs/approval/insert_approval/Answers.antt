use Rattle.std.proofs.Common.{rules}
use Rattle.store_statements.proofs.ApprovalTexts.{inserts}
use Rattle.store_statements.proofs.Texts.{edits}
use Rattle.store_statements.proofs.approval.insert_approval.Goals as goal

pub returns : goal.returns
returns g c =
    let both = edits g.S.Store c.args.tx.now c.execute.new.self c.execute.result _ _ _ _
    (inserts c.args.net.now c.args.team.now) c.execute.ensures.ended c.execute.ensures.runs in
    record { added = both.0; rows = both.1; frame = search rules }
