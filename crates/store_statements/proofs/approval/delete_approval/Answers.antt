use Rattle.std.proofs.Common.{rules}
use Rattle.store_statements.proofs.ApprovalTexts.{delete_approvals}
use Rattle.store_statements.proofs.Texts.{edits}
use Rattle.store_statements.proofs.approval.delete_approval.Goals as goal

pub returns : goal.returns
returns g c =
    let both = edits g.S.Store c.args.tx.now c.execute.new.self c.execute.result _ _ _ _
    (delete_approvals c.args.net.now c.args.team.now) c.execute.ensures.ended c.execute.ensures.runs in
    record { removed = both.0; rows = both.1; frame = search rules }
