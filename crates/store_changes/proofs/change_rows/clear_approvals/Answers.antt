use Rattle.store_changes.proofs.Common.{edits_end}
use Rattle.store_changes.proofs.change_rows.clear_approvals.Goals as goal

pub returns-clause-frame : goal.returns-clause-frame
returns-clause-frame g c =
    edits_end g.S.Store c.args.tx.now c.delete_approvals.new.tx _ c.delete_approvals.ensures.frame
    c.in_ok-delete_approvals.ensures.removed
