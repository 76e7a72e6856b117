use Rattle.store_changes.proofs.Common.{arith, state, HasCleanDisk, makes_then}
use Rattle.store_changes.proofs.setting.set_block.Goals as goal

pub returns-clause-set : goal.returns-clause-set
returns-clause-set g c clean was =
    let mid = state g.S.Store c.delete_block.new.tx.conn.now in
    let early : HasCleanDisk mid = omega (arith, c.insert_block.ensures.frame.survives.clean, clean) in
    let m1 = c.in_ok-delete_block.ensures.removed early was in
    makes_then _ _ _ _ _ m1 (c.in_ok-insert_block.ensures.added clean m1.office)
