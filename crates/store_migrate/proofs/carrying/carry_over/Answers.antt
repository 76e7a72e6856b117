use Rattle.store_migrate.proofs.Common.{arith, on_ok_weaker, state, HasCleanDisk, tables_of, HasBodies}
use Rattle.store_migrate.proofs.AllCarried.{held_as_rows, nets_known}
use Rattle.store_migrate.proofs.carrying.carry_over.Goals as goal

pub returns-clause-held : goal.returns-clause-held
returns-clause-held g c clean office =
    let s0 = state g.S.Store c.args.tx.now.conn.now in
    let s1 = state g.S.Store c.carry_live.new.tx.conn.now in
    let s2 = state g.S.Store c.end_bodies.new.tx.conn.now in
    let laws = c.histories_leave_offices.ensures in
    let clean1 : HasCleanDisk s1 = omega (arith, c.end_bodies.ensures.frame.survives.clean, clean) in
    let office1 = c.in_ok-carry_live.ensures.frame.office clean1 office in
    let carried = c.in_ok-carry_live.ensures.carried clean1 office in
    on_ok_weaker c.end_bodies.result
    (λ made h at. held_as_rows laws h (tables_of s0.now.trees) (tables_of s1.now.trees) (tables_of s2.now.trees) at
    (carried at.holds.office.nets (nets_known laws HasBodies _ h (tables_of s0.now.trees) at.holds)) made.tables_are)
    (c.end_bodies.ensures.ended clean office1)
