use Rattle.store_migrate.proofs.Common.{◌≡◌, ◌∙◌, List, sym, subst, arith, on_ok_weaker, state, HasCleanDisk, IsOffice}
use Rattle.store_migrate.proofs.Common.{tables_of, Net}
use Rattle.store_migrate.proofs.NetsCarried.{carried_alike}
use Rattle.store_migrate.proofs.carrying.carry_live.Goals as goal

pub returns-clause-carried : goal.returns-clause-carried
returns-clause-carried g c clean office =
    let s0 = state g.S.Store c.args.tx.now.conn.now in
    let s1 = state g.S.Store c.names_of.new.tx.conn.now in
    let s2 = state g.S.Store c.carry_networks.new.tx.conn.now in
    let clean1 : HasCleanDisk s1 = omega (arith, c.carry_networks.ensures.frame.survives.clean, clean) in
    let same : s1.now ≡ s0.now = (c.in_ok-names.ensures.frame.same clean1 office).0.now_is in
    let office1 : IsOffice s1.now = subst IsOffice (sym same) office in
    on_ok_weaker c.carry_networks.result
    (λ carried (nets : List Net) are. carried_alike _ _ s0.now s1.now (tables_of s2.now.trees)
    (c.deref.ensures.value ∙ c.in_ok-names.ensures.found clean1 office nets are) same carried)
    (c.carry_networks.ensures.carried clean office1)
