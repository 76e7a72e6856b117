use Rattle.store_net.proofs.Common.{◌≡◌, Some, rules, sym, subst, ◌∙◌, arith, IfOk-weaker, Database, state}
use Rattle.store_net.proofs.Common.{HasCleanDisk, IsOffice, tables_of, IsNetAt}
use Rattle.store_net.proofs.LastRelease.{has_last}
use Rattle.store_net.proofs.release.last_has_at.Goals as goal

pub returns-in-Ok-clause-found : goal.returns-in-Ok-clause-found
returns-in-Ok-clause-found g c clean office =
    let s0 = state g.S.Store c.args.tx.now.conn.now in
    let s1 = state g.S.Store c.release_count.new.tx.conn.now in
    let clean1 : HasCleanDisk s1 = omega (arith, c.release_has_at.ensures.frame.survives.clean, clean) in
    let now1 : s1.now ≡ s0.now = (c.in_ok-count.ensures.frame.same clean1 office).0.now_is in
    let office1 : IsOffice s1.now = subst IsOffice (sym now1) office in
    let number : c.in-Ok.number ≡ c.in_ok-count.count = search rules in
    IfOk-weaker c.release_has_at.result _ _
    (λ found has net there.
    has (Some net) (subst (λ (db : Database). IsNetAt c.args.name.now (tables_of db.trees) (Some net)) (sym now1) there)
    ∙ has_last c.args.ident net c.in-Ok.number (number ∙ c.in_ok-count.ensures.found clean1 office net there))
    (c.release_has_at.ensures.found clean office1)
