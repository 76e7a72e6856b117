use Rattle.store_migrate.proofs.Common.{◌≡◌, ◌∙◌, sym, subst, arith, on_ok_weaker, state, HasCleanDisk, IsOffice}
use Rattle.store_migrate.proofs.Common.{tables_of}
use Rattle.store_migrate.proofs.LiveAdded.{added_alike}
use Rattle.store_migrate.proofs.NetsCarried.{net_carried}
use Rattle.store_migrate.proofs.carrying.carry_network.Goals as goal

pub returns-clause-carried : goal.returns-clause-carried
returns-clause-carried g c clean office =
    let s0 = state g.S.Store c.args.tx.now.conn.now in
    let s1 = state g.S.Store c.live_of.new.tx.conn.now in
    let s2 = state g.S.Store c.write_messages.new.tx.conn.now in
    let name = c.args.name.now in
    let clean1 : HasCleanDisk s1 = omega (arith, c.write_messages.ensures.frame.survives.clean, clean) in
    let same : s1.now ≡ s0.now = (c.in_ok-live.ensures.frame.same clean1 office).0.now_is in
    let office1 : IsOffice s1.now = subst IsOffice (sym same) office in
    let found = c.in_ok-live.ensures.found clean1 office in
    on_ok_weaker c.write_messages.result
    (λ added. net_carried name _ (tables_of s0.now.trees) (tables_of s2.now.trees)
    (λ live bodies. c.as_slice.ensures ∙ found live bodies)
    (added_alike name _ s0.now s1.now (tables_of s2.now.trees) same added))
    (c.write_messages.ensures.added clean office1)
