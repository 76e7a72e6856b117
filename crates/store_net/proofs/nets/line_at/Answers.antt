use Rattle.store_net.proofs.Common.{◌≡◌, Some, sym, subst, ◌∙◌, arith, Database, state, HasCleanDisk, IsOffice}
use Rattle.store_net.proofs.Common.{tables_of, IsNetAt}
use Rattle.store_net.proofs.Names.{line_is}
use Rattle.store_net.proofs.nets.line_at.Goals as goal

pub returns-clause-found : goal.returns-clause-found
returns-clause-found g c clean office net there =
    let name = c.args.name.now in
    let s0 = state g.S.Store c.args.tx.now.conn.now in
    let s1 = state g.S.Store c.head_of.new.tx.conn.now in
    let clean1 : HasCleanDisk s1 = omega (arith, c.release_count.ensures.frame.survives.clean) in
    let now1 : s1.now ≡ s0.now = (c.in_ok-head.ensures.frame.same clean1 office).0.now_is in
    let office1 : IsOffice s1.now = subst IsOffice (sym now1) office in
    let there1 : IsNetAt name (tables_of s1.now.trees) (Some net) =
    subst (λ (d : Database). IsNetAt name (tables_of d.trees) (Some net)) (sym now1) there in
    c.in_ok-net_line.ensures
    ∙ line_is name net c.in-Some.head c.in_ok-releases.releases there.rest.named
    (sym c.in-Some.is ∙ c.in_ok-head.ensures.found clean1 office (Some net.head) there.rest.head)
    (c.in_ok-releases.ensures.found clean office1 net there1)
