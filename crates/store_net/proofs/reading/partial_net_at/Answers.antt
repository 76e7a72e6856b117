use Rattle.store_net.proofs.Common.{◌≡◌, ◌∙◌, List, map, sym, subst, arith, Database, state, HasCleanDisk, LiveMessage}
use Rattle.store_net.proofs.Common.{IsOffice, tables_of, HasRows}
use Rattle.store_net.specs.NetParts.{partial_net}
use Rattle.store_net.specs.SignalParts.{live_in}
use Rattle.store_net.proofs.Whole.{none_made, with_its_messages}
use Rattle.store_net.proofs.reading.partial_net_at.Goals as goal

pub returns-in_default-clause-found : goal.returns-in_default-clause-found
returns-in_default-clause-found g c clean office net at =
    none_made (partial_net c.args.detail) net (sym c.in_default.is ∙ c.in_ok-net.ensures.found clean office net at)

pub returns-clause-found : goal.returns-clause-found
returns-clause-found g c clean office net at =
    let name = c.args.name.now in
    let make = map (live_in c.args.detail) in
    let s0 = state g.S.Store c.args.tx.now.conn.now in
    let s1 = state g.S.Store c.outline_at.new.tx.conn.now in
    let clean1 : HasCleanDisk s1 = omega (arith, c.messages_with.ensures.frame.survives.clean) in
    let now1 : s1.now ≡ s0.now = (c.in_ok-net.ensures.frame.same clean1 office).0.now_is in
    let office1 : IsOffice s1.now = subst IsOffice (sym now1) office in
    with_its_messages make name (tables_of s0.now.trees) net c.in-Some.net c.in_ok-net-2.field-0 at
    (sym c.in-Some.is ∙ c.in_ok-net.ensures.found clean1 office net at)
    (subst (λ (d : Database). (others : List LiveMessage) → HasRows name (tables_of d.trees) others
    → c.in_ok-net-2.field-0 ≡ make others) now1 (c.in_ok-net-2.ensures.found clean office1))
