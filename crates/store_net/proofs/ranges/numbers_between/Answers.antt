use Rattle.store_net.proofs.Common.{subst, IfOk-weaker, state, tables_of}
use Rattle.store_net.specs.Numbers.{HasTaken}
use Rattle.store_net.proofs.Between.{held_shown_between, live_shown_between}
use Rattle.store_net.proofs.ranges.numbers_between.Goals as goal

pub returns-in-Live-clause-found : goal.returns-in-Live-clause-found
returns-in-Live-clause-found g c clean office =
    let name = c.args.name.now in
    let t = tables_of (state g.S.Store c.args.tx.now.conn.now).now.trees in
    IfOk-weaker c.select_msg_numbers.result _ _
    (λ rows selected idents has. live_shown_between name t c.args.first c.args.last rows.items selected idents
    (subst (λ table. HasTaken table name t idents) c.in-Live.is has))
    (rw c.as_bytes.ensures.bytes at (c.select_msg_numbers.ensures.found clean office))

pub returns-in-Held-clause-found : goal.returns-in-Held-clause-found
returns-in-Held-clause-found g c clean office =
    let name = c.args.name.now in
    let t = tables_of (state g.S.Store c.args.tx.now.conn.now).now.trees in
    IfOk-weaker c.select_held_numbers.result _ _
    (λ rows selected idents has. held_shown_between name t c.args.first c.args.last rows.items selected idents
    (subst (λ table. HasTaken table name t idents) c.in-Held.is has))
    (rw c.as_bytes-in-Held.ensures.bytes at (c.select_held_numbers.ensures.found clean office))
