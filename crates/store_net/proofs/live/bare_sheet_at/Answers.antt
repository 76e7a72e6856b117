use Rattle.store_net.proofs.Common.{◌≡◌, List, map, sym, subst, ◌∙◌, arith, Database, state, HasCleanDisk, IsOffice}
use Rattle.store_net.proofs.Common.{tables_of, LiveMessage, HasRows}
use Rattle.store_net.specs.SignalParts.{live_in}
use Rattle.store_net.specs.declared.signal_parts.SignalParts.TheVariants.{RowOnly}
use Rattle.store_net.proofs.Bare.{bare_table, no_table}
use Rattle.store_net.proofs.Whole.{head_in, its_head}
use Rattle.store_net.proofs.live.bare_sheet_at.Goals as goal

pub returns-in_default-clause-found : goal.returns-in_default-clause-found
returns-in_default-clause-found g c clean office net there =
    no_table net
    (sym c.in_default.is ∙ c.in_ok-head.ensures.found clean office (head_in net)
    (its_head c.args.name.now (tables_of (state g.S.Store c.args.tx.now.conn.now).now.trees) net there))

pub returns-clause-found : goal.returns-clause-found
returns-clause-found g c clean office net there =
    let name = c.args.name.now in
    let s0 = state g.S.Store c.args.tx.now.conn.now in
    let s1 = state g.S.Store c.head_of.new.tx.conn.now in
    let clean1 : HasCleanDisk s1 = omega (arith, c.messages_with.ensures.frame.survives.clean) in
    let now1 : s1.now ≡ s0.now = (c.in_ok-head.ensures.frame.same clean1 office).0.now_is in
    let office1 : IsOffice s1.now = subst IsOffice (sym now1) office in
    bare_table name (tables_of s0.now.trees) net c.in-Some.head c.in_ok-live.live c.in_ok-sheet.sheet there
    (sym c.in-Some.is ∙ c.in_ok-head.ensures.found clean1 office (head_in net)
    (its_head name (tables_of s0.now.trees) net there))
    (subst (λ (d : Database). (others : List LiveMessage) → HasRows name (tables_of d.trees) others
    → c.in_ok-live.live ≡ map (live_in RowOnly) others) now1 (c.in_ok-live.ensures.found clean office1))
    (rw c.as_slice.ensures at c.in_ok-sheet.ensures)
