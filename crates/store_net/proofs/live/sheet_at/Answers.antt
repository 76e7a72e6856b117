use Rattle.store_net.proofs.Common.{◌≡◌, sym, subst, ◌∙◌, arith, state, HasCleanDisk, IsOffice, tables_of, HasRows}
use Rattle.store_net.proofs.LiveSheet.{no_sheet, whole_sheet}
use Rattle.store_net.proofs.Whole.{head_in, its_head, read_before}
use Rattle.store_net.proofs.live.sheet_at.Goals as goal

pub returns-in_default-clause-found : goal.returns-in_default-clause-found
returns-in_default-clause-found g c clean office net there =
    no_sheet net
    (sym c.in_default.is ∙ c.in_ok-head.ensures.found clean office (head_in net)
    (its_head c.args.name.now (tables_of (state g.S.Store c.args.tx.now.conn.now).now.trees) net there))

pub returns-clause-found : goal.returns-clause-found
returns-clause-found g c clean office net there =
    let name = c.args.name.now in
    let s0 = state g.S.Store c.args.tx.now.conn.now in
    let s1 = state g.S.Store c.head_of.new.tx.conn.now in
    let clean1 : HasCleanDisk s1 = omega (arith, c.live_messages.ensures.frame.survives.clean) in
    let now1 : s1.now ≡ s0.now = (c.in_ok-head.ensures.frame.same clean1 office).0.now_is in
    let office1 : IsOffice s1.now = subst IsOffice (sym now1) office in
    whole_sheet name (tables_of s0.now.trees) net c.in-Some.head c.in_ok-live.live c.in_ok-sheet.sheet there
    (sym c.in-Some.is ∙ c.in_ok-head.ensures.found clean1 office (head_in net)
    (its_head name (tables_of s0.now.trees) net there))
    (read_before (HasRows name) c.in_ok-live.live s1.now s0.now now1 (c.in_ok-live.ensures.found clean office1))
    (rw c.as_slice.ensures at c.in_ok-sheet.ensures)
