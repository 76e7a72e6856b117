use Rattle.store_net.proofs.Common.{◌≡◌, ◌∙◌, sym, subst, arith, IfOk-weaker, Database, state, HasCleanDisk, IsSelected}
use Rattle.store_net.proofs.Common.{IsOffice, tables_of, has_net_and_number, receivers_order, receivers_shown}
use Rattle.store_statements.specs.Shown.{sigvalues_order, sigvalues_shown}
use Rattle.store_rows.proofs.LiveRows.{signals_are_shown}
use Rattle.store_net.proofs.message.signals_at.Goals as goal

pub returns-clause-found : goal.returns-clause-found
returns-clause-found g c clean office =
    let net = c.args.net.now in
    let number = c.args.number in
    let s0 = state g.S.Store c.args.tx.now.conn.now in
    let s1 = state g.S.Store c.select_sigs.new.tx.conn.now in
    let s2 = state g.S.Store c.select_receivers.new.tx.conn.now in
    let clean2 : HasCleanDisk s2 = omega (arith, c.select_sigvalues.ensures.frame.survives.clean) in
    let clean1 : HasCleanDisk s1 = omega (arith, c.select_receivers.ensures.frame.survives.clean) in
    let now1 : s1.now ≡ s0.now = (c.in_ok-sigs.ensures.frame.same clean1 office).0.now_is in
    let office1 : IsOffice s1.now = subst IsOffice (sym now1) office in
    let now2 : s2.now ≡ s0.now = (c.in_ok-receivers.ensures.frame.same clean2 office1).0.now_is ∙ now1 in
    let office2 : IsOffice s2.now = subst IsOffice (sym now2) office in
    let sigs = c.in_ok-sigs.sigs.items in
    let receivers = c.in_ok-receivers.receivers.items in
    let values = c.in_ok-values.values.items in
    let of_receivers = subst
    (λ (d : Database). IsSelected (has_net_and_number net number) receivers_shown receivers_order
    (tables_of d.trees).receiver receivers) now1
    (c.in_ok-receivers.ensures.found clean2 office1) in
    let of_values = subst (λ (d : Database). IsSelected (has_net_and_number net number) sigvalues_shown sigvalues_order
    (tables_of d.trees).sigvalue values) now2
    (c.in_ok-values.ensures.found clean office2) in
    IfOk-weaker c.signals_of.result _ _
    (λ signals one others h. (
    let shown = signals_are_shown net number (tables_of s0.now.trees) others sigs receivers values h
    (c.in_ok-sigs.ensures.found clean1 office) of_receivers of_values in
    one shown.placed shown.ascend (rw c.deref.ensures.value shown.sigs_shown_are)
    (rw c.deref-2.ensures.value shown.receivers_shown_are) (rw c.deref-3.ensures.value shown.values_shown_are)
    ∙ shown.are))
    c.signals_of.ensures
