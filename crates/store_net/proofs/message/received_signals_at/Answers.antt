use Rattle.store_net.proofs.Common.{◌≡◌, ◌∙◌, [], map, refl, sym, subst, ap, arith, IfOk-weaker, Database, state}
use Rattle.store_net.proofs.Common.{HasCleanDisk, IsSelected, IsOffice, tables_of, has_net_and_number, receivers_order}
use Rattle.store_net.proofs.Common.{receivers_shown, AreShown, ShowsPart, ShowsReceiver, ShowsValueText, places_ascend}
use Rattle.store_net.proofs.Common.{sigs_are_shown, placed_part}
use Rattle.store_net.specs.SignalParts.{received_signal}
use Rattle.store_net.proofs.Bare.{no_parts, part_signals, parts_ascend, parts_shown, receivers_are_shown, same_parts_of}
use Rattle.store_net.proofs.message.received_signals_at.Goals as goal

pub returns-clause-found : goal.returns-clause-found
returns-clause-found g c clean office =
    let net = c.args.net.now in
    let number = c.args.number in
    let s0 = state g.S.Store c.args.tx.now.conn.now in
    let s1 = state g.S.Store c.select_sigs.new.tx.conn.now in
    let t = tables_of s0.now.trees in
    let clean1 : HasCleanDisk s1 = omega (arith, c.select_receivers.ensures.frame.survives.clean) in
    let now1 : s1.now ≡ s0.now = (c.in_ok-sigs.ensures.frame.same clean1 office).0.now_is in
    let office1 : IsOffice s1.now = subst IsOffice (sym now1) office in
    let sigs = c.in_ok-sigs.sigs.items in
    let receivers = c.in_ok-receivers.receivers.items in
    let of_receivers = subst
    (λ (d : Database). IsSelected (has_net_and_number net number) receivers_shown receivers_order
    (tables_of d.trees).receiver receivers) now1 (c.in_ok-receivers.ensures.found clean office1) in
    IfOk-weaker c.signals_of.result _ _
    (λ signals one others h. (
    let shown = sigs_are_shown net number t others sigs h (c.in_ok-sigs.ensures.found clean1 office) in
    one (map (placed_part received_signal) h.placed)
    (parts_ascend received_signal h.placed (places_ascend net number t others h))
    (rw c.deref.ensures.value (parts_shown received_signal (λ s. refl) h.placed sigs shown))
    (rw c.deref-2.ensures.value (subst (λ l. AreShown (ShowsPart ShowsReceiver) l receivers)
    (sym (same_parts_of received_signal (λ s. s.receivers) h.placed (λ s. refl)))
    (receivers_are_shown net number t others receivers h of_receivers)))
    (subst (λ l. AreShown (ShowsPart ShowsValueText) l [])
    (sym (no_parts received_signal (λ s. s.values) h.placed (λ s. refl))) tt)
    ∙ part_signals received_signal h.placed ∙ ap (map received_signal) h.are))
    c.signals_of.ensures
