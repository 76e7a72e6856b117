use Rattle.store_net.proofs.Common.{◌∙◌, [], map, refl, sym, subst, ap, IfOk-weaker, state, tables_of, AreShown}
use Rattle.store_net.proofs.Common.{ShowsPart, ShowsReceiver, ShowsValueText, places_ascend, sigs_are_shown}
use Rattle.store_net.proofs.Common.{bare_signal, placed_part}
use Rattle.store_net.proofs.Bare.{no_parts, part_signals, parts_ascend, parts_shown}
use Rattle.store_net.proofs.message.bare_signals_at.Goals as goal

pub returns-clause-found : goal.returns-clause-found
returns-clause-found g c clean office =
    let net = c.args.net.now in
    let number = c.args.number in
    let t = tables_of (state g.S.Store c.args.tx.now.conn.now).now.trees in
    let sigs = c.in_ok-sigs.sigs.items in
    IfOk-weaker c.signals_of.result _ _
    (λ signals one others h. (
    let shown = sigs_are_shown net number t others sigs h (c.in_ok-sigs.ensures.found clean office) in
    one (map (placed_part bare_signal) h.placed)
    (parts_ascend bare_signal h.placed (places_ascend net number t others h))
    (rw c.deref.ensures.value (parts_shown bare_signal (λ s. refl) h.placed sigs shown))
    (subst (λ l. AreShown (ShowsPart ShowsReceiver) l [])
    (sym (no_parts bare_signal (λ s. s.receivers) h.placed (λ s. refl))) tt)
    (subst (λ l. AreShown (ShowsPart ShowsValueText) l [])
    (sym (no_parts bare_signal (λ s. s.values) h.placed (λ s. refl))) tt)
    ∙ part_signals bare_signal h.placed ∙ ap (map bare_signal) h.are))
    c.signals_of.ensures
