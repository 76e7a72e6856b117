use Rattle.store_changes.proofs.Common.{◌≡◌, ◌∙◌, ◌∷◌, ◌++◌, [], ◌<◌, ◌+◌, take, length, sym, ap, subst, arith}
use Rattle.store_changes.proofs.Common.{length-take, AllByRecursion, take_more, state, HasCleanDisk, tables_of}
use Rattle.store_changes.proofs.Common.{IsSignal, placed_from, with_signal, with_signals, all_append, ends_and_stays}
use Rattle.store_changes.proofs.Common.{writes_then}
use Rattle.store_changes.proofs.ReceiverRows.{signals_push}
use Rattle.store_changes.proofs.message_rows.write_signals.Goals as goal

pub loop-signal-preserved : goal.loop-signal-preserved
loop-signal-preserved g c =
    let old = state g.S.Store c.args.tx.now.conn.now in
    let mid = state g.S.Store c.loop-signal.tx.conn.now in
    let now = state g.S.Store c.write_signal.new.tx.conn.now in
    let net = c.args.net.now in
    let number = c.args.number in
    let signals = c.args.signals.now in
    let at = c.loop-signal.signal-index in
    let item = c.signal-item.result in
    let i = c.loop-signal.invariant in
    let w = c.in_ok-write_signal.ensures in
    let within : at < length signals = c.loop-signal-test.true in
    let done : take (at + 1) signals ≡ take at signals ++ item ∷ [] =
    rw (take_more signals at item within, ← c.signal-item.is) in
    let early : HasCleanDisk now → HasCleanDisk mid = λ clean. omega (arith, w.frame.survives.clean, clean) in
    let so_far = take at signals in
    let taken = length-take at signals in
    let counted : at ≡ 0 + length so_far = omega (arith, taken, within) in
    let before = tables_of old.now.trees in
    record {
      counted = c.in_ok-place.ensures ∙ ap (λ n. n + 1) i.counted;
      signals = subst (AllByRecursion IsSignal) (sym done)
          (all_append IsSignal so_far (item ∷ []) i.signals (w.signal, tt));
      frame = writes_then g.S.Store c.args.tx.now c.loop-signal.tx c.write_signal.new.tx _ i.frame
          (ends_and_stays _ _ _ _ w.frame);
      written = λ clean was.
          w.written clean (i.frame.office (early clean) was)
          ∙ ap (with_signal net number c.loop-signal.place item) (i.written (early clean) was)
          ∙ ap (λ n. with_signal net number n item (with_signals net number (placed_from 0 so_far) before))
          (i.counted ∙ counted)
          ∙ sym (signals_push net number 0 so_far item before)
          ∙ ap (λ l. with_signals net number (placed_from 0 l) before) (sym done);
    }
