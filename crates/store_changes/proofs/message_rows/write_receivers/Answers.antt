use Rattle.store_changes.proofs.Common.{◌≡◌, ◌∙◌, ◌∷◌, ◌++◌, [], List, ◌<◌, ◌+◌, take, length, sym, ap, arith}
use Rattle.store_changes.proofs.Common.{append_assoc, length-take, take_more, state, Row, HasCleanDisk, Tables}
use Rattle.store_changes.proofs.Common.{tables_of, receiver_values, receiver_rows, edits_end, ends_and_stays}
use Rattle.store_changes.proofs.Common.{writes_then}
use Rattle.store_changes.proofs.ReceiverRows.{rows_push}
use Rattle.store_changes.proofs.message_rows.write_receivers.Goals as goal

pub loop-name-preserved : goal.loop-name-preserved
loop-name-preserved g c =
    let old = state g.S.Store c.args.tx.now.conn.now in
    let mid = state g.S.Store c.loop-name.tx.conn.now in
    let now = state g.S.Store c.insert_receiver.new.tx.conn.now in
    let net = c.args.net.now in
    let number = c.args.number in
    let place = c.args.place in
    let receivers = c.args.receivers.now in
    let at = c.loop-name.name-index in
    let item = c.name-item.result in
    let seat = c.loop-name.index in
    let bytes = c.as_bytes.result.now in
    let i = c.loop-name.invariant in
    let w = c.in_ok-insert_receiver.ensures in
    let within : at < length receivers = c.loop-name-test.true in
    let done : take (at + 1) receivers ≡ take at receivers ++ item ∷ [] =
    rw (take_more receivers at item within, ← c.name-item.is) in
    let early : HasCleanDisk now → HasCleanDisk mid = λ clean. omega (arith, w.frame.survives.clean, clean) in
    let so_far = take at receivers in
    let taken = length-take at receivers in
    let counted : at ≡ 0 + length so_far = omega (arith, taken, within) in
    let row_is : receiver_values net number place seat bytes ≡ receiver_values net number place (0 + length so_far)
    item =
    ap (λ n. receiver_values net number place n bytes) (i.counted ∙ counted)
    ∙ ap (receiver_values net number place (0 + length so_far)) c.as_bytes.ensures.bytes in
    let before = tables_of old.now.trees in
    let rows_are : (before.receiver ++ receiver_rows net number place 0 so_far) ++ receiver_values net number place seat
    bytes ∷ [] ≡ before.receiver ++ receiver_rows net number place 0 (take (at + 1) receivers) =
    append_assoc before.receiver (receiver_rows net number place 0 so_far)
    (receiver_values net number place seat bytes ∷ [])
    ∙ ap (λ (r : Row). before.receiver ++ (receiver_rows net number place 0 so_far ++ r ∷ [])) row_is
    ∙ ap (λ (l : List Row). before.receiver ++ l)
    (sym (rows_push net number place 0 so_far item) ∙ ap (receiver_rows net number place 0) (sym done)) in
    record {
      counted = c.in_ok-index.ensures ∙ ap (λ n. n + 1) i.counted;
      frame = writes_then g.S.Store c.args.tx.now c.loop-name.tx c.insert_receiver.new.tx _ i.frame
          (ends_and_stays _ _ _ _ (edits_end _ _ _ _ w.frame w.added));
      written = λ clean was.
          (w.added clean (i.frame.office (early clean) was)).tables_are
          ∙ ap (λ (t : Tables). record t { receiver = t.receiver ++ receiver_values net number place seat bytes ∷ [] })
          (i.written (early clean) was)
          ∙ ap (λ (l : List Row). record before { receiver = l }) rows_are;
    }
