use Rattle.page_messages.proofs.Common.{◌≡◌, get_or}
use Rattle.page_messages.proofs.UsedRows.{position_more}
use Rattle.page_messages.proofs.used.positions_of.Goals as goal

pub loop-signal-preserved : goal.loop-signal-preserved
loop-signal-preserved c =
    let signals = c.args.signals.now in
    let i = c.loop-signal.signal-index in
    let signal = c.signal-item.result in
    let is : signal ≡ get_or signals i signal = c.signal-item.is in
    λ q within.
    position_more c.loop-signal.mask c.add_layout.new.self signals i q signal c.loop-signal-test.true within
    (rw is at (c.add_layout.ensures q)) (c.loop-signal.invariant q within)
