use Rattle.std.proofs.Common.{◌≡◌, get_or}
use Rattle.office_views.proofs.Holding.{some_more, several_more}
use Rattle.office_views.proofs.text.held_by.Goals as goal

pub loop-signal-preserved : goal.loop-signal-preserved
loop-signal-preserved c =
    let signals = c.args.signals.now in
    let i = c.loop-signal.signal-index in
    let signal = c.signal-item.result in
    let is : signal ≡ get_or signals i signal = c.signal-item.is in
    let before = c.loop-signal.invariant in
    record {
      some = λ q within.
          some_more c.loop-signal.some c.add_layout.new.self signals i q signal c.loop-signal-test.true within
          (rw is at (c.add_layout.ensures q)) (before.some q within);
      several = λ q within.
          several_more c.loop-signal.some c.loop-signal.several c.add_shared.new.self signals i q signal
          c.loop-signal-test.true (rw is at (c.add_shared.ensures q)) (before.some q within)
          (before.several q within);
    }
