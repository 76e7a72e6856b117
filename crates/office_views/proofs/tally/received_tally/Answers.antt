use Rattle.std.proofs.Common.{◌∙◌, ◌+◌, List, ap}
use Rattle.std.specs.List.{list_any}
use Rattle.dbc_sheet.specs.declared.signal.Signal.{Signal}
use Rattle.office_views.specs.Sending.{receives, receives_some}
use Rattle.office_views.specs.Tally.{once, times}
use Rattle.office_views.proofs.Tallies.{count_more, some_counted}
use Rattle.office_views.proofs.tally.received_tally.Goals as goal

pub loop-message-preserved : goal.loop-message-preserved
loop-message-preserved c = λ n.
    let message = c.message-item.result in
    let before = times c.loop-message.tally n in
    count_more (receives_some n) c.args.messages.now c.loop-message.message-index message before
    (times c.add_receivers.new.self n) c.loop-message-test.true c.message-item.is (c.loop-message.invariant n)
    (c.in_ok-add_receivers.ensures n
    ∙ ap (λ (ss : List Signal). before + once (list_any (receives n) ss)) c.as_slice.ensures.signals
    ∙ ap (λ b. before + once b) (some_counted (receives n) message.signals))
