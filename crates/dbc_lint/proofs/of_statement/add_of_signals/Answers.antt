use Rattle.dbc_lint.proofs.Common.{◌≡◌, ◌∙◌, ◌+◌, ◌∷◌, ap, drop, sym, drop_more, Signal}
use Rattle.dbc_lint.proofs.EachSignal.{signals_more}
use Rattle.dbc_lint.proofs.of_statement.add_of_signals.Goals as goal

pub loop-signal-preserved : goal.loop-signal-preserved
loop-signal-preserved c =
    let signals = c.as_slice-signal-items.result.now in
    let i = c.loop-signal.signal-index in
    let signal = c.signal-item.result in
    let here : drop i signals ≡ signal ∷ drop (i + 1) signals =
    drop_more signals i signal c.loop-signal-test.true
    ∙ ap (λ (s : Signal). s ∷ drop (i + 1) signals) (sym c.signal-item.is) in
    signals_more c.args.whole.now c.args.message.now c.loop-signal.lexer.tokens c.signal_start-at.new.lexer.tokens signal
    (drop i signals) (drop (i + 1) signals) c.signal_start-at.result c.loop-signal.remarks.items
    c.add_of_signal.new.remarks.items _ here c.signal_start-at.ensures.start c.signal_start-at.ensures.rest
    c.in_ok-add_of_signal.ensures c.loop-signal.invariant
