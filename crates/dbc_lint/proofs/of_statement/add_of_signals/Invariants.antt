use Rattle.dbc_lint.proofs.Common.{◌≡◌, ◌++◌, drop}
use Rattle.dbc_lint.specs.OfFile.{of_signals}
use Rattle.dbc_lint.proofs.of_statement.add_of_signals.Given as goal

abbrev pub invariant-loop-signal : goal.invariant-loop-signal
invariant-loop-signal l =
    l.remarks.items ++ of_signals l.whole l.message l.lexer.tokens (drop l.signal-index l.signal-items)
    ≡ l.initial.remarks.items ++ of_signals l.whole l.message l.initial.lexer.tokens l.message.signals
