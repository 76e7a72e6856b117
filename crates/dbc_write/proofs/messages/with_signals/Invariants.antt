use Rattle.dbc_write.proofs.Common.{map, take, line_text}
use Rattle.dbc_grammar.specs.Canon.{signal_line}
use Rattle.dbc_write.specs.Adding.{Adds}
use Rattle.dbc_write.proofs.messages.with_signals.Given as goal

abbrev pub invariant-loop-signal : goal.invariant-loop-signal
invariant-loop-signal l =
    Adds line_text l.initial.text.items l.text.items (map signal_line (take l.signal-index l.signal-items))
