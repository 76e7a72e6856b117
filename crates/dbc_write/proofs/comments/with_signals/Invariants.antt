use Rattle.dbc_write.proofs.Common.{take, flat_map, line_text, Signal}
use Rattle.dbc_grammar.specs.Canon.{comment_lines, signal_pieces}
use Rattle.dbc_write.specs.Adding.{Adds}
use Rattle.dbc_write.proofs.comments.with_signals.Given as goal

abbrev pub invariant-loop-signal : goal.invariant-loop-signal
invariant-loop-signal l =
    Adds line_text l.initial.text.items l.text.items
    (flat_map (λ (s : Signal). comment_lines (signal_pieces l.message s) s.comment)
    (take l.signal-index l.signal-items))
