use Rattle.dbc_write.proofs.Common.{take, flat_map, line_text}
use Rattle.dbc_grammar.specs.Canon.{message_lines}
use Rattle.dbc_write.specs.Adding.{Adds}
use Rattle.dbc_write.proofs.messages.messages.Given as goal

abbrev pub invariant-loop-message : goal.invariant-loop-message
invariant-loop-message l =
    Adds line_text l.initial.text.items l.text.items (flat_map message_lines (take l.message-index l.messages))
