use Rattle.dbc_write.proofs.Common.{take, flat_map, line_text}
use Rattle.dbc_grammar.specs.Canon.{message_comments}
use Rattle.dbc_write.specs.Adding.{Adds}
use Rattle.dbc_write.proofs.comments.message_comments.Given as goal

abbrev pub invariant-loop-message : goal.invariant-loop-message
invariant-loop-message l =
    Adds line_text l.initial.text.items l.text.items (flat_map message_comments (take l.message-index l.messages))
