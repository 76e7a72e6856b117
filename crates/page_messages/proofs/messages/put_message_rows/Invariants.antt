use Rattle.page_messages.proofs.Common.{take, enumerate_from, flat_map, Becomes, adding}
use Rattle.page_messages.specs.Messages.{message_row}
use Rattle.page_messages.proofs.messages.put_message_rows.Given as goal

abbrev pub invariant-loop-index : goal.invariant-loop-index
invariant-loop-index l = Becomes l.page
    (adding (flat_map (message_row l.subject l.marks l.columns) (enumerate_from 0 (take l.index l.message-items)))
    l.initial.page)
