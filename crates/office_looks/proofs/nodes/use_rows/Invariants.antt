use Rattle.office_looks.proofs.Common.{◌≡◌, ◌++◌, take}
use Rattle.office_looks.specs.Nodes.{received_rows, sent_rows}
use Rattle.office_looks.proofs.nodes.use_rows.Given as goal

abbrev pub invariant-loop-message : goal.invariant-loop-message
invariant-loop-message l = l.rows ≡ sent_rows l.node (take l.message-index l.messages)

abbrev pub invariant-loop-message-2 : goal.invariant-loop-message-2
invariant-loop-message-2 l =
    l.rows ≡ sent_rows l.node l.messages ++ received_rows l.node (take l.message-index l.messages)
