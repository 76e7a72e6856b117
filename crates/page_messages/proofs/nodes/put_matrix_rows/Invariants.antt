use Rattle.page_messages.proofs.Common.{take, flat_map, Becomes, adding}
use Rattle.page_messages.specs.Nodes.{matrix_row}
use Rattle.page_messages.proofs.nodes.put_matrix_rows.Given as goal

abbrev pub invariant-loop-message : goal.invariant-loop-message
invariant-loop-message l =
    Becomes l.page (adding (flat_map (matrix_row l.nodes) (take l.message-index l.messages)) l.initial.page)
