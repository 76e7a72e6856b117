use Rattle.dbc_write.proofs.Common.{map, take, space, word}
use Rattle.dbc_sheet.specs.declared.node.Node.{Node}
use Rattle.dbc_write.specs.Adding.{Adds, piece_text}
use Rattle.dbc_write.proofs.heading.nodes_line.Given as goal

abbrev pub invariant-loop-node : goal.invariant-loop-node
invariant-loop-node l = Adds piece_text l.initial.text.items l.text.items
    (map (λ (n : Node). word space n.name) (take l.node-index l.node-items))
