use Rattle.dbc_write.proofs.Common.{take, flat_map, line_text}
use Rattle.dbc_grammar.specs.Canon.{node_comment}
use Rattle.dbc_write.specs.Adding.{Adds}
use Rattle.dbc_write.proofs.comments.node_comments.Given as goal

abbrev pub invariant-loop-node : goal.invariant-loop-node
invariant-loop-node l = Adds line_text l.initial.text.items l.text.items
    (flat_map node_comment (take l.node-index l.nodes))
