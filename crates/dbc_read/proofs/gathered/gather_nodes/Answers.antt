use Rattle.dbc_read.proofs.Common.{◌∙◌, ◌++◌, append-nil, ap, sym}
use Rattle.dbc_read.proofs.IteratorItems.{nothing_left}
use Rattle.dbc_read.proofs.gathered.gather_nodes.Goals as goal

pub returns : goal.returns
returns c =
    let found = c.loop-node.found in
    let none = nothing_left c.loop-node.node-iterator c.in-None.ensures.steps.0 in
    sym (append-nil found) ∙ ap (λ l. found ++ l) (sym none) ∙ c.loop-node.invariant
