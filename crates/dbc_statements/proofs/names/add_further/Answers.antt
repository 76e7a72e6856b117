use Rattle.dbc_statements.proofs.Common.{sym, ◌∙◌, further_take}
use Rattle.std.proofs.Common.{option_map}
use Rattle.dbc_statements.proofs.NameLists.{one_more}
use Rattle.dbc_statements.proofs.names.add_further.Goals as goal

pub nodes-smaller : goal.nodes-smaller
nodes-smaller g c =
    further_take.shorter c.nodes.tokens (option_map (λ node. node.1) c.in_ok-next.next, c.further.new.tokens)
    (sym c.goes_on.ensures ∙ c.nodes-test.true) c.in_ok-next.ensures

pub nodes-preserved : goal.nodes-preserved
nodes-preserved g c =
    rw c.in_ok-add.ensures (one_more (g.L.NodeList.names c.nodes.nodes) c.nodes.tokens
    (option_map (λ node. node.1) c.in_ok-next.next) c.further.new.tokens _
    (sym c.goes_on.ensures ∙ c.nodes-test.true) c.in_ok-next.ensures c.nodes.invariant)
