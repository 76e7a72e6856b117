use Rattle.dbc_statements.proofs.Common.{◌≡◌, length, goes_on, many_at, further_at}
use Rattle.dbc_statements.specs.Names.{with_names}
use Rattle.dbc_statements.proofs.names.add_further.Given as goal

abbrev pub invariant-nodes : goal.invariant-nodes
invariant-nodes g l =
    with_names (g.L.NodeList.names l.nodes) (many_at goes_on further_at l.tokens)
    ≡ with_names (g.L.NodeList.names l.initial.nodes) (many_at goes_on further_at l.initial.tokens)

abbrev pub decreases-nodes : goal.decreases-nodes
decreases-nodes g l = length l.tokens
