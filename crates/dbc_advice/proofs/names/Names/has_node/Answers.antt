use Rattle.dbc_advice.proofs.Common.{◌∙◌}
use Rattle.dbc_advice.proofs.NamesFound.{node_found}
use Rattle.dbc_advice.proofs.names.Names.has_node.Goals as goal

pub returns : goal.returns
returns c = λ s are. c.has.ensures are.node_names are.nodes
    ∙ node_found s.nodes c.args.name.now are.node_names are.names
