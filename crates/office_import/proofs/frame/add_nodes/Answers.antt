use Rattle.office_import.proofs.Common.{◌++◌, into_iter_items, node_name}
use Rattle.office_import.proofs.Rostered.{memory_alone}
use Rattle.office_import.proofs.frame.add_nodes.Goals as goal

pub only_memory-requires : goal.only_memory-requires
only_memory-requires c =
    memory_alone node_name c.loop-node.sheet.nodes c.in-Some.node (into_iter_items c.next.new.self)
    (c.args.sheet.now.nodes ++ c.args.nodes) c.in-Err.fault.code
    (rw c.in-Some.ensures.steps.0 at c.loop-node.invariant.rest) c.requires c.in-Err.ensures.refused
