use Rattle.page_changes.proofs.Common.{◌≡◌, ◌++◌, drop, map}
use Rattle.page_changes.specs.Act.{lost_at}
use Rattle.page_changes.specs.Names.{text_of}
use Rattle.page_changes.proofs.act.add_each.Given as goal

abbrev pub invariant-loop-node : goal.invariant-loop-node
invariant-loop-node l =
    l.losses.items ++ map (lost_at l.thing) (map text_of (drop l.node-index l.nodes))
    ≡ l.initial.losses.items ++ map (lost_at l.thing) (map text_of l.nodes)
