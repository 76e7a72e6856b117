use Rattle.page_changes.proofs.Common.{◌≡◌, ◌++◌, drop, map}
use Rattle.page_changes.specs.Names.{text_of}
use Rattle.page_changes.proofs.act.add_names.Given as goal

abbrev pub invariant-loop-name : goal.invariant-loop-name
invariant-loop-name l =
    map text_of l.nodes.items ++ drop l.name-index l.names ≡ map text_of l.initial.nodes.items ++ l.names
