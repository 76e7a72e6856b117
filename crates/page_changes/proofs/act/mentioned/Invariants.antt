use Rattle.page_changes.proofs.Common.{◌≡◌, ◌++◌, drop, map, flat_map, option_copied}
use Rattle.page_changes.specs.Act.{receivers_if}
use Rattle.page_changes.specs.Names.{text_of}
use Rattle.page_changes.proofs.act.mentioned.Given as goal

abbrev pub invariant-loop-signal : goal.invariant-loop-signal
invariant-loop-signal l =
    map text_of l.nodes.items ++ flat_map (receivers_if (option_copied l.name)) (drop l.signal-index l.signals)
    ≡ flat_map (receivers_if (option_copied l.name)) l.signals
