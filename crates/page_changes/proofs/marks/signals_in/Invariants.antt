use Rattle.page_changes.proofs.Common.{◌≡◌, ◌++◌, drop, map}
use Rattle.page_changes.specs.Marks.{signals_in}
use Rattle.page_changes.specs.Names.{text_of}
use Rattle.page_changes.proofs.marks.signals_in.Given as goal

abbrev pub invariant-loop-difference : goal.invariant-loop-difference
invariant-loop-difference l =
    map text_of l.names.items ++ signals_in (drop l.difference-index l.differences) ≡ signals_in l.differences
