use Rattle.page_changes.proofs.Common.{◌≡◌, ◌++◌, drop, map}
use Rattle.page_changes.specs.Act.{breaking_words}
use Rattle.page_changes.specs.Names.{text_of}
use Rattle.page_changes.proofs.act.breaking_words.Given as goal

abbrev pub invariant-loop-difference : goal.invariant-loop-difference
invariant-loop-difference l =
    map text_of l.words.items ++ breaking_words (drop l.difference-index l.differences)
    ≡ breaking_words l.differences
