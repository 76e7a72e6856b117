use Rattle.dbc_compare.proofs.Common.{◌≡◌, ◌++◌, Some, take}
use Rattle.dbc_compare.specs.Differences.{differences_about}
use Rattle.dbc_compare.proofs.things.push_named.Given as goal

abbrev pub invariant-loop-change : goal.invariant-loop-change
invariant-loop-change l =
    l.found.items ≡ l.initial.found.items ++ differences_about l.place (Some l.name) (take l.change-index l.changes)
