use Rattle.dbc_compare.proofs.Common.{◌≡◌, ◌++◌, None, take}
use Rattle.dbc_compare.specs.Differences.{differences_about}
use Rattle.dbc_compare.proofs.things.push_here.Given as goal

abbrev pub invariant-loop-change : goal.invariant-loop-change
invariant-loop-change l =
    l.found.items ≡ l.initial.found.items ++ differences_about l.place None (take l.change-index l.changes)
