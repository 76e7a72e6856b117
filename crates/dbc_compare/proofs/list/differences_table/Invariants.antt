use Rattle.dbc_compare.proofs.Common.{◌≡◌, map, take}
use Rattle.dbc_compare.specs.List.{difference_row}
use Rattle.dbc_compare.proofs.list.differences_table.Given as goal

abbrev pub invariant-loop-difference : goal.invariant-loop-difference
invariant-loop-difference l = l.rows ≡ map difference_row (take l.difference-index l.found)
