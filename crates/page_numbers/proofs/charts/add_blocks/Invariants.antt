use Rattle.page_numbers.proofs.Common.{◌++◌, take, flat_map, HaveSame}
use Rattle.page_numbers.specs.Rows.{granted_rows}
use Rattle.page_numbers.proofs.charts.add_blocks.Given as goal

abbrev pub invariant-loop-granted : goal.invariant-loop-granted
invariant-loop-granted l =
    HaveSame l.rows.items
    (l.initial.rows.items ++ flat_map (granted_rows l.chart) (take l.granted-index l.blocks))
