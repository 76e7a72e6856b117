use Rattle.page_numbers.proofs.Common.{◌++◌, take, flat_map, HaveSame}
use Rattle.page_numbers.specs.Rows.{ident_row}
use Rattle.page_numbers.proofs.charts.add_held.Given as goal

abbrev pub invariant-loop-ident : goal.invariant-loop-ident
invariant-loop-ident l =
    HaveSame l.rows.items
    (l.initial.rows.items ++ flat_map (ident_row l.chart l.is_j1939 l.blocks) (take l.ident-index l.held))
