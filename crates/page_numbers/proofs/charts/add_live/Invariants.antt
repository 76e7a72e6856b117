use Rattle.page_numbers.proofs.Common.{◌++◌, take, flat_map, HaveSame}
use Rattle.page_numbers.specs.Rows.{message_row}
use Rattle.page_numbers.proofs.charts.add_live.Given as goal

abbrev pub invariant-loop-message : goal.invariant-loop-message
invariant-loop-message l =
    HaveSame l.rows.items
    (l.initial.rows.items ++ flat_map (message_row l.chart l.is_j1939 l.blocks) (take l.message-index l.messages))
