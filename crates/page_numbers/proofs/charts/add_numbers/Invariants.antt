use Rattle.page_numbers.proofs.Common.{◌≤◌, ◌++◌, ◌-◌, flat_map, range_with_len, HaveSame}
use Rattle.page_numbers.specs.Rows.{own_row}
use Rattle.page_numbers.proofs.charts.add_numbers.Given as goal

abbrev pub invariant-loop-number : goal.invariant-loop-number
invariant-loop-number l = record {
  same : HaveSame l.rows.items
      (l.initial.rows.items ++ flat_map (own_row l.chart) (range_with_len l.fn.first (l.number - l.fn.first)));
  within : l.number - l.fn.first ≤ l.fn.end - l.fn.first;
}
