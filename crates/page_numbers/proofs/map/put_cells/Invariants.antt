use Rattle.page_numbers.proofs.Common.{map, range_with_len}
use Rattle.page_numbers.specs.Charts.{number_in}
use Rattle.page_numbers.specs.Elements.{ArePieces, IsMoreBy}
use Rattle.page_numbers.specs.Map.{IsCellAt, facts_in}
use Rattle.page_numbers.proofs.map.put_cells.Given as goal

abbrev pub invariant-loop-column : goal.invariant-loop-column
invariant-loop-column l =
    IsMoreBy (ArePieces (IsCellAt l.facts.chart (facts_in l.facts))
    (map (number_in l.facts.chart l.row) (range_with_len 0 l.column))) l.page l.initial.page
