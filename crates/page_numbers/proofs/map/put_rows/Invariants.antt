use Rattle.page_numbers.proofs.Common.{take}
use Rattle.page_numbers.specs.Elements.{ArePieces, IsMoreBy}
use Rattle.page_numbers.specs.Map.{IsRow, facts_in}
use Rattle.page_numbers.proofs.map.put_rows.Given as goal

abbrev pub invariant-loop-row : goal.invariant-loop-row
invariant-loop-row l =
    IsMoreBy (ArePieces (IsRow l.facts.chart (facts_in l.facts)) (take l.row-index l.rows)) l.page l.initial.page
