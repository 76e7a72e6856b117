use Rattle.page_numbers.proofs.Common.{take}
use Rattle.page_numbers.specs.Charts.{charts}
use Rattle.page_numbers.specs.Elements.{ArePieces, IsMoreBy}
use Rattle.page_numbers.specs.Map.{IsChart}
use Rattle.page_numbers.proofs.map.put_charts.Given as goal

abbrev pub invariant-loop-chart : goal.invariant-loop-chart
invariant-loop-chart l =
    IsMoreBy (ArePieces (IsChart l.subject) (take l.chart-index charts)) l.page l.initial.page
