use Rattle.page_numbers.proofs.Common.{get_or, get_or_default}
use Rattle.page_numbers.specs.Charts.{charts}
use Rattle.page_numbers.specs.Map.{IsChart}
use Rattle.page_numbers.specs.declared.charts.Chart.TheVariants.{Standard}
use Rattle.page_numbers.proofs.Pieces.{nothing_put, piece_put}
use Rattle.page_numbers.proofs.map.put_charts.Goals as goal

pub loop-chart-init : goal.loop-chart-init
loop-chart-init c = nothing_put (IsChart c.args.subject.now) c.args.page.now

pub loop-chart-preserved : goal.loop-chart-preserved
loop-chart-preserved c =
    let i = c.loop-chart.chart-index in
    let chart = get_or charts i Standard in
    piece_put (IsChart c.args.subject.now) charts i chart c.args.page.now c.loop-chart.page c.put_chart.new.page
    c.loop-chart-test.true (get_or_default charts i Standard chart c.loop-chart-test.true) c.loop-chart.invariant
    c.in_ok-put_chart.ensures
