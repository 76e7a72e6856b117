use Rattle.page_numbers.proofs.Common.{get_or, get_or_default}
use Rattle.page_numbers.specs.Map.{IsRow, facts_in}
use Rattle.page_numbers.proofs.Pieces.{nothing_put, piece_put}
use Rattle.page_numbers.proofs.map.put_rows.Goals as goal

pub loop-row-init : goal.loop-row-init
loop-row-init c = nothing_put (IsRow c.args.facts.now.chart (facts_in c.args.facts.now)) c.args.page.now

pub loop-row-preserved : goal.loop-row-preserved
loop-row-preserved c =
    let rows = c.args.rows.now in
    let i = c.loop-row.row-index in
    piece_put (IsRow c.args.facts.now.chart (facts_in c.args.facts.now)) rows i (get_or rows i 0) c.args.page.now
    c.loop-row.page c.put_row.new.page c.loop-row-test.true (get_or_default rows i 0 (get_or rows i 0) c.loop-row-test.true)
    c.loop-row.invariant c.in_ok-put_row.ensures
