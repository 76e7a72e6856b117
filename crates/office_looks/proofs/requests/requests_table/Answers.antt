use Rattle.office_looks.proofs.Common.{ap}
use Rattle.office_looks.specs.Requests.{request_rows}
use Rattle.office_looks.proofs.requests.requests_table.Goals as goal
use Rattle.columns.proofs.Pieces.{items_more}

pub loop-request-preserved : goal.loop-request-preserved
loop-request-preserved c =
    let request = c.request-item.result in
    items_more request_rows c.args.requests.now c.loop-request.request-index request c.loop-request.rows
    (request_rows request) c.push_request.new.rows c.loop-request-test.true c.loop-request.invariant
    (ap request_rows c.request-item.is) c.in_ok-push_request.ensures
