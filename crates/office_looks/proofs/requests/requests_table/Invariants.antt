use Rattle.office_looks.proofs.Common.{◌≡◌, take, flat_map}
use Rattle.office_looks.specs.Requests.{request_rows}
use Rattle.office_looks.proofs.requests.requests_table.Given as goal

abbrev pub invariant-loop-request : goal.invariant-loop-request
invariant-loop-request l = l.rows ≡ flat_map request_rows (take l.request-index l.requests)
