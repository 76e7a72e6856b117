use Rattle.office_looks.proofs.Common.{◌≡◌, ◌≤◌, take, count_by}
use Rattle.office_looks.specs.Requests.{was_refused}
use Rattle.office_looks.proofs.requests.refused_count.Given as goal

abbrev pub invariant-loop-request : goal.invariant-loop-request
invariant-loop-request l = record {
  counted : l.count ≡ count_by was_refused (take l.request-index l.requests);
  few : l.count ≤ l.request-index;
}
