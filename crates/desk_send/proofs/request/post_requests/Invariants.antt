use Rattle.desk_send.proofs.Common.{◌≤◌, length, take, AllZip}
use Rattle.desk_send.specs.Request.{IsSentAs}
use Rattle.desk_send.proofs.request.post_requests.Given as goal

-- the arrivals so far have their requests
abbrev pub invariant-loop-arrival : goal.invariant-loop-arrival
invariant-loop-arrival l = record {
  within : l.arrival-index ≤ length l.arrivals;
  sent : AllZip IsSentAs (take l.arrival-index l.arrivals) l.requests;
}
