use Rattle.desk_send.proofs.Common.{arith, refl}
use Rattle.desk_send.proofs.RequestsBack.{first_unsent, sent_more}
use Rattle.desk_send.proofs.request.post_requests.Goals as goal

pub loop-arrival-preserved : goal.loop-arrival-preserved
loop-arrival-preserved c =
    let i = c.loop-arrival.invariant in
    let within = c.loop-arrival-test.true in
    let added = rw c.from_vec.ensures at c.in_ok-push-in-Some.ensures.ok in
    record {
      within = omega (arith, within);
      sent = sent_more c.args.arrivals.now c.loop-arrival.arrival-index c.loop-arrival.requests c.push.new.self
          c.arrival-item.result c.in-Some.request.items within c.arrival-item.is i.sent added
          (rw c.in-Some.is at c.in_ok-request.ensures.request);
    }

pub returns-in-None-clause-unsent : goal.returns-in-None-clause-unsent
returns-in-None-clause-unsent c =
    let i = c.loop-arrival.invariant in
    first_unsent c.args.arrivals.now c.loop-arrival.arrival-index _ c.loop-arrival.requests c.arrival-item.result
    c.loop-arrival-test.true c.arrival-item.is i.sent (rw c.as_slice.ensures refl)
    (c.in_ok-request.ensures.none c.in-None.is)
