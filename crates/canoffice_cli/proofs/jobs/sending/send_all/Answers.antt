use Rattle.canoffice_cli.proofs.Common.{◌≡◌, ◌+◌, ◌<◌, ◌++◌, ◌∷◌, [], length, take, ap, ◌∙◌, Ok, Err, arith}
use Rattle.canoffice_cli.proofs.Common.{length-append, take_more, list_any, is_refused, HasCome}
use Rattle.desk_send.proofs.Trying.{still_on}
use Rattle.canoffice_cli.proofs.Sent.{answered_more, answered_none, come_all, come_to_a_loss}
use Rattle.canoffice_cli.proofs.Stopping.{far_at_loss, far_at_refusal, ends_here, still_none}
use Rattle.canoffice_cli.proofs.jobs.sending.send_all.Goals as goal

pub loop-request-init : goal.loop-request-init
loop-request-init g c =
    let first = g.K.Desks.known c.args.desks.now in
    record {
      within = omega arith;
      len = c.in_ok-answers.ensures.len;
      room = let room = c.in_ok-answers.ensures.capacity in omega (arith, room);
      each = ap length c.in_ok-answers.ensures.items;
      none = λ _. ap (list_any is_refused) c.in_ok-answers.ensures.items;
      still = λ port request came may. may;
      came = answered_none first c.args.sending c.args.requests.now _ c.in_ok-answers.ensures.items;
    }

pub push_reserved-requires : goal.push_reserved-requires
push_reserved-requires g c =
    let len = c.loop-request.invariant.len in let room = c.loop-request.invariant.room in let within =
    c.loop-request-test.true in omega (arith, len, room, within)

pub loop-request-preserved : goal.loop-request-preserved
loop-request-preserved g c =
    let i = c.loop-request.invariant in
    let at = c.loop-request.request-index in
    let first = g.K.Desks.known c.args.desks.now in
    let mid = g.K.Desks.known c.loop-request.desks in
    let after = g.K.Desks.known c.reply_to.new.desks in
    let requests = c.args.requests.now in
    let item = c.request-item.result in
    let items = c.loop-request.answers.items in
    let sending = c.args.sending in
    let within : at < length requests = c.loop-request-test.true in
    let next : take (at + 1) requests ≡ take at requests ++ item ∷ [] =
    rw (take_more requests at item within, ← c.request-item.is) in
    let one : HasCome mid after sending.port item sending.tries (Ok c.in-Ok.answer) =
    rw c.as_slice.ensures at c.in-Ok.ensures.comes in
    record {
      within = omega (arith, within);
      len = let len = i.len in let more = c.push_reserved.ensures.len in omega (arith, len, more);
      room = let room = i.room in let same = c.push_reserved.ensures.capacity in omega (arith, room, same);
      each = let each = i.each in let one = length-append items (c.in-Ok.answer ∷ []) in
          ap length c.push_reserved.ensures.items ∙ omega (arith, each, one);
      none = still_none sending.manner.strict c.stops_at-stops.result items _ c.in-Ok.answer i.none
          c.stops_at-stops.ensures c.if-stops.false c.push_reserved.ensures.items;
      still = still_on first mid after i.still c.in-Ok.ensures.still;
      came = answered_more first sending mid after requests i.still at items item next _ c.in-Ok.answer
          c.push_reserved.ensures.items i.came one;
    }

pub returns-in-Err-clause-far : goal.returns-in-Err-clause-far
returns-in-Err-clause-far g c =
    λ arrivals same. let i = c.loop-request.invariant in
    let each = i.each in
    let within = c.loop-request-test.true in
    far_at_loss c.args.sending.manner.strict arrivals c.loop-request.answers.items _
    (omega (arith, each, within, same)) i.none

pub returns-in-Err-clause-came : goal.returns-in-Err-clause-came
returns-in-Err-clause-came g c =
    let i = c.loop-request.invariant in
    let at = c.loop-request.request-index in
    let first = g.K.Desks.known c.args.desks.now in
    let mid = g.K.Desks.known c.loop-request.desks in
    let after = g.K.Desks.known c.reply_to.new.desks in
    let requests = c.args.requests.now in
    let item = c.request-item.result in
    let sending = c.args.sending in
    let within : at < length requests = c.loop-request-test.true in
    let next : take (at + 1) requests ≡ take at requests ++ item ∷ [] =
    rw (take_more requests at item within, ← c.request-item.is) in
    let one : HasCome mid after sending.port item sending.tries (Err c.in-Err.fault) =
    rw c.as_slice.ensures at c.in-Err.ensures.comes in
    come_to_a_loss first sending mid after requests i.still at c.loop-request.answers.items item next c.in-Err.fault _
    i.each i.came one c.lost_by.ensures

pub returns-then-stops-clause-far : goal.returns-then-stops-clause-far
returns-then-stops-clause-far g c =
    λ arrivals same. let i = c.loop-request.invariant in
    let items = c.loop-request.answers.items in
    let within = c.loop-request-test.true in
    let each = i.each in
    let one = length-append items (c.in-Ok.answer ∷ []) in
    let all = ap length c.push_reserved.ensures.items in
    far_at_refusal c.args.sending.manner.strict arrivals c.push_reserved.new.self.items
    (omega (arith, each, one, all, within, same))
    (ends_here c.args.sending.manner.strict c.stops_at-stops.result items c.push_reserved.new.self.items c.in-Ok.answer
    i.none c.stops_at-stops.ensures c.if-stops.true c.push_reserved.ensures.items)

pub returns-then-stops-clause-came : goal.returns-then-stops-clause-came
returns-then-stops-clause-came g c =
    let i = c.loop-request.invariant in
    let at = c.loop-request.request-index in
    let first = g.K.Desks.known c.args.desks.now in
    let mid = g.K.Desks.known c.loop-request.desks in
    let after = g.K.Desks.known c.reply_to.new.desks in
    let requests = c.args.requests.now in
    let item = c.request-item.result in
    let items = c.loop-request.answers.items in
    let all = c.push_reserved.new.self.items in
    let sending = c.args.sending in
    let within : at < length requests = c.loop-request-test.true in
    let next : take (at + 1) requests ≡ take at requests ++ item ∷ [] =
    rw (take_more requests at item within, ← c.request-item.is) in
    let one : HasCome mid after sending.port item sending.tries (Ok c.in-Ok.answer) =
    rw c.as_slice.ensures at c.in-Ok.ensures.comes in
    let before = i.each in
    let longer = length-append items (c.in-Ok.answer ∷ []) in
    let each : length all ≡ at + 1 = ap length c.push_reserved.ensures.items ∙ omega (arith, before, longer) in
    come_all first sending after requests (at + 1) all each
    (answered_more first sending mid after requests i.still at items item next all c.in-Ok.answer
    c.push_reserved.ensures.items i.came one)

pub returns-clause-came : goal.returns-clause-came
returns-clause-came g c =
    let i = c.loop-request.invariant in
    come_all (g.K.Desks.known c.args.desks.now) c.args.sending (g.K.Desks.known c.loop-request.desks) c.args.requests.now
    c.loop-request.request-index c.loop-request.answers.items i.each i.came
