use Rattle.canoffice_cli.proofs.Common.{◌≡◌, ◌+◌, ◌<◌, ◌++◌, ◌∷◌, [], length, take, ap, ◌∙◌, subst, arith}
use Rattle.canoffice_cli.proofs.Common.{length-append, take_more, list_any, is_refused, HoldsHistory, IsLegalHistory}
use Rattle.canoffice_cli.proofs.Stopping.{far_at_refusal, ends_here, still_none}
use Rattle.canoffice_cli.specs.Numbers.{numbers_left}
use Rattle.canoffice_cli.specs.declared.progress.RequestLines.{RequestLines}
use Rattle.canoffice_cli.proofs.Told.{left_after, tells_nothing, told_next}
use Rattle.canoffice_cli.proofs.Reported.{history_at_first, history_so_far, reported_next}
use Rattle.canoffice_cli.proofs.answering.answer_in_memory.Goals as goal

pub loop-arrival-init : goal.loop-arrival-init
loop-arrival-init g c = record {
  within = omega arith;
  len = c.in_ok-answers.ensures.len;
  room = let room = c.in_ok-answers.ensures.capacity in omega (arith, room);
  each = ap length c.in_ok-answers.ensures.items;
  none = λ _. ap (list_any is_refused) c.in_ok-answers.ensures.items;
  held = subst (λ k. HoldsHistory k c.new-office.result)
      (history_at_first [] (take 0 c.args.arrivals.now) c.in_ok-answers.answers.items c.in_ok-answers.ensures.items)
      c.new-office.ensures;
  short = let all = ap (λ (r : RequestLines). r.number + length r.rest.now) c.of-lines.ensures in
      omega (arith, all);
  left = ap numbers_left c.of-lines.ensures;
  told = λ have. tells_nothing _ c.args.reasons.now;
}

pub push_reserved-requires : goal.push_reserved-requires
push_reserved-requires g c =
    let len = c.loop-arrival.invariant.len in let room = c.loop-arrival.invariant.room in let within =
    c.loop-arrival-test.true in omega (arith, len, room, within)

pub loop-arrival-preserved : goal.loop-arrival-preserved
loop-arrival-preserved g c =
    let i = c.loop-arrival.invariant in
    let at = c.loop-arrival.arrival-index in
    let arrivals = c.args.arrivals.now in
    let item = c.arrival-item.result in
    let items = c.loop-arrival.answers.items in
    let now = c.arrive.new.self in
    let within : at < length arrivals = c.loop-arrival-test.true in
    let next : take (at + 1) arrivals ≡ take at arrivals ++ item ∷ [] =
    rw (take_more arrivals at item within, ← c.arrival-item.is) in
    let short = i.short in
    let next_one = c.next_number-number.ensures.next (omega (arith, short)) in
    record {
      within = omega (arith, within);
      len = let len = i.len in let more = c.push_reserved.ensures.len in omega (arith, len, more);
      room = let room = i.room in let same = c.push_reserved.ensures.capacity in omega (arith, room, same);
      each = let each = i.each in let one = length-append items (c.in-Ok.answer ∷ []) in
          ap length c.push_reserved.ensures.items ∙ omega (arith, each, one);
      none = still_none c.args.strict c.stops_at-stops.result items _ c.in-Ok.answer i.none
          c.stops_at-stops.ensures c.if-stops.false c.push_reserved.ensures.items;
      held = reported_next (λ k. HoldsHistory k now) [] arrivals at items _ item c.in-Ok.answer within next i.each
          c.push_reserved.ensures.items (c.in-Ok.ensures.held _ i.held);
      short = let early = i.short in let fewer = c.next_number-number.ensures.room in omega (arith, early, fewer);
      left = left_after _ at c.next_number-number.result c.loop-arrival.lines c.next_number-number.new.self i.left
          next_one;
      told = told_next c.args.script.now arrivals at c.next_number-number.result items _ c.in-Ok.answer
          c.loop-arrival.lines c.next_number-number.new.self c.args.reasons.now c.loop-arrival.reasons
          c.add_in_memory.new.self within i.each c.push_reserved.ensures.items i.left next_one i.told
          c.add_in_memory.ensures;
    }

pub returns-in-Err-clause-goes_on : goal.returns-in-Err-clause-goes_on
returns-in-Err-clause-goes_on g c =
    let i = c.loop-arrival.invariant in
    subst IsLegalHistory (history_so_far [] c.args.arrivals.now _ _ i.each) (c.loop-arrival.office.office, i.held.legal)

pub returns-clause-goes_on : goal.returns-clause-goes_on
returns-clause-goes_on g c =
    let i = c.loop-arrival.invariant in
    subst IsLegalHistory (history_so_far [] c.args.arrivals.now _ _ i.each) (c.loop-arrival.office.office, i.held.legal)

pub returns-then-stops-clause-far : goal.returns-then-stops-clause-far
returns-then-stops-clause-far g c =
    let i = c.loop-arrival.invariant in
    let items = c.loop-arrival.answers.items in
    let within = c.loop-arrival-test.true in
    let each = i.each in
    let one = length-append items (c.in-Ok.answer ∷ []) in
    let all = ap length c.push_reserved.ensures.items in
    far_at_refusal c.args.strict c.args.arrivals.now c.push_reserved.new.self.items
    (omega (arith, each, one, all, within))
    (ends_here c.args.strict c.stops_at-stops.result items c.push_reserved.new.self.items c.in-Ok.answer i.none
    c.stops_at-stops.ensures c.if-stops.true c.push_reserved.ensures.items)

pub returns-then-stops-clause-goes_on : goal.returns-then-stops-clause-goes_on
returns-then-stops-clause-goes_on g c =
    let i = c.loop-arrival.invariant in
    let at = c.loop-arrival.arrival-index in
    let arrivals = c.args.arrivals.now in
    let item = c.arrival-item.result in
    let items = c.loop-arrival.answers.items in
    let all = c.push_reserved.new.self.items in
    let now = c.arrive.new.self in
    let within : at < length arrivals = c.loop-arrival-test.true in
    let next : take (at + 1) arrivals ≡ take at arrivals ++ item ∷ [] =
    rw (take_more arrivals at item within, ← c.arrival-item.is) in
    let before = i.each in
    let one = length-append items (c.in-Ok.answer ∷ []) in
    let each : length all ≡ at + 1 = ap length c.push_reserved.ensures.items ∙ omega (arith, before, one) in
    let held = reported_next (λ k. HoldsHistory k now) [] arrivals at items all item c.in-Ok.answer within next i.each
    c.push_reserved.ensures.items (c.in-Ok.ensures.held _ i.held) in
    subst IsLegalHistory (history_so_far [] arrivals all (at + 1) each) (now.office, held.legal)

pub returns-then-stops-clause-told : goal.returns-then-stops-clause-told
returns-then-stops-clause-told g c =
    let i = c.loop-arrival.invariant in
    let short = i.short in
    told_next c.args.script.now c.args.arrivals.now c.loop-arrival.arrival-index c.next_number-number.result
    c.loop-arrival.answers.items c.push_reserved.new.self.items c.in-Ok.answer c.loop-arrival.lines
    c.next_number-number.new.self c.args.reasons.now c.loop-arrival.reasons c.add_in_memory.new.self
    c.loop-arrival-test.true
    i.each c.push_reserved.ensures.items i.left (c.next_number-number.ensures.next (omega (arith, short))) i.told
    c.add_in_memory.ensures
