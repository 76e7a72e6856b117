use Rattle.canoffice_cli.proofs.Common.{◌≡◌, ◌+◌, ◌<◌, ◌++◌, ◌∷◌, [], List, length, take, ap, ◌∙◌, refl, subst, sym}
use Rattle.canoffice_cli.proofs.Common.{arith, length-append, take_more, list_any, IsFalse, is_refused, state}
use Rattle.canoffice_cli.proofs.Common.{HasCleanDisk, Holding, held_tables, Store, Answered, IsLegalHistory}
use Rattle.canoffice_cli.proofs.Stopping.{ends_here, far_at_loss, far_at_refusal, still_none}
use Rattle.canoffice_cli.specs.Answered.{answered_with}
use Rattle.canoffice_cli.specs.Numbers.{numbers_left}
use Rattle.canoffice_cli.specs.declared.progress.RequestLines.{RequestLines}
use Rattle.canoffice_cli.proofs.Told.{left_after, tells_nothing, told_next}
use Rattle.canoffice_cli.proofs.Reported.{held_is_legal, history_at_first, history_so_far, reported_next}
use Rattle.canoffice_cli.proofs.answering.answer_all.Goals as goal

pub loop-arrival-init : goal.loop-arrival-init
loop-arrival-init g c =
    let old = state g.S.Store c.args.office.now.conn in
    let held : (h : List Answered) → Holding h old
    → Holding (h ++ answered_with (take 0 c.args.arrivals.now) c.in_ok-answers.answers.items) old =
    λ h holding. subst (λ k. Holding k old)
    (history_at_first h (take 0 c.args.arrivals.now) c.in_ok-answers.answers.items c.in_ok-answers.ensures.items)
    holding in
    record {
      within = omega arith;
      len = c.in_ok-answers.ensures.len;
      room = let room = c.in_ok-answers.ensures.capacity in omega (arith, room);
      each = ap length c.in_ok-answers.ensures.items;
      none = λ _. ap (list_any is_refused) c.in_ok-answers.ensures.items;
      clean = omega arith;
      held = λ clean h holding works. held h holding;
      held_open = λ clean h holding opened. held h holding;
      legal = λ clean h holding. held_is_legal _ _ (held h holding);
      statistics = λ clean h holding opened. refl;
      short = let all = ap (λ (r : RequestLines). r.number + length r.rest.now) c.of-lines.ensures in
          omega (arith, all);
      left = ap numbers_left c.of-lines.ensures;
      told = λ have. tells_nothing _ c.args.reasons.now;
    }

pub push_reserved-requires : goal.push_reserved-requires
push_reserved-requires g c =
    let len = c.loop-arrival.invariant.len in let room = c.loop-arrival.invariant.room in let within =
    c.loop-arrival-test.true in omega (arith, len, room, within)

pub loop-arrival-preserved : goal.loop-arrival-preserved
loop-arrival-preserved g c =
    let i = c.loop-arrival.invariant in
    let at = c.loop-arrival.arrival-index in
    let arrivals = c.args.arrivals.now in
    let item = c.arrival-item.result in
    let items = c.loop-arrival.answers.items in
    let mid = state g.S.Store c.loop-arrival.office.conn in
    let answered = state g.S.Store c.arrive.new.self.conn in
    let now = state g.S.Store c.add_in_tables.new.office.conn in
    let arrive = c.in-Ok.ensures in
    let add = c.add_in_tables.ensures.office in
    let worked : IsFalse c.loop-arrival.office.failed = sym c.is_failed.ensures ∙ c.if-is_failed.false in
    let within : at < length arrivals = c.loop-arrival-test.true in
    let next : take (at + 1) arrivals ≡ take at arrivals ++ item ∷ [] =
    rw (take_more arrivals at item within, ← c.arrival-item.is) in
    let each = i.each in
    let one = length-append items (c.in-Ok.answer ∷ []) in
    let after : HasCleanDisk now → HasCleanDisk answered = λ clean. omega (arith, add.clean, clean) in
    let before : HasCleanDisk now → HasCleanDisk mid = λ clean. omega (arith, arrive.call.clean, add.clean, clean) in
    let short = i.short in
    let next_one = c.next_number-number.ensures.next (omega (arith, short)) in
    record {
      within = omega (arith, within);
      len = let len = i.len in let more = c.push_reserved.ensures.len in omega (arith, len, more);
      room = let room = i.room in let same = c.push_reserved.ensures.capacity in omega (arith, room, same);
      each = ap length c.push_reserved.ensures.items ∙ omega (arith, each, one);
      none = still_none c.args.strict c.stops_at-stops.result items _ c.in-Ok.answer i.none
          c.stops_at-stops.ensures c.if-stops.false c.push_reserved.ensures.items;
      clean = let early = i.clean in omega (arith, early, arrive.call.clean, add.clean);
      held = λ clean h holding works.
          reported_next (λ k. Holding k now) h arrivals at items _ item c.in-Ok.answer within next i.each
          c.push_reserved.ensures.items
          (add.held clean _ (arrive.answered (after clean) _ (i.held (before clean) h holding worked)).0 works);
      held_open = λ clean h holding opened.
          reported_next (λ k. Holding k now) h arrivals at items _ item c.in-Ok.answer within next i.each
          c.push_reserved.ensures.items
          (add.held_open clean _ (arrive.answered (after clean) _ (i.held (before clean) h holding worked)).0 opened);
      legal = λ clean h holding.
          reported_next IsLegalHistory h arrivals at items _ item c.in-Ok.answer within next i.each
          c.push_reserved.ensures.items
          (held_is_legal _ _ (arrive.answered (after clean) _ (i.held (before clean) h holding worked)).0);
      statistics = λ clean h holding opened.
          let held = i.held (before clean) h holding worked in
          let next_held = (arrive.answered (after clean) _ held).0 in
          (add.statistics clean (held_tables _ answered next_held) opened).statistics
          ∙ (arrive.statistics (after clean) (held_tables _ mid held) next_held.is_open).statistics
          ∙ i.statistics (before clean) h holding held.is_open;
      short = let early = i.short in let fewer = c.next_number-number.ensures.room in omega (arith, early, fewer);
      left = left_after _ at c.next_number-number.result c.loop-arrival.lines c.next_number-number.new.self i.left
          next_one;
      told = told_next c.args.script.now arrivals at c.next_number-number.result items _ c.in-Ok.answer
          c.loop-arrival.lines c.next_number-number.new.self c.args.reasons.now c.loop-arrival.reasons
          c.add_in_tables.new.self within i.each c.push_reserved.ensures.items i.left next_one i.told
          c.add_in_tables.ensures.told;
    }

pub returns-then-is_failed-clause-far : goal.returns-then-is_failed-clause-far
returns-then-is_failed-clause-far g c =
    let i = c.loop-arrival.invariant in
    let within = i.within in
    let each = i.each in
    far_at_loss c.args.strict c.args.arrivals.now c.loop-arrival.answers.items Store
    (omega (arith, each, within)) i.none

pub returns-then-is_failed-clause-held : goal.returns-then-is_failed-clause-held
returns-then-is_failed-clause-held g c clean h holding is_open =
    let i = c.loop-arrival.invariant in
    subst (λ k. Holding k (state g.S.Store c.loop-arrival.office.conn))
    (history_so_far h c.args.arrivals.now _ _ i.each) (i.held_open clean h holding is_open)

pub returns-then-is_failed-clause-legal : goal.returns-then-is_failed-clause-legal
returns-then-is_failed-clause-legal g c clean h holding =
    let i = c.loop-arrival.invariant in
    subst IsLegalHistory (history_so_far h c.args.arrivals.now _ _ i.each) (i.legal clean h holding)

pub returns-in-Err-clause-held : goal.returns-in-Err-clause-held
returns-in-Err-clause-held g c clean h holding is_open =
    let i = c.loop-arrival.invariant in
    let arrive = c.in-Err.ensures in
    let worked : IsFalse c.loop-arrival.office.failed = sym c.is_failed.ensures ∙ c.if-is_failed.false in
    let early : HasCleanDisk (state g.S.Store c.loop-arrival.office.conn) = omega (arith, arrive.call.clean, clean) in
    subst (λ k. Holding k (state g.S.Store c.arrive.new.self.conn)) (history_so_far h c.args.arrivals.now _ _ i.each)
    (arrive.lost clean _ (i.held early h holding worked) is_open)

pub returns-in-Err-clause-legal : goal.returns-in-Err-clause-legal
returns-in-Err-clause-legal g c clean h holding =
    let i = c.loop-arrival.invariant in
    let early : HasCleanDisk (state g.S.Store c.loop-arrival.office.conn) =
    omega (arith, c.in-Err.ensures.call.clean, clean) in
    subst IsLegalHistory (history_so_far h c.args.arrivals.now _ _ i.each) (i.legal early h holding)

pub returns-clause-held : goal.returns-clause-held
returns-clause-held g c clean h holding is_open =
    let i = c.loop-arrival.invariant in
    subst (λ k. Holding k (state g.S.Store c.loop-arrival.office.conn))
    (history_so_far h c.args.arrivals.now _ _ i.each) (i.held_open clean h holding is_open)

pub returns-clause-legal : goal.returns-clause-legal
returns-clause-legal g c clean h holding =
    let i = c.loop-arrival.invariant in
    subst IsLegalHistory (history_so_far h c.args.arrivals.now _ _ i.each) (i.legal clean h holding)

pub returns-then-stops-clause-far : goal.returns-then-stops-clause-far
returns-then-stops-clause-far g c =
    let i = c.loop-arrival.invariant in
    let items = c.loop-arrival.answers.items in
    let all = c.push_reserved.new.self.items in
    let arrivals = c.args.arrivals.now in
    let within : c.loop-arrival.arrival-index < length arrivals = c.loop-arrival-test.true in
    let before = i.each in
    let one = length-append items (c.in-Ok.answer ∷ []) in
    let each : length all ≡ c.loop-arrival.arrival-index + 1 =
    ap length c.push_reserved.ensures.items ∙ omega (arith, before, one) in
    far_at_refusal c.args.strict arrivals all (omega (arith, within, each))
    (ends_here c.args.strict c.stops_at-stops.result items all c.in-Ok.answer i.none c.stops_at-stops.ensures
    c.if-stops.true c.push_reserved.ensures.items)

pub returns-then-stops-clause-held : goal.returns-then-stops-clause-held
returns-then-stops-clause-held g c clean h holding is_open =
    let i = c.loop-arrival.invariant in
    let at = c.loop-arrival.arrival-index in
    let arrivals = c.args.arrivals.now in
    let item = c.arrival-item.result in
    let items = c.loop-arrival.answers.items in
    let all = c.push_reserved.new.self.items in
    let now = state g.S.Store c.add_in_tables.new.office.conn in
    let arrive = c.in-Ok.ensures in
    let add = c.add_in_tables.ensures.office in
    let worked : IsFalse c.loop-arrival.office.failed = sym c.is_failed.ensures ∙ c.if-is_failed.false in
    let within : at < length arrivals = c.loop-arrival-test.true in
    let next : take (at + 1) arrivals ≡ take at arrivals ++ item ∷ [] =
    rw (take_more arrivals at item within, ← c.arrival-item.is) in
    let before = i.each in
    let one = length-append items (c.in-Ok.answer ∷ []) in
    let each : length all ≡ at + 1 = ap length c.push_reserved.ensures.items ∙ omega (arith, before, one) in
    let after : HasCleanDisk (state g.S.Store c.arrive.new.self.conn) = omega (arith, add.clean, clean) in
    let early : HasCleanDisk (state g.S.Store c.loop-arrival.office.conn) = omega (arith, arrive.call.clean, after) in
    let held = reported_next (λ k. Holding k now) h arrivals at items all item c.in-Ok.answer within next i.each
    c.push_reserved.ensures.items
    (add.held_open clean _ (arrive.answered after _ (i.held early h holding worked)).0 is_open) in
    subst (λ k. Holding k now) (history_so_far h arrivals all (at + 1) each) held

pub returns-then-stops-clause-legal : goal.returns-then-stops-clause-legal
returns-then-stops-clause-legal g c clean h holding =
    let i = c.loop-arrival.invariant in
    let at = c.loop-arrival.arrival-index in
    let arrivals = c.args.arrivals.now in
    let item = c.arrival-item.result in
    let items = c.loop-arrival.answers.items in
    let all = c.push_reserved.new.self.items in
    let arrive = c.in-Ok.ensures in
    let add = c.add_in_tables.ensures.office in
    let worked : IsFalse c.loop-arrival.office.failed = sym c.is_failed.ensures ∙ c.if-is_failed.false in
    let within : at < length arrivals = c.loop-arrival-test.true in
    let next : take (at + 1) arrivals ≡ take at arrivals ++ item ∷ [] =
    rw (take_more arrivals at item within, ← c.arrival-item.is) in
    let before = i.each in
    let one = length-append items (c.in-Ok.answer ∷ []) in
    let each : length all ≡ at + 1 = ap length c.push_reserved.ensures.items ∙ omega (arith, before, one) in
    let after : HasCleanDisk (state g.S.Store c.arrive.new.self.conn) = omega (arith, add.clean, clean) in
    let early : HasCleanDisk (state g.S.Store c.loop-arrival.office.conn) = omega (arith, arrive.call.clean, after) in
    let legal = reported_next IsLegalHistory h arrivals at items all item c.in-Ok.answer within next i.each
    c.push_reserved.ensures.items
    (held_is_legal _ _ (arrive.answered after _ (i.held early h holding worked)).0) in
    subst IsLegalHistory (history_so_far h arrivals all (at + 1) each) legal

pub returns-then-is_failed-clause-statistics : goal.returns-then-is_failed-clause-statistics
returns-then-is_failed-clause-statistics g c clean h holding is_open =
    c.loop-arrival.invariant.statistics clean h holding is_open

pub returns-in-Err-clause-statistics : goal.returns-in-Err-clause-statistics
returns-in-Err-clause-statistics g c clean h holding is_open =
    let i = c.loop-arrival.invariant in
    let arrive = c.in-Err.ensures in
    let mid = state g.S.Store c.loop-arrival.office.conn in
    let worked : IsFalse c.loop-arrival.office.failed = sym c.is_failed.ensures ∙ c.if-is_failed.false in
    let early : HasCleanDisk mid = omega (arith, arrive.call.clean, clean) in
    let held = i.held early h holding worked in
    (arrive.statistics clean (held_tables _ mid held) is_open).statistics
    ∙ i.statistics early h holding held.is_open

pub returns-clause-statistics : goal.returns-clause-statistics
returns-clause-statistics g c clean h holding is_open =
    c.loop-arrival.invariant.statistics clean h holding is_open

pub returns-then-stops-clause-statistics : goal.returns-then-stops-clause-statistics
returns-then-stops-clause-statistics g c clean h holding is_open =
    let i = c.loop-arrival.invariant in
    let arrive = c.in-Ok.ensures in
    let add = c.add_in_tables.ensures.office in
    let mid = state g.S.Store c.loop-arrival.office.conn in
    let answered = state g.S.Store c.arrive.new.self.conn in
    let worked : IsFalse c.loop-arrival.office.failed = sym c.is_failed.ensures ∙ c.if-is_failed.false in
    let after : HasCleanDisk answered = omega (arith, add.clean, clean) in
    let early : HasCleanDisk mid = omega (arith, arrive.call.clean, after) in
    let held = i.held early h holding worked in
    let next_held = (arrive.answered after _ held).0 in
    (add.statistics clean (held_tables _ answered next_held) is_open).statistics
    ∙ (arrive.statistics after (held_tables _ mid held) next_held.is_open).statistics
    ∙ i.statistics early h holding held.is_open

pub returns-then-stops-clause-told : goal.returns-then-stops-clause-told
returns-then-stops-clause-told g c =
    let i = c.loop-arrival.invariant in
    let short = i.short in
    told_next c.args.script.now c.args.arrivals.now c.loop-arrival.arrival-index c.next_number-number.result
    c.loop-arrival.answers.items c.push_reserved.new.self.items c.in-Ok.answer c.loop-arrival.lines
    c.next_number-number.new.self c.args.reasons.now c.loop-arrival.reasons c.add_in_tables.new.self
    c.loop-arrival-test.true
    i.each c.push_reserved.ensures.items i.left (c.next_number-number.ensures.next (omega (arith, short))) i.told
    c.add_in_tables.ensures.told
