use Rattle.store.proofs.Common.{◌≡◌, ◌+◌, ◌++◌, ◌∷◌, [], length, take, refl, sym, ap, subst, ◌∙◌, arith, All, IsErr}
use Rattle.store.proofs.Common.{IsTrue, All-nil, state, HasCleanDisk}
use Rattle.std.proofs.Common.{◌<◌, take_all}
use Rattle.std.proofs.lemmas.List.{take_more}
use Rattle.store.specs.Holding.{Keeps}
use Rattle.store.specs.Headline.{HasRunOnTables}
use Rattle.store.specs.Running.{FailsBy, IsNoProfile, answered_of}
use Rattle.store.proofs.ListOfArrivals.{Repeats, fails_more, keep_at_first, keep_more, lost_more_same, named_more}
use Rattle.store.proofs.ListOfArrivals.{repeated_more, run_more, run_none}
use Rattle.store.proofs.stored_office.StoredOffice.run.Goals as goal

pub loop-arrival-preserved : goal.loop-arrival-preserved
loop-arrival-preserved g c =
    let old = state g.S.Store c.args.self.now.conn in
    let mid = state g.S.Store c.loop-arrival.self.conn in
    let now = state g.S.Store c.arrive-answered.new.self.conn in
    let i = c.loop-arrival.invariant in
    let at = c.loop-arrival.arrival-index in
    let arrivals = c.args.arrivals.now in
    let item = c.arrival-item.result in
    let arrive = c.arrive-answered.ensures in
    let within : at < length arrivals = c.loop-arrival-test.true in
    let next : take (at + 1) arrivals ≡ take at arrivals ++ item ∷ [] =
    rw (take_more arrivals at item within, ← c.arrival-item.is) in
    record {
      len = let len = i.len in let more = c.push_reserved.ensures.len in omega (arith, len, more);
      room = let room = i.room in let same = c.push_reserved.ensures.capacity in omega (arith, room, same);
      refused = λ was. arrive.call.refused (subst IsTrue (ap (λ o. o.failed) (sym (i.refused was))) was)
          ∙ i.refused was;
      failed = subst (λ l. FailsBy c.args.self.now.failed l c.arrive-answered.new.self.failed)
          (sym c.push_reserved.ensures.items)
          (fails_more _ c.loop-arrival.self.failed _ c.loop-arrival.results.items c.arrive-answered.result i.failed
          arrive.call.failed (λ was. subst IsTrue (ap (λ o. o.failed) (sym (arrive.call.refused was))) was));
      named = subst (All IsNoProfile) (sym c.push_reserved.ensures.items)
          (named_more c.loop-arrival.results.items c.arrive-answered.result i.named arrive.call.named);
      clean = let early = i.clean in omega (arith, early, arrive.call.clean);
      lost_same = λ clean tables lost.
          let early : HasCleanDisk mid = omega (arith, arrive.call.clean, clean) in
          lost_more_same g.S.Store old c.loop-arrival.self c.arrive-answered.new.self c.loop-arrival.results.items
          c.arrive-answered.result tables (i.lost_same early tables)
          arrive.call.failed arrive.call.refused arrive.call.named (arrive.lost_same clean) (arrive.call.memory clean)
          (subst (All IsErr) c.push_reserved.ensures.items lost);
      repeated = λ clean h holding repeats.
          let early : HasCleanDisk mid = omega (arith, arrive.call.clean, clean) in
          repeated_more g.S.Store old h (take at arrivals) c.loop-arrival.results.items item c.loop-arrival.self
          c.arrive-answered.new.self (i.ran early h holding) c.arrive-answered.result
          (i.repeated early h holding) arrive.call.failed arrive.call.refused (arrive.repeated clean)
          (arrive.lost_same clean)
          (subst (λ l. All (Repeats h) (answered_of l (c.loop-arrival.results.items ++ c.arrive-answered.result ∷ [])))
          next
          (subst (λ l. All (Repeats h) (answered_of (take (at + 1) arrivals) l)) c.push_reserved.ensures.items
          repeats));
      statistics = λ clean h holding.
          let early : HasCleanDisk mid = omega (arith, arrive.call.clean, clean) in
          let ran = i.ran early h holding in
          keep_more g.S.Store old c.loop-arrival.self c.arrive-answered.new.self arrive.call.refused
          (λ working. record {
            is_open = ran.is_open working;
            office = (ran.held (ran.is_open working)).keeps.office;
          }) (i.statistics early h holding) (arrive.statistics clean) clean arrive.statistics_left;
      ran = λ clean h holding.
          let early : HasCleanDisk mid = omega (arith, arrive.call.clean, clean) in
          subst (λ l. HasRunOnTables h (take (at + 1) arrivals) l c.arrive-answered.new.self.failed now)
          (sym c.push_reserved.ensures.items)
          (subst (λ l. HasRunOnTables h l (c.loop-arrival.results.items ++ c.arrive-answered.result ∷ [])
          c.arrive-answered.new.self.failed now) (sym next)
          (run_more g.S.Store h (take at arrivals) c.loop-arrival.results.items item c.loop-arrival.self
          c.arrive-answered.new.self (i.ran early h holding)
          c.arrive-answered.result arrive.call.failed arrive.call.refused arrive.call.named (arrive.answered clean)
          (arrive.lost clean) (arrive.call.memory clean) (arrive.left clean)));
    }

pub push_reserved-requires : goal.push_reserved-requires
push_reserved-requires g c =
    let len = c.loop-arrival.invariant.len in
    let room = c.loop-arrival.invariant.room in
    let within = c.loop-arrival-test.true in
    omega (arith, len, room, within)

pub returns-clause-ran : goal.returns-clause-ran
returns-clause-ran g c clean h holding =
    let arrivals = c.args.arrivals.now in
    let all : take c.loop-arrival.arrival-index arrivals ≡ arrivals =
    take_all c.loop-arrival.arrival-index arrivals c.loop-arrival-test.false in
    subst (λ l. HasRunOnTables h l c.loop-arrival.results.items c.loop-arrival.self.failed
    (state g.S.Store c.loop-arrival.self.conn)) all (c.loop-arrival.invariant.ran clean h holding)

pub returns-in_err-results-clause-statistics : goal.returns-in_err-results-clause-statistics
returns-in_err-results-clause-statistics g c clean h holding = keep_at_first (state g.S.Store c.args.self.now.conn)

pub returns-clause-statistics : goal.returns-clause-statistics
returns-clause-statistics g c clean h holding = c.loop-arrival.invariant.statistics clean h holding

pub returns-clause-lost_same : goal.returns-clause-lost_same
returns-clause-lost_same g c clean tables is_open lost =
    (c.loop-arrival.invariant.lost_same clean tables lost).1 is_open

pub returns-clause-repeated : goal.returns-clause-repeated
returns-clause-repeated g c clean h holding is_open repeats =
    let arrivals = c.args.arrivals.now in
    let all : take c.loop-arrival.arrival-index arrivals ≡ arrivals =
    take_all c.loop-arrival.arrival-index arrivals c.loop-arrival-test.false in
    c.loop-arrival.invariant.repeated clean h holding
    (subst (λ l. All (Repeats h) (answered_of l c.loop-arrival.results.items)) (sym all) repeats) is_open

pub loop-arrival-init : goal.loop-arrival-init
loop-arrival-init g c =
    let old = state g.S.Store c.args.self.now.conn in
    record {
      len = c.in_ok-results.ensures.len;
      room = let room = c.in_ok-results.ensures.capacity in omega (arith, room);
      refused = λ was. refl;
      failed = subst (λ l. FailsBy c.args.self.now.failed l c.args.self.now.failed) (sym c.in_ok-results.ensures.items)
          refl;
      named = subst (All IsNoProfile) (sym c.in_ok-results.ensures.items) (All-nil IsNoProfile);
      clean = omega arith;
      lost_same = λ clean tables lost. ((λ working. tables.is_open), λ is_open. (refl, refl));
      repeated = λ clean h holding repeats is_open. (refl, refl);
      statistics = λ clean h holding. keep_at_first old;
      ran = λ clean h holding.
          subst (λ l. HasRunOnTables h [] l c.args.self.now.failed old) (sym c.in_ok-results.ensures.items)
          (run_none h c.args.self.now.failed old (λ _. holding.is_open) holding
          (λ db left. subst (Keeps h) (sym (c.leaves_now.ensures holding.is_open db left)) holding.keeps));
    }
