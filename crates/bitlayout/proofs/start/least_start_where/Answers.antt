use Rattle.bitlayout.proofs.Common.{sym, ◌∙◌, arith, inl, inr, below_more, cases_lt}
use Rattle.bitlayout.specs.Start.{CanStartAt, place_from}
use Rattle.bitlayout.proofs.Adding.{has_multiplexor-added, clear_added, list_from_added, last_from_added}
use Rattle.bitlayout.specs.Clash.{clash_after}
use Rattle.bitlayout.proofs.Collisions.{none_from_test, test_from_none}
use Rattle.bitlayout.proofs.Search.{none_at, some_or_none}
use Rattle.bitlayout.proofs.Starts.{fits_payload, starts_in_payload}
use Rattle.bitlayout.proofs.start.least_start_where.Goals as goal

pub returns-then-from-positions-clause-none : goal.returns-then-from-positions-clause-none
returns-then-from-positions-clause-none c = λ start small can.
    let few = fits_payload c.args.places.now c.args.length c.args.size c.args.order c.args.mux start (omega arith)
    can in
    omega (arith, c.from.ensures, c.from-positions.ensures)

pub returns-then-is_some-clause-none : goal.returns-then-is_some-clause-none
returns-then-is_some-clause-none c = λ start small can.
    let place = place_from c.args.size c.args.order c.args.mux start in
    let none = list_from_added c.args.places.now c.args.length place c.args.multiplexed
    (c.requires ∙ sym (has_multiplexor-added c.args.places.now place)) can in
    some_or_none c.first_clash_where.result (sym c.is_some.ensures ∙ c.if-is_some.true)
    (c.first_clash_where.ensures ∙ none)

pub returns-then-fits_beside-clause-least : goal.returns-then-fits_beside-clause-least
returns-then-fits_beside-clause-least c =
    let place = place_from c.args.size c.args.order c.args.mux c.loop-start.start in
    let list = none_at c.first_clash_where.result (sym c.is_some.ensures ∙ c.if-is_some.false) in
    let last = none_from_test (clash_after c.args.length c.args.multiplexed c.args.places.now place)
    (sym c.fits_beside.ensures.fits ∙ c.if-fits_beside.true) in (
      clear_added c.args.places.now c.args.length place c.args.multiplexed
          (c.requires ∙ sym (has_multiplexor-added c.args.places.now place)) (sym c.first_clash_where.ensures ∙ list)
          last,
      λ other can. elim (cases_lt other c.loop-start.start)
          [ inl sooner ↦ absurd (c.loop-start.invariant.none other sooner can) | inr later ↦ later ],
    )

pub loop-start-preserved : goal.loop-start-preserved
loop-start-preserved c = record {
  none = below_more (λ k. CanStartAt c.args.places.now c.args.length c.args.size c.args.order c.args.mux k → ⊥) _
      c.loop-start.invariant.none (λ can.
      let place = place_from c.args.size c.args.order c.args.mux c.loop-start.start in
      let none = last_from_added c.args.places.now c.args.length place c.args.multiplexed
      (c.requires ∙ sym (has_multiplexor-added c.args.places.now place)) can in
      test_from_none (clash_after c.args.length c.args.multiplexed c.args.places.now place)
      (sym c.fits_beside.ensures.fits ∙ c.if-fits_beside.false) none);
  taken = c.fits_beside.ensures.taken;
}

pub returns-clause-none : goal.returns-clause-none
returns-clause-none c = λ start small can.
    let few = starts_in_payload c.args.places.now c.args.length c.args.size c.args.order c.args.mux start (omega arith)
    can in
    c.loop-start.invariant.none start (omega (arith, c.from-positions.ensures)) can
