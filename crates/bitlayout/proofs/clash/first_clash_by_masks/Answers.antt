use Rattle.bitlayout.proofs.Common.{◌≡◌, ◌∷◌, ◌++◌, [], None, get_or, take, refl, sym, subst, arith, ◌∙◌, below_more}
use Rattle.bitlayout.proofs.Common.{slice_get_read, get_or_from_slice_get}
use Rattle.bitlayout.specs.Clash.{clash_at}
use Rattle.bitlayout.specs.Taken.{IsTakenBy}
use Rattle.bitlayout.proofs.Search.{some_at, none_at, none_if_none}
use Rattle.bitlayout.proofs.Faults.{clash_at_place}
use Rattle.bitlayout.proofs.Covering.{taken_more}
use Rattle.bitlayout.proofs.clash.first_clash_by_masks.Goals as goal

pub returns-then-is_some : goal.returns-then-is_some
returns-then-is_some c =
    let places = c.args.places.now in
    let i = c.loop-index.index in
    let at = slice_get_read places _ i _ refl c.loop-index-test.true c.index-places-index.is in
    some_at (clash_at c.args.length c.args.multiplexed places) _ i c.fault_beside-fault.result c.loop-index-test.true
    (clash_at_place c.args.length c.args.multiplexed places i _ at ∙ sym c.fault_beside-fault.ensures.clash)
    (sym c.is_some.ensures ∙ c.if-is_some.true) c.loop-index.invariant.none

pub loop-index-preserved : goal.loop-index-preserved
loop-index-preserved c =
    let places = c.args.places.now in
    let i = c.loop-index.index in
    let place = c.index-places-index.result in
    let at = slice_get_read places _ i place refl c.loop-index-test.true c.index-places-index.is in
    let same : get_or places i place ≡ place = get_or_from_slice_get places i place place at in
    let here = clash_at_place c.args.length c.args.multiplexed places i place at
    ∙ sym c.fault_beside-fault.ensures.clash
    ∙ none_at c.fault_beside-fault.result (sym c.is_some.ensures ∙ c.if-is_some.false) in
    let added = c.add.ensures (take i places) place.layout c.fault_beside-fault.ensures.taken
    c.strip_of-strip.ensures.positions in
    record {
      none = below_more (λ k. clash_at c.args.length c.args.multiplexed places k ≡ None) i c.loop-index.invariant.none
          here;
      taken = taken_more c.add.new.self places i place c.loop-index-test.true
          (subst (λ p. IsTakenBy c.add.new.self (take i places ++ p ∷ [])) (sym same) added);
    }

pub returns : goal.returns
returns c = sym (none_if_none (clash_at c.args.length c.args.multiplexed c.args.places.now) _
    (λ k below. c.loop-index.invariant.none k (omega arith)))
