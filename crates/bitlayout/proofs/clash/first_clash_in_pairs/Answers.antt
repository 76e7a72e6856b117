use Rattle.bitlayout.proofs.Common.{refl, sym, arith, ◌∙◌, slice_get_read}
use Rattle.bitlayout.specs.Clash.{clash_at}
use Rattle.bitlayout.proofs.Search.{some_at, none_if_none}
use Rattle.bitlayout.proofs.Faults.{clash_at_place}
use Rattle.bitlayout.proofs.clash.first_clash_in_pairs.Goals as goal

pub returns-then-is_some : goal.returns-then-is_some
returns-then-is_some c =
    let places = c.args.places.now in
    let i = c.loop-index.index in
    let at = slice_get_read places _ i _ refl c.loop-index-test.true c.index-places-index.is in
    some_at (clash_at c.args.length c.args.multiplexed places) _ i c.fault_after-fault.result c.loop-index-test.true
    (clash_at_place c.args.length c.args.multiplexed places i _ at ∙ sym c.fault_after-fault.ensures)
    (sym c.is_some.ensures ∙ c.if-is_some.true) c.loop-index.invariant

pub returns : goal.returns
returns c = sym (none_if_none (clash_at c.args.length c.args.multiplexed c.args.places.now) _
    (λ k below. c.loop-index.invariant k (omega arith)))
