use Rattle.bitlayout.proofs.Common.{◌≡◌, ◌+◌, ◌*◌, ◌≤◌, length, refl, sym, arith, rules, subst, leb-true}
use Rattle.bitlayout.proofs.Common.{slice_get_read, get_or_from_slice_get}
use Rattle.bitlayout.specs.declared.place.Mux.TheVariants.{Always}
use Rattle.bitlayout.proofs.Turns.{InTurn, none_in_turn, next_in_turn, clear_in_turn}
use Rattle.bitlayout.proofs.clash.are_in_turn.Goals as goal
use Rattle.bitlayout.proofs.clash.are_in_turn.Goals.{in-Always, in_default}

pub loop-place-init : goal.loop-place-init
loop-place-init c = none_in_turn _ _

pub loop-place-preserved : goal.loop-place-preserved
loop-place-preserved c =
    let places = c.args.places.now in
    let i = c.loop-place.place-index in
    let place = c.place-item.result in
    let always : place.mux ≡ Always =
    elim c.match-matches.branch [ in-Always w ↦ w.in-Always.is | in_default w ↦ cc ] in
    let same : place.layout.order ≡ c.args.order = search rules in
    let at = slice_get_read places _ i place refl c.loop-place-test.true c.place-item.is in
    let later = c.ranks-ranks.ensures.first in
    let end = c.ranks-ranks.ensures.end in
    subst (InTurn places c.args.order (i + 1)) (sym end)
    (next_in_turn places c.args.order i c.loop-place.end place (λ d. get_or_from_slice_get places i place d at)
    c.loop-place.invariant always same (omega arith))

pub returns : goal.returns
returns c = λ t.
    let few : c.loop-place.end ≤ 8 * c.from.result = leb-true _ _ t in
    let all : c.loop-place.place-index ≡ length c.args.places.now = omega arith in
    clear_in_turn c.args.places.now c.args.order c.loop-place.end c.args.length
    (subst (λ n. InTurn c.args.places.now c.args.order n c.loop-place.end) all c.loop-place.invariant)
    (omega (arith, c.from.ensures))
