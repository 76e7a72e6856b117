use Rattle.store_net.proofs.Common.{◌≡◌, Some, length, slice_get, subst, sym, arith}
use Rattle.store_net.proofs.LastRelease.{last_after}
use Rattle.store_net.proofs.releases.sheets_before.Goals as goal

pub returns-clause-last : goal.returns-clause-last
returns-clause-last c =
    let many : length c.loop.sheets ≡ c.args.count =
    omega (arith, c.loop.invariant, c.loop-test.false, c.loop.auto.counter-end) in
    subst (λ sheets. slice_get sheets c.args.count ≡ Some c.args.last) (sym c.in_ok-push-2.ensures.ok)
    (last_after c.loop.sheets c.args.last c.args.count many)
