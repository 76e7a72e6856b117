use Rattle.bitlayout.proofs.Common.{sym}
use Rattle.bitlayout.proofs.Collisions.{clash_from_collision}
use Rattle.bitlayout.proofs.start.fits_beside.Goals as goal

pub returns-then-collides_beside-clause-fits : goal.returns-then-collides_beside-clause-fits
returns-then-collides_beside-clause-fits c =
    sym (clash_from_collision c.args.length c.args.multiplexed c.args.places.now c.args.place
    (c.collides_beside.ensures.collides.0 c.if-collides_beside.true))
