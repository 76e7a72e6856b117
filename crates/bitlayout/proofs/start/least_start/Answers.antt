use Rattle.bitlayout.proofs.Starts.{least_start_is}
use Rattle.bitlayout.proofs.start.least_start.Goals as goal

pub returns-clause-computed : goal.returns-clause-computed
returns-clause-computed c =
    let found = c.least_start_where.ensures in
    least_start_is c.args.places.now c.args.length c.args.size c.args.order c.args.mux c.least_start_where.result
    found.least found.none found.payload
