use Rattle.dbc_read.proofs.TokenFaults.{fault_stays}
use Rattle.dbc_read.proofs.reading.read.Goals as goal

pub returns-in-Err-clause-tokens : goal.returns-in-Err-clause-tokens
returns-in-Err-clause-tokens c =
    λ cause e. rw c.min.ensures (fault_stays c.args.source.now cause c.in-Err.fault e (c.in-Err.ensures.tokens cause e))
