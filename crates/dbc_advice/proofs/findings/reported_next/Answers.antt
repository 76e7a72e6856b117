use Rattle.dbc_advice.proofs.Common.{refl, read_fault}
use Rattle.dbc_advice.proofs.findings.reported_next.Goals as goal

pub reported_of-requires : goal.reported_of-requires
reported_of-requires c =
    read_fault c.args.text.now c.in-Err.fault _ refl c.in_default.not-Memory
    (c.in-Err.ensures.none c.in_default.not-Memory) c.in-Err.ensures.within c.in-Err.ensures.tokens
