use Rattle.canoffice_cli.proofs.Common.{refl, read_fault}
use Rattle.canoffice_cli.proofs.jobs.reading.reading_of.Goals as goal

pub returns-in_default-clause-fault : goal.returns-in_default-clause-fault
returns-in_default-clause-fault c =
    read_fault c.args.source.now c.in-Err.fault _ refl c.in_default.not-Memory
    (c.in-Err.ensures.none c.in_default.not-Memory) c.in-Err.ensures.within c.in-Err.ensures.tokens
