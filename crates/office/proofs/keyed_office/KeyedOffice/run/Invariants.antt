use Rattle.office.proofs.Common.{take}
use Rattle.office.specs.Running.{HasAnswered}
use Rattle.office.proofs.keyed_office.KeyedOffice.run.Given as goal

abbrev pub invariant-loop-arrival : goal.invariant-loop-arrival
invariant-loop-arrival l = HasAnswered l.fn.self (take l.arrival-index l.arrivals) l.fn.answers.items l.answers.items
    l.self
