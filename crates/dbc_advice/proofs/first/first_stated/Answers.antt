use Rattle.dbc_advice.proofs.Common.{inr, subst}
use Rattle.dbc_advice.specs.Findings.{IsNext}
use Rattle.dbc_advice.proofs.first.first_stated.Goals as goal

pub returns-in_ok-stated_fault-in-Fault : goal.returns-in_ok-stated_fault-in-Fault
returns-in_ok-stated_fault-in-Fault c =
    inr (
      c.in-Fault.reported,
      subst (IsNext c.args.text.now) c.in-Fault.is c.in_ok-reading.ensures,
      c.in_ok-stated_fault-in-Fault.ensures,
    )
