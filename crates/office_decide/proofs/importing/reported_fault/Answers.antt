use Rattle.office_decide.proofs.importing.reported_fault.Goals as goal

pub returns-in_default : goal.returns-in_default
returns-in_default c = record { other = c.in_default.not-Memory; code = c.number.ensures; offset = c.offset_of.ensures }
