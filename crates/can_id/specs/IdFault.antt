-- The numbers, names and texts of the faults.
use Rattle.std.specs.Prelude.{ℕ, List, codes}
use Rattle.can_id.specs.declared.fault.IdFault.{IdFault}
use Rattle.can_id.specs.declared.fault.IdFault.TheVariants.{NotIdentifier, Priority, NotPgn, Destination}

abbrev pub fault_number : IdFault → ℕ
fault_number NotIdentifier = 1
fault_number Priority = 2
fault_number NotPgn = 3
fault_number Destination = 4

abbrev pub fault_name : IdFault → List ℕ
fault_name NotIdentifier = codes "NotIdentifier"
fault_name Priority = codes "Priority"
fault_name NotPgn = codes "NotPgn"
fault_name Destination = codes "Destination"

abbrev pub fault_text : IdFault → List ℕ
fault_text NotIdentifier = codes "the number is no CAN identifier"
fault_text Priority = codes "the priority is above 7"
fault_text NotPgn = codes "the number is no parameter group number"
fault_text Destination = codes "the parameter group has no destination"
