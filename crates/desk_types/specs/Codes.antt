-- The numbers of the faults.
use Rattle.std.specs.Prelude.{ℕ}
use Rattle.desk_types.specs.declared.fault.DeskFault.{DeskFault}
use Rattle.desk_types.specs.declared.fault.DeskFault.TheVariants.{Read, Write, Memory}
use Rattle.desk_types.specs.declared.fault.ReadFault.{ReadFault}
use Rattle.desk_types.specs.declared.fault.ReadFault.TheVariants as reading

abbrev pub fault_code : DeskFault → ℕ
fault_code Read = 80
fault_code Write = 81
fault_code Memory = 82

-- a fault of reading, as that of a connection
abbrev pub desk_fault_of : ReadFault → DeskFault
desk_fault_of reading.Read = Read
desk_fault_of reading.Memory = Memory
