-- The numbers and the texts of the faults.
use Rattle.std.specs.Prelude.{ℕ, List, codes}
use Rattle.decimal.specs.declared.fault.DecimalFault.{DecimalFault}
use Rattle.decimal.specs.declared.fault.DecimalFault.TheVariants.{NotNumber, TooManyDigits, ExponentRange}

abbrev pub fault_number : DecimalFault → ℕ
fault_number NotNumber = 10
fault_number TooManyDigits = 11
fault_number ExponentRange = 12

abbrev pub fault_text : DecimalFault → List ℕ
fault_text NotNumber = codes "not a number"
fault_text TooManyDigits = codes "more than 36 digits"
fault_text ExponentRange = codes "an exponent out of -400 to 400"
