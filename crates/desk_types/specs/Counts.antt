-- How many calls of a device failed, before something was done with it and after that.
use Rattle.std.specs.Prelude.{◌≡◌, ℕ, ◌+◌, Result, Ok, Err}
use Rattle.desk_types.specs.declared.fault.ReadFault.{ReadFault}
use Rattle.desk_types.specs.declared.fault.ReadFault.TheVariants.{Read, Memory}

-- one call failed where there is an error, and else none
abbrev pub CountsFailure : {T E : Type 0} → Result T E → ℕ → ℕ → Type 0
CountsFailure (Ok v) old new = new ≡ old
CountsFailure (Err e) old new = new ≡ old + 1

-- one call failed where the fault is that of a read, and else none
abbrev pub CountsRead : {T : Type 0} → Result T ReadFault → ℕ → ℕ → Type 0
CountsRead (Ok v) old new = new ≡ old
CountsRead (Err Read) old new = new ≡ old + 1
CountsRead (Err Memory) old new = new ≡ old
