-- The fault that `read` gives.
use Rattle.dbc_read.proofs.Common.{◌≡◌, ◌≤◌, ℕ, List, length, Some, Result, Err, LexFault, lexed, fault_of, ReadFault}
use Rattle.std.proofs.Common.{◌≢◌}
use Rattle.dbc_lex.specs.declared.fault.ReadCode.TheVariants.{Memory}
use Rattle.dbc_read.specs.Reading.{IsReadFault, ReadsAsNothing}
use Rattle.dbc_read.specs.declared.reading.Reading.{Reading}

-- what the contract of `read` says of a fault that isn't out of memory
pub read_fault : (bytes : List ℕ) (fault : ReadFault) (answer : Result Reading ReadFault) → answer ≡ Err fault
    → fault.code ≢ Memory → ReadsAsNothing bytes
    → fault.at ≤ length bytes
    → ((cause : LexFault) → (lexed 0 bytes).fault ≡ Some cause → answer ≡ Err (fault_of cause))
    → IsReadFault bytes fault
read_fault bytes fault answer is named nothing within tokens = record {
  named = named;
  nothing = nothing;
  within = within;
  tokens = λ cause first. let same = tokens cause first in cc;
}
