-- Whether a text can be the beginning of a sheet, as far as `read` says: it reads as one, or its fault is only that it
-- ends too early.
use Rattle.std.specs.Prelude.{◌≡◌, ◌<◌, ℕ, Bool, true, false, List, length}
use Rattle.dbc_grammar.specs.Reads.{Reads}
use Rattle.dbc_sheet.specs.declared.sheet.Sheet.{Sheet}
use Rattle.dbc_lex.specs.declared.fault.ReadFault.{ReadFault}
use Rattle.dbc_read.specs.Reading.{IsReadFault}

pub data GoesOn (text : List ℕ) : Type 0 where
  reads : (s : Sheet) → Reads text s → GoesOn text
  ends : (fault : ReadFault) → IsReadFault text fault → fault.at ≡ length text → GoesOn text

-- its fault comes before its end
pub record Stops (text : List ℕ) : Type 0 where
  pub fault : ReadFault
  pub is : IsReadFault text fault
  pub before_end : fault.at < length text

-- the answer to whether it goes on
abbrev pub IsGoingOn : List ℕ → Bool → Type 0
IsGoingOn text true = GoesOn text
IsGoingOn text false = Stops text
