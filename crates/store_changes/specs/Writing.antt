-- What writing a change leaves.
use Rattle.std.specs.Prelude.{◌≡◌, ℕ, true, List, Option, Some, None}
use Rattle.std.specs.List.{list_any}
use Rattle.office_types.specs.declared.change.Change.{Change}
use Rattle.office_types.specs.declared.state.Net.{Net}
use Rattle.office_rules.specs.Change.{is_release}
use Rattle.store_tables.specs.Tables.{Tables}
use Rattle.store_rows.specs.Rows.{next_release}
use Rattle.store_rows.specs.Written.{IsWritten}

-- the number of the next release; a network that isn't there begins with 1
abbrev pub next_number : Option Net → ℕ
next_number None = 1
next_number (Some net) = next_release net

-- if a release is among the changes, this is the number of the network's next one
abbrev pub IsNext : Option ℕ → Option Net → List Change → Type 0
IsNext next net changes = list_any is_release changes ≡ true → next ≡ Some (next_number net)

-- the change of the network's is written, whatever the network was
abbrev pub IsWrittenToAny : List ℕ → Change → Tables → Tables → Type 0
IsWrittenToAny name change before after = (net : Option Net) → IsWritten name change net before after
