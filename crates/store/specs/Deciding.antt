-- What is decided on what the tables have.
use Rattle.std.specs.Prelude.{◌≡◌, ℕ, false, List, Option, IfSome}
use Rattle.std.specs.List.{list_any}
use Rattle.office_types.specs.declared.book.SpnBook.{SpnBook}
use Rattle.office_types.specs.declared.change.Decision.{Decision}
use Rattle.office_types.specs.declared.command.Command.{Command}
use Rattle.office_types.specs.declared.state.Net.{Net}
use Rattle.office_rules.specs.Change.{IsDecision, is_release}
use Rattle.office_rules.specs.Kept.{IsNet}
use Rattle.store_tables.specs.Tables.{Tables}
use Rattle.store_changes.specs.Writing.{IsNext}
use Rattle.store_rows.specs.NetIn.{IsNetAt}
use Rattle.store_rows.specs.Rows.{IsBookIn}

-- On the network and the book that the tables stand for, the office decides so; and if a release is among the changes,
-- its number is the one that is given.
abbrev pub IsDecidedIn : List ℕ → Command → (Decision × Option ℕ) → Tables → Type 0
IsDecidedIn team command it t = (net : Option Net) (book : SpnBook) → IsNetAt command.net t net → IsBookIn t book
    → IsDecision team (record { net = net; book = book }) command it.0 × IsNext it.1 net it.0.changes

-- the same, where the network is one of an office
abbrev pub IsDecidedInOffice : List ℕ → Command → (Decision × Option ℕ) → Tables → Type 0
IsDecidedInOffice team command it t =
    (net : Option Net) (book : SpnBook) → IsNetAt command.net t net → IfSome net IsNet → IsBookIn t book
    → IsDecision team (record { net = net; book = book }) command it.0 × IsNext it.1 net it.0.changes

-- the same, and no release is among the changes
abbrev pub IsDecidedWithoutRelease : List ℕ → Command → Decision → Tables → Type 0
IsDecidedWithoutRelease team command d t =
    (net : Option Net) (book : SpnBook) → IsNetAt command.net t net → IfSome net IsNet → IsBookIn t book
    → IsDecision team (record { net = net; book = book }) command d × (list_any is_release d.changes ≡ false)
