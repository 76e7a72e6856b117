-- What is read of an office to report why it refused a command.
use Rattle.std.specs.Prelude.{◌≡◌, ℕ, Bool, List}
use Rattle.office_types.specs.declared.state.Office.{Office}
use Rattle.office_rules.specs.Step.{net_named}
use Rattle.store_looks.specs.Read.{IsRead, names_read}
use Rattle.store_looks.specs.declared.reading.ReadNet.{ReadNet}

-- The network of the name and the book are those of the office. Where it has no such network, the names are those of
-- all its networks, in their order, and else there are none.
pub record IsReadOf (office : Office) (name : List ℕ) (releases : Bool) (read : ReadNet) : Type 0 where
  pub found : IsRead releases (net_named office name) office.book read
  pub names : read.names.items ≡ names_read (net_named office name) office.nets
