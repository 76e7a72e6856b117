-- What is read of a network and of the book.
use Rattle.std.specs.Prelude.{◌≡◌, ℕ, Bool, List, [], map, Option, Some, None, if◌then◌else◌}
use Rattle.std.specs.Option.{option_map}
use Rattle.office_law.specs.Released.{with_releases}
use Rattle.office_types.specs.declared.book.SpnBook.{SpnBook}
use Rattle.office_types.specs.declared.state.Net.{Net}
use Rattle.store_rows.specs.NetIn.{IsNetAt}
use Rattle.store_looks.specs.declared.reading.ReadNet.{ReadNet}
use Rattle.store_net.specs.Nets.{AreKnownNets}
use Rattle.store_tables.specs.Tables.{Tables}

-- a network with its releases, or without them
abbrev pub read_so : Bool → Net → Net
read_so releases net = if releases then net else with_releases [] net

-- the network and the book are read
pub record IsRead (releases : Bool) (held : Option Net) (numbers : SpnBook) (read : ReadNet) : Type 0 where
  pub net : read.net ≡ option_map (read_so releases) held
  pub book : read.book ≡ numbers

-- the names that are read of these networks: those of all, in their order, where the network isn't there, and else none
abbrev pub names_read : Option Net → List Net → List (List ℕ)
names_read None nets = map (λ (net : Net). net.name) nets
names_read (Some held) nets = []

-- whatever networks the tables have, and whichever of them has the name, if any, these names are read
abbrev pub AreNamesRead : List ℕ → ReadNet → Tables → Type 0
AreNamesRead name read t = (held : Option Net) → IsNetAt name t held → (nets : List Net) → AreKnownNets t nets
    → read.names.items ≡ names_read held nets
