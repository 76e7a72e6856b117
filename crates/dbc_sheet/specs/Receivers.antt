-- The names of the nodes that receive a signal, as a value keeps them: one in itself, and more in a block of memory.
use Rattle.std.specs.Prelude.{ℕ, List, [], ◌∷◌}
use Rattle.dbc_sheet.specs.declared.receivers.Listed.{Listed}
use Rattle.dbc_sheet.specs.declared.receivers.Listed.TheVariants.{Nothing, One, Many}

abbrev pub names_in : Listed → List (List ℕ)
names_in Nothing = []
names_in (One name) = name ∷ []
names_in (Many names) = names.items
