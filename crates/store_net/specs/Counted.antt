-- A network by how many releases it has.
use Rattle.std.specs.Prelude.{◌≡◌, List, length, Option, Some, None}
use Rattle.dbc_sheet.specs.declared.sheet.Sheet.{Sheet}
use Rattle.office_law.specs.Released.{with_releases}
use Rattle.office_types.specs.declared.state.Net.{Net}

-- where the network is there: it, with other sheets in the place of its releases, as many
abbrev pub HasAsMany : Option Net → Option Net → Type 0
HasAsMany None found = found ≡ None
HasAsMany (Some net) found = (others : List Sheet) × (length others ≡ length net.releases)
    × (found ≡ Some (with_releases others net))
