-- What changed from one release to another.
use Rattle.std.specs.Prelude.{ℕ, ◌==◌, ◌-◌, Option, Some, None, slice_get, if◌then◌else◌}
use Rattle.dbc_sheet.specs.declared.sheet.Sheet.{Sheet}
use Rattle.dbc_compare.specs.List.{compare_table}
use Rattle.office_seen.specs.declared.view.View.{View}
use Rattle.rows.specs.Table.{Listing}

-- the sheet of the number: of 0 the live one, from 1 on that of the release; none where there is no such release
abbrev pub numbered_sheet : ℕ → View → Option Sheet
numbered_sheet number view = if number == 0 then Some view.sheet else slice_get view.releases (number - 1)

-- what changed from the one to the other; none where either is
abbrev pub compared : Option Sheet → Option Sheet → Option Listing
compared None new = None
compared (Some old) None = None
compared (Some old) (Some new) = Some (compare_table old new)

abbrev pub compared_table : ℕ → ℕ → View → Option Listing
compared_table old new view = compared (numbered_sheet old view) (numbered_sheet new view)
