-- What the rows of the profile say of the tables.
use Rattle.std.specs.Prelude.{◌≡◌, ◌≢◌, ◌⊎◌, List, All}
use Rattle.sqlite.specs.Order.{Row}
use Rattle.office_rules.specs.Profile.{One, Two}
use Rattle.store_tables.specs.Selected.{IsSelected}
use Rattle.store_tables.specs.Tables.{Tables}
use Rattle.store_statements.specs.Rows.{is_any, mark_row}
use Rattle.store_statements.specs.Shown.{profile_order, profile_shown}
use Rattle.store_migrate.specs.Forms.{body_marks, row_marks}
use Rattle.store_migrate.specs.declared.profile_rows.ProfileRows.{ProfileRows}
use Rattle.store_migrate.specs.declared.profile_rows.ProfileRows.TheVariants.{Bodies, First, Foreign, Newer, Second}

-- the rows that a profile has had so far
abbrev pub IsKnownProfileRow : Row → Type 0
IsKnownProfileRow row = (row ≡ mark_row 1 1) ⊎ (row ≡ mark_row 1 2) ⊎ (row ≡ mark_row 2 2)

-- the rows, as they are read, say this
abbrev pub AreProfileRows : List Row → ProfileRows → Type 0
AreProfileRows rows Bodies = rows ≡ body_marks
AreProfileRows rows First = rows ≡ row_marks One
AreProfileRows rows Second = rows ≡ row_marks Two
AreProfileRows rows Newer = ¬ All IsKnownProfileRow rows
AreProfileRows rows Foreign = All IsKnownProfileRow rows × (rows ≢ body_marks) × (rows ≢ row_marks One)
    × (rows ≢ row_marks Two)

-- the table's rows, read in ascending order of their keys, say this
abbrev pub HasProfileRows : Tables → ProfileRows → Type 0
HasProfileRows t marks = (rows : List Row) × IsSelected is_any profile_shown profile_order t.profile rows
    × AreProfileRows rows marks
