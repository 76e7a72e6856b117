-- Laws of differences.
use Rattle.std.specs.Prelude.{◌≡◌, ◌↔◌, Bool, IsTrue, [], Contains}
use Rattle.dbc_sheet.specs.declared.sheet.Sheet.{Sheet}
use Rattle.dbc_compare.specs.Differences.{differences}
use Rattle.dbc_compare.specs.List.{compare_text, has_no_difference}
use Rattle.dbc_compare.specs.declared.difference.Alteration.{Alteration}
use Rattle.dbc_compare.specs.declared.difference.Alteration.TheVariants as change
use Rattle.dbc_compare.specs.declared.difference.Difference.{Difference}
use Rattle.dbc_compare.specs.declared.place.Region.{Region}
use Rattle.dbc_compare.specs.declared.place.Region.TheVariants as place

-- there is no difference if and only if the sheets are equal
abbrev pub TellsApart : Sheet → Sheet → Type 0
TellsApart old new = (differences old new ≡ []) ↔ (old ≡ new)

-- as lines and as JSON, the list shows no difference if and only if the sheets are equal
abbrev pub ListTellsApart : Sheet → Sheet → Type 0
ListTellsApart old new =
    (json : Bool) → IsTrue (has_no_difference json (compare_text json old new)) ↔ (old ≡ new)

-- ---- the other way round

abbrev pub swapped_place : Region → Region
swapped_place (place.Message old new) = place.Message new old
swapped_place here = here

abbrev pub swapped_change : Alteration → Alteration
swapped_change change.Added = change.Removed
swapped_change change.Removed = change.Added
swapped_change change.Reordered = change.Reordered
swapped_change (change.Changed f breaks old new) = change.Changed f breaks new old

-- added for removed, old for new
abbrev pub swapped : Difference → Difference
swapped d = record { place = swapped_place d.place; name = d.name; change = swapped_change d.change }

-- each difference has its opposite the other way round
abbrev pub IsSwapped : Sheet → Sheet → Type 0
IsSwapped old new = (d : Difference) → Contains (differences old new) d ↔ Contains (differences new old) (swapped d)
