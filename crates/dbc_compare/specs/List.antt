-- The differences of two sheets as a list: a row for each, and totals that count them and the messages that differ.
use Rattle.std.specs.Prelude.{ℕ, Bool, true, false, List, [], ◌∷◌, ◌++◌, map, length, count_by, codes, Option, Some}
use Rattle.std.specs.Prelude.{None, if◌then◌else◌, nat_eq}
use Rattle.std.specs.List.{starts_with}
use Rattle.can_id.specs.declared.ident.Ident.{Ident}
use Rattle.dbc_sheet.specs.Pairs.{counts_of}
use Rattle.dbc_sheet.specs.declared.counts.Counts.{Counts}
use Rattle.dbc_sheet.specs.declared.sheet.Sheet.{Sheet}
use Rattle.dbc_compare.specs.Differences.{differences}
use Rattle.dbc_compare.specs.Fields.{field_word}
use Rattle.dbc_compare.specs.declared.difference.Alteration.{Alteration}
use Rattle.dbc_compare.specs.declared.difference.Alteration.TheVariants as change
use Rattle.dbc_compare.specs.declared.difference.Difference.{Difference}
use Rattle.dbc_compare.specs.declared.list.TheConstants.{DIFFERENCES, DIFFERENCE_TOTALS}
use Rattle.dbc_compare.specs.declared.place.Region.{Region}
use Rattle.dbc_compare.specs.declared.place.Region.TheVariants as place
use Rattle.rows.specs.Fact.{Fact, of_change, of_ident, of_mark, of_name, of_number, of_path}
use Rattle.rows.specs.Json.{columns_data, list_text}
use Rattle.rows.specs.Table.{Listing, plain}
use Rattle.serde_json.specs.Written.{compact_text}

-- ---- a row

-- what it is about
abbrev pub kind_word : Region → Option (List ℕ) → List ℕ
kind_word place.Sheet name = codes "sheet"
kind_word place.Nodes name = codes "node"
kind_word place.Tables name = codes "table"
kind_word (place.Message old new) None = codes "message"
kind_word (place.Message old new) (Some n) = codes "signal"

-- the identifier of the message as it is; nothing else has one
abbrev pub ident_at : Region → Option Ident
ident_at (place.Message old new) = Some new.ident
ident_at here = None

-- the name of a message as it is, and of its signal
abbrev pub name_fact : Region → Option (List ℕ) → Fact
name_fact (place.Message old new) name = of_path new.name name
name_fact here None = of_path (codes "-") None
name_fact here (Some n) = of_path n None

-- `added`, or the word of a field
abbrev pub change_word : Alteration → List ℕ
change_word change.Added = codes "added"
change_word change.Removed = codes "removed"
change_word change.Reordered = codes "reordered"
change_word (change.Changed f breaks old new) = field_word f

-- the word, and of a field what it had and what it has
abbrev pub change_fact : Alteration → Fact
change_fact (change.Changed f breaks old new) = of_change (field_word f) (Some (old, new))
change_fact c = of_change (change_word c) None

-- whether it breaks a receiver of what was there: a message or a signal is gone, or the change of a field is one that
-- it sees
abbrev pub is_breaking : Region → Alteration → Bool
is_breaking (place.Message old new) change.Removed = true
is_breaking here (change.Changed f breaks old new) = breaks
is_breaking here c = false

abbrev pub breaks : Difference → Bool
breaks d = is_breaking d.place d.change

abbrev pub difference_row : Difference → List Fact
difference_row d =
    of_mark (breaks d) ∷ of_name (kind_word d.place d.name) ∷ of_ident (ident_at d.place)
    ∷ name_fact d.place d.name ∷ change_fact d.change ∷ []

-- ---- the list

-- with how many messages have no partner, or one that isn't equal
abbrev pub differences_table : List Difference → Counts → Listing
differences_table found counts = plain DIFFERENCES (map difference_row found) DIFFERENCE_TOTALS
    (of_number (length found) ∷ of_number (count_by breaks found) ∷ of_number counts.added
    ∷ of_number counts.removed ∷ of_number counts.changed ∷ [])

abbrev pub compare_table : Sheet → Sheet → Listing
compare_table old new = differences_table (differences old new) (counts_of old.messages new.messages)

abbrev pub compare_text : Bool → Sheet → Sheet → List ℕ
compare_text json old new = list_text json (compare_table old new)

-- how a list begins that has no difference: with the last line, or without rows
abbrev pub no_difference : Bool → List ℕ
no_difference json =
    if json
    then codes "{\"columns\":" ++ (compact_text (columns_data DIFFERENCES) ++ codes ",\"rows\":[]")
    else codes "differences"

abbrev pub has_no_difference : Bool → List ℕ → Bool
has_no_difference json text = starts_with nat_eq text (no_difference json)
