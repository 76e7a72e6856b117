-- The rows of suspect parameter numbers, and their list as HTML.
use Rattle.std.specs.Prelude.{◌≡◌, ℕ, ◌-◌, ◌==◌, nat_le, Bool, true, false, List, [], ◌∷◌, ◌++◌, None, codes, count_by}
use Rattle.std.specs.Prelude.{decimal, length, map, slice_get, unwrap_or, if◌then◌else◌}
use Rattle.std.specs.List.{flat_map}
use Rattle.std.specs.List.Sorted.{IsStrictlyIncreasing}
use Rattle.dbc_sheet.specs.declared.sheet.Sheet.{Sheet}
use Rattle.markup.specs.Html.{element_html, escaped}
use Rattle.markup.specs.declared.tag.Tag.TheVariants as tag
use Rattle.office_blocks.specs.Blocks.{spns_of}
use Rattle.office_blocks.specs.Numbers.{HaveSame}
use Rattle.office_seen.specs.Since.{releases_where}
use Rattle.office_seen.specs.declared.view.View.{View}
use Rattle.office_spns.specs.Spns.{SpnPlace, has_spn, places, shown_places, shown_spns, use_of}
use Rattle.office_spns.specs.declared.spn_use.SpnUse.{SpnUse}
use Rattle.office_spns.specs.declared.spn_use.SpnUse.TheVariants as spn_use
use Rattle.page_parts.specs.Words.{counted, quiet}
use Rattle.page_numbers.specs.Elements.{around, fold_html, part_html, to_named}
use Rattle.page_numbers.specs.declared.spns.SpnRow.{SpnRow}
use Rattle.page_numbers.specs.declared.spns.SpnRow.TheVariants as row

-- ---- rows

-- a number and a place that has it; a number, the last release that had it, and a place there; a number of no place
pub data Said : Type 0 where
  live : ℕ → SpnPlace → Said
  gone : ℕ → ℕ → SpnPlace → Said
  elsewhere : ℕ → Said

-- what a row says
abbrev pub said_of : SpnRow → Said
said_of (row.Live n m s) = live n (m.now, s.now)
said_of (row.Gone n release m s) = gone n release (m.now, s.now)
said_of (row.Elsewhere n) = elsewhere n

abbrev pub spn_in : Said → ℕ
spn_in (live n p) = n
spn_in (gone n release p) = n
spn_in (elsewhere n) = n

abbrev pub says_live : Said → Bool
says_live (live n p) = true
says_live said = false

abbrev pub is_live_row : SpnRow → Bool
is_live_row r = says_live (said_of r)

-- ---- which rows there are

abbrev pub last_of : List ℕ → ℕ
last_of releases = unwrap_or (slice_get releases (length releases - 1)) 0

abbrev pub rows_by : SpnUse → View → ℕ → List Said
rows_by spn_use.Live view n = map (live n) (shown_places n view)
rows_by spn_use.Gone view n = map (gone n (last_of (releases_where (has_spn n) view.releases))) (shown_places n view)
rows_by spn_use.Used view n = elsewhere n ∷ []

-- of a number of a network: one for each place where it is shown, and one where it is at none
abbrev pub rows_at : View → ℕ → List Said
rows_at view n = rows_by (use_of n view) view n

-- of all that are shown, in ascending order
abbrev pub net_rows : View → List Said
net_rows view = flat_map (rows_at view) (shown_spns view)

-- of a number of a sheet alone: its first place
abbrev pub first_row : ℕ → List SpnPlace → List Said
first_row n [] = []
first_row n (p ∷ ps) = live n p ∷ []

abbrev pub first_in : Sheet → ℕ → List Said
first_in s n = first_row n (places n s)

-- of the numbers that the sheet's signals have, in ascending order, each once
pub record AreSheetRows (s : Sheet) (rows : List Said) : Type 0 where
  pub numbers : List ℕ
  pub rising : IsStrictlyIncreasing numbers
  pub same : HaveSame numbers (flat_map spns_of s.messages)
  pub are : rows ≡ flat_map (first_in s) numbers

-- ---- as HTML

-- the signal, after a link to its message
abbrev pub live_place : SpnPlace → List ℕ
live_place p =
    element_html tag.Link (to_named (codes "m-") p.0.name) p.0.name ++ (codes "." ++ escaped p.1.name)

abbrev pub gone_place : ℕ → SpnPlace → List ℕ
gone_place release p =
    codes "burnt, last in release " ++ (decimal release
    ++ (codes ": " ++ (escaped p.0.name ++ (codes "." ++ escaped p.1.name))))

abbrev pub where_html : Said → List ℕ
where_html (live n p) = live_place p
where_html (gone n release p) = around tag.Span (codes " class=\"q\"") (gone_place release p)
where_html (elsewhere n) = quiet (codes "burnt or on another network")

-- an item of the list
abbrev pub spn_item : Said → List ℕ
spn_item said =
    around tag.Item [] (around tag.Bold [] (decimal (spn_in said)) ++ (codes " " ++ where_html said))

abbrev pub row_item : SpnRow → List ℕ
row_item r = spn_item (said_of r)

-- how many rows are of signals that have a number, and how many are of numbers that none has
abbrev pub summary_html : List SpnRow → List ℕ
summary_html rows =
    let count = count_by is_live_row rows in
    counted count (codes "signal")
    ++ (codes " with a number, " ++ (decimal (length rows - count) ++ codes " burnt"))

-- an item for each row, in order
abbrev pub list_html : List SpnRow → List ℕ
list_html rows = around tag.List (codes " class=\"cols\"") (flat_map row_item rows)

-- the part, if there is any row
abbrev pub spns_html : List SpnRow → List ℕ
spns_html rows =
    if length rows == 0 then []
    else part_html (codes "spns") (codes "SPNs") None
    (fold_html (nat_le (length rows) 256) (summary_html rows) (list_html rows))
