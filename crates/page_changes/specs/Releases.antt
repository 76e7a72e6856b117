-- The releases, and what each of them changed.
use Rattle.std.specs.Prelude.{ℕ, ◌+◌, ◌-◌, ◌==◌, min, nat_lt, List, [], ◌∷◌, ◌++◌, length, Option, Some, None, codes, count_by}
use Rattle.std.specs.Prelude.{decimal, slice_get, unwrap_or, if◌then◌else◌}
use Rattle.std.specs.List.{flat_map, range_with_len}
use Rattle.columns.specs.declared.run.Run.{Run}
use Rattle.columns.specs.Run.{runs_of}
use Rattle.dbc_compare.specs.Differences.{differences}
use Rattle.dbc_compare.specs.List.{breaks}
use Rattle.dbc_sheet.specs.Messages.{has_number}
use Rattle.dbc_sheet.specs.Pairs.{counts_of}
use Rattle.dbc_sheet.specs.Sheet.{empty_sheet}
use Rattle.dbc_sheet.specs.declared.counts.Counts.{Counts}
use Rattle.dbc_sheet.specs.declared.sheet.Sheet.{Sheet}
use Rattle.markup.specs.Html.{element_html, end_tag, escaped, start_tag, valued}
use Rattle.markup.specs.declared.tag.Tag.TheVariants as tag
use Rattle.office_seen.specs.Since.{releases_where}
use Rattle.office_views.specs.Table.{signal_count}
use Rattle.page_parts.specs.Frames.{heading_html, wide}
use Rattle.page_changes.specs.Tables.{bad_if, table_html}
use Rattle.page_changes.specs.declared.releases.TheConstants.{LISTED}

-- the releases that have a message of the number, as runs
abbrev pub releases_of : List Sheet → ℕ → List Run
releases_of releases n = runs_of 1 (releases_where (λ s. has_number s.messages n) releases)

-- how many differences of a release and the one before it break a receiver
abbrev pub breaking_since : Option Sheet → Sheet → ℕ
breaking_since None sheet = 0
breaking_since (Some before) sheet = count_by breaks (differences before sheet)

-- how many messages of a release differ from those of the one before it; the first one comes after an empty sheet
abbrev pub counts_since : Option Sheet → Sheet → Counts
counts_since before sheet = counts_of (unwrap_or before empty_sheet).messages sheet.messages

-- ---- their table

-- a cell with a number after a sign
abbrev pub signed_cell : List ℕ → ℕ → List ℕ
signed_cell sign n = start_tag tag.Cell [] ++ (escaped sign ++ (decimal n ++ end_tag tag.Cell))

-- how many messages are new, gone and changed
abbrev pub count_cells : Counts → List ℕ
count_cells counts =
    signed_cell (codes "+") counts.added
    ++ (signed_cell (226 ∷ 136 ∷ 146 ∷ []) counts.removed ++ signed_cell (226 ∷ 137 ∷ 160 ∷ []) counts.changed)

-- cells of its number, and of how much of it breaks
abbrev pub head_cell : ℕ → List ℕ
head_cell number = start_tag tag.HeadCell [] ++ (codes "release " ++ (decimal number ++ end_tag tag.HeadCell))

abbrev pub breaking_cell : ℕ → List ℕ
breaking_cell count = start_tag tag.Cell [] ++ (bad_if count ++ end_tag tag.Cell)

-- the row of the release of this number, after the one before it
abbrev pub release_row : ℕ → Option Sheet → Sheet → List ℕ
release_row number before sheet =
    start_tag tag.Row [] ++ (head_cell number ++ (signed_cell [] (length sheet.messages)
    ++ (signed_cell [] (signal_count sheet.messages) ++ (count_cells (counts_since before sheet)
    ++ (breaking_cell (breaking_since before sheet) ++ (element_html tag.Cell [] [] ++ end_tag tag.Row))))))

-- the release before the one at an index
abbrev pub before_at : List Sheet → ℕ → Option Sheet
before_at releases i = if i == 0 then None else slice_get releases (i - 1)

abbrev pub row_of : List Sheet → ℕ → Option Sheet → List ℕ
row_of releases i None = []
row_of releases i (Some sheet) = release_row (i + 1) (before_at releases i) sheet

-- the row of the last one, and of those so far back from it
abbrev pub row_back : List Sheet → ℕ → List ℕ
row_back releases back = let i = length releases - 1 - back in row_of releases i (slice_get releases i)

-- a row for each of the last releases, the newest first
abbrev pub release_rows : List Sheet → List ℕ
release_rows releases = flat_map (row_back releases) (range_with_len 0 (min (length releases) LISTED))

abbrev pub release_heads : List (List ℕ)
release_heads = codes "Release" ∷ codes "Messages" ∷ codes "Signals" ∷ codes "Added" ∷ codes "Removed"
    ∷ codes "Changed" ∷ codes "Breaks" ∷ [] ∷ []

abbrev pub release_table : List Sheet → List ℕ
release_table releases = table_html (codes "nums") release_heads (release_rows releases)

-- that there are more than are listed
abbrev pub more_note : ℕ → List ℕ
more_note count =
    start_tag tag.Paragraph [] ++ (start_tag tag.Span (codes " class=\"q\"") ++ (codes "the last 20 of "
    ++ (decimal count ++ (end_tag tag.Span ++ end_tag tag.Paragraph))))

abbrev pub more_releases : ℕ → List ℕ
more_releases count = if nat_lt LISTED count then more_note count else []

unfoldable pub releases_part : List Sheet → List ℕ
releases_part releases =
    start_tag tag.Section (valued (codes " id=\"") (codes "releases")) ++ (heading_html (codes "Releases") None
    ++ (start_tag tag.Division (wide (codes "Releases")) ++ (release_table releases ++ (end_tag tag.Division
    ++ (more_releases (length releases) ++ end_tag tag.Section)))))

-- none before the first release
abbrev pub releases_html : List Sheet → List ℕ
releases_html [] = []
releases_html (s ∷ releases) = releases_part (s ∷ releases)
