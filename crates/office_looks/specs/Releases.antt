-- The releases, and what each changed.
use Rattle.std.specs.Prelude.{ℕ, ◌+◌, List, [], ◌∷◌, length}
use Rattle.dbc_sheet.specs.Pairs.{counts_of}
use Rattle.dbc_sheet.specs.Sheet.{empty_sheet}
use Rattle.dbc_sheet.specs.declared.counts.Counts.{Counts}
use Rattle.dbc_sheet.specs.declared.sheet.Sheet.{Sheet}
use Rattle.office_views.specs.Table.{signal_count}
use Rattle.office_seen.specs.declared.view.View.{View}
use Rattle.office_looks.specs.declared.releases.TheConstants.{RELEASES, RELEASE_TOTALS}
use Rattle.rows.specs.Fact.{Fact, of_number}
use Rattle.rows.specs.Table.{Listing, plain}

abbrev pub changes : Counts → List Fact
changes counts = of_number counts.added ∷ of_number counts.removed ∷ of_number counts.changed ∷ []

-- number, messages, signals, and how many differ from those of the release before it
abbrev pub release_row : ℕ → Sheet → Sheet → List Fact
release_row number before s =
    of_number number ∷ of_number (length s.messages) ∷ of_number (signal_count s.messages)
    ∷ changes (counts_of before.messages s.messages)

-- the rows of the releases from this number on, the first of which came after this one
abbrev pub rows_after : ℕ → Sheet → List Sheet → List (List Fact)
rows_after number before [] = []
rows_after number before (s ∷ releases) = release_row number before s ∷ rows_after (number + 1) s releases

abbrev pub releases_table : View → Listing
releases_table view =
    plain RELEASES (rows_after 1 empty_sheet view.releases) RELEASE_TOTALS
    (of_number (length view.releases) ∷ [])
