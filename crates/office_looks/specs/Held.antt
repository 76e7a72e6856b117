-- The identifiers that are held.
use Rattle.std.specs.Prelude.{List, [], ◌∷◌, length, map, Some, unwrap_or}
use Rattle.can_id.specs.Ident.{dbc_number}
use Rattle.can_id.specs.declared.ident.Ident.{Ident}
use Rattle.office_seen.specs.Owners.{last_name, team_of}
use Rattle.office_seen.specs.Since.{releases_runs}
use Rattle.office_seen.specs.declared.view.View.{View}
use Rattle.office_looks.specs.declared.held.TheConstants.{HELD, HELD_TOTALS}
use Rattle.rows.specs.Fact.{Fact, of_ident, of_number, of_runs, of_word}
use Rattle.rows.specs.Table.{Listing, plain}

-- identifier, team, releases, name
abbrev pub held_row : View → Ident → List Fact
held_row view i =
    of_ident (Some i) ∷ of_word (unwrap_or (team_of view.blocks i) [])
    ∷ of_runs (releases_runs view.releases (dbc_number i))
    ∷ of_word (unwrap_or (last_name view.releases i) []) ∷ []

abbrev pub held_table : View → Listing
held_table view = plain HELD (map (held_row view) view.held) HELD_TOTALS (of_number (length view.held) ∷ [])
