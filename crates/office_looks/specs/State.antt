-- What a network has once, and how many there are of each kind of thing.
use Rattle.std.specs.Prelude.{ℕ, ◌-◌, List, [], ◌∷◌, length, unwrap_or}
use Rattle.dbc_sheet.specs.Pairs.{counts_of}
use Rattle.dbc_sheet.specs.declared.counts.Counts.{Counts}
use Rattle.office_types.specs.State.{submitter_of}
use Rattle.office_types.specs.Command.{kind_word}
use Rattle.office_views.specs.NetList.{phase_word}
use Rattle.office_views.specs.Table.{signal_count}
use Rattle.office_seen.specs.Since.{last_release}
use Rattle.office_seen.specs.declared.view.View.{View}
use Rattle.office_looks.specs.declared.state.TheConstants.{STATE}
use Rattle.rows.specs.Fact.{Fact, of_name, of_number, of_share, of_word, of_words}
use Rattle.rows.specs.Table.{Listing, headed}

-- what it is and whether it is being changed; who submitted it, who approved of it, and how many approvals a release
-- still needs; how many releases it has, and how many messages differ from those of the last one; what isn't in the
-- sheet, and what is
abbrev pub state_row : View → (releases : ℕ) → Counts → List Fact
state_row view releases changes =
    of_word view.name ∷ of_name (kind_word view.kind) ∷ of_name (phase_word view.phase)
    ∷ of_word (unwrap_or (submitter_of view.phase) []) ∷ of_words view.approvals
    ∷ of_share (view.reviews - length view.approvals) view.reviews
    ∷ of_number releases ∷ of_number changes.added ∷ of_number changes.removed ∷ of_number changes.changed
    ∷ of_number (length view.held) ∷ of_number (length view.blocks)
    ∷ of_number (length view.sheet.nodes) ∷ of_number (length view.sheet.messages)
    ∷ of_number (signal_count view.sheet.messages) ∷ []

abbrev pub state_table : View → Listing
state_table view =
    let changes = counts_of (last_release view.releases).messages view.sheet.messages in
    headed STATE (state_row view (length view.releases) changes) []
