-- The live messages with their owners and releases: the table, with three columns put in.
use Rattle.std.specs.Prelude.{◌≡◌, ℕ, Bool, true, List, [], ◌∷◌, ◌++◌, length, map, filter, take, drop, codes, unwrap_or}
use Rattle.std.specs.Prelude.{Option, Some, None}
use Rattle.std.specs.Str.{bytes_eq}
use Rattle.dbc_sheet.specs.Messages.{number_of}
use Rattle.dbc_sheet.specs.declared.message.Message.{Message}
use Rattle.office_views.specs.Table as table
use Rattle.office_views.specs.Table.{signal_count}
use Rattle.office_seen.specs.Since.{last_release, releases_runs, since}
use Rattle.office_seen.specs.View.{owned}
use Rattle.office_seen.specs.declared.view.View.{View}
use Rattle.office_views.specs.declared.table.TheConstants.{MESSAGE_TOTALS, TABLE}
use Rattle.office_looks.specs.declared.messages.TheConstants.{MESSAGES}
use Rattle.rows.specs.Fact.{Fact, of_ident, of_name, of_number, of_runs, of_word}
use Rattle.rows.specs.Table.{Listing, plain}

-- identifier, length, count of signals; owner, releases that have the number, what has become of it since the last one;
-- transmitter, name
abbrev pub message_row : View → Message × List ℕ → List Fact
message_row view p =
    of_ident (Some p.0.ident) ∷ of_number p.0.length ∷ of_number (length p.0.signals)
    ∷ of_word p.1 ∷ of_runs (releases_runs view.releases (number_of p.0))
    ∷ of_name (since (last_release view.releases) view.sheet p.0)
    ∷ of_name (unwrap_or p.0.transmitter (codes "-")) ∷ of_name p.0.name ∷ []

-- the message is the team's; without a team any message is wanted
abbrev pub is_wanted : Option (List ℕ) → Message × List ℕ → Bool
is_wanted None p = true
is_wanted (Some team) p = bytes_eq p.1 team

abbrev pub wanted : Option (List ℕ) → View → List (Message × List ℕ)
wanted team view = filter (is_wanted team) (owned view)

-- how many signals they have altogether
abbrev pub signals_of : List (Message × List ℕ) → ℕ
signals_of ps = signal_count (map (λ (p : Message × List ℕ). p.0) ps)

abbrev pub messages_table : Option (List ℕ) → View → Listing
messages_table team view = plain MESSAGES (map (message_row view) (wanted team view)) MESSAGE_TOTALS
    (of_number (length (wanted team view)) ∷ of_number (signals_of (wanted team view)) ∷ [])

-- without the fourth, fifth and sixth
abbrev pub without_put_in : {X : Type 0} → List X → List X
without_put_in xs = take 3 xs ++ drop 6 xs

-- without those that are put in, the columns and the row are those of the table
pub record IsTableWithColumns : Type 0 where
  pub columns : TABLE ≡ without_put_in MESSAGES
  pub row : (view : View) (p : Message × List ℕ) → table.message_row p.0 ≡ without_put_in (message_row view p)
