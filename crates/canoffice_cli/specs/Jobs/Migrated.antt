-- The outcome of making a database of an earlier version one of this version.
use Rattle.std.specs.Prelude.{◌≡◌, ℕ, List, [], codes, Result, Ok, Err, OnErr, OnOk, ⊤}
use Rattle.office_history.specs.History.{Answered}
use Rattle.store.specs.declared.lost.Lost.{Lost}
use Rattle.canoffice_cli.specs.Answered.{lost_outcome}
use Rattle.canoffice_cli.specs.Databases.{Databases, HasBegun, StatisticsStay}
use Rattle.canoffice_cli.specs.Outcome.{Outcome, success}

-- the profile of the tables is printed, or why the call was lost
abbrev pub migrated_outcome : Result ⊤ Lost → Outcome
migrated_outcome (Ok done) = success (codes "profile 2\n")
migrated_outcome (Err lost) = lost_outcome lost

-- The tables of the path hold the history that they held in the form of this version or of an earlier one, unless that
-- was lost: then they hold it as before. New tables are made where the file has no tables. The statistics stay.
pub record IsMigrated (before after : Databases) (path : List ℕ) (done : Result ⊤ Lost) : Type 0 where
  pub carried : (h : List Answered) → before.holds_in_form path h → after.is_sound → OnOk done (after.holds path h)
  pub left : (h : List Answered) → before.holds_in_form path h → after.is_sound
      → OnErr done (after.holds_in_form path h)
  pub held : (h : List Answered) → before.holds path h → after.is_sound → after.holds path h
  pub made : before.is_new path → after.is_sound → OnOk done (after.holds path [])
  pub statistics : HasBegun before path → StatisticsStay before after path

abbrev pub IsMigrateOutcome : Databases → Databases → List ℕ → Outcome → Type 0
IsMigrateOutcome before after path o = (done : Result ⊤ Lost) × IsMigrated before after path done
    × (o ≡ migrated_outcome done)
