-- What an office that was opened, or migrated to, is besides what its contract states.
use Rattle.store.proofs.Common.{◌≡◌, ◌⊎◌, inl, inr, Held, state, HasCleanDisk, Ghosts, statistics_of, tables_of}
use Rattle.store.proofs.Common.{Answered, Bodies, Newer, Second}
use Rattle.std.specs.Prelude.{List}
use Rattle.store.specs.Holding.{Holding}
use Rattle.store.specs.Making.{SaysMarks}
use Rattle.store.specs.Office.{OfficeView}
use Rattle.store.specs.Opening.{HasNone, HasOffice, HoldingInSomeForm, HoldingOlder}
use Rattle.store.specs.OpensAs.{IsMigrated, IsOpened, OnTablesOf}
use Rattle.store.proofs.TablesInForm.{in_form, known_or_newer, office_in_form, older_in_form, older_not_second}
use Rattle.store.proofs.TablesInForm.{older_or_second}
use Rattle.store.proofs.Statistics.{rows_new}

module _ {S : Type 0} (g : Ghosts S) (old : Held S) (office : OfficeView S) (opened : IsOpened g old office) where
  -- a history that was held is held
  pub opened_holds : HasCleanDisk (state g office.conn) → (h : List Answered) → Holding h (state g old)
      → Holding h (state g office.conn)
  opened_holds clean h holding = opened.completed clean h (in_form h (state g old) holding)

  -- tables of the first profile that hold a history aren't opened
  pub opened_not_older : HasCleanDisk (state g office.conn) → (h : List Answered) → HoldingOlder h (state g old) → ⊥
  opened_not_older clean h holding =
      older_not_second holding.keeps.0 h (state g old).now.trees holding.keeps.1
      (opened.second clean (office_in_form h (state g old) (older_in_form h (state g old) holding)))

  -- the statistics have the rows that they had, or there are none still
  pub opened_statistics : HasCleanDisk (state g office.conn) → (h : List Answered)
      → HoldingInSomeForm h (state g old) ⊎ HasNone (state g old)
      → statistics_of (state g office.conn).now ≡ statistics_of (state g old).now
  opened_statistics clean h (inl holding) = (opened.statistics clean h holding).1
  opened_statistics clean h (inr none) =
      rows_new (state g old).now (state g office.conn).now none.schema (opened.new clean none).0

module _ {S : Type 0} (g : Ghosts S) (old : Held S) (office : OfficeView S) (migrated : IsMigrated g old office) where
  pub migrated_statistics : HasCleanDisk (state g office.conn) → (h : List Answered)
      → HoldingInSomeForm h (state g old) ⊎ HasNone (state g old)
      → statistics_of (state g office.conn).now ≡ statistics_of (state g old).now
  migrated_statistics clean h (inl holding) = (migrated.statistics clean h holding).1
  migrated_statistics clean h (inr none) =
      rows_new (state g old).now (state g office.conn).now none.schema (migrated.new clean none).0

  -- tables of a newer profile aren't migrated from
  pub migrated_not_newer : HasCleanDisk (state g office.conn) → HasOffice (state g old) → SaysMarks g old Newer → ⊥
  migrated_not_newer clean has newer =
      known_or_newer has.form (tables_of (state g old).now.trees) (migrated.known clean has) newer

  -- nor are those that have live messages as bodies and the second profile
  pub migrated_not_bodies : OnTablesOf Bodies g old office.conn (SaysMarks g old Second → ⊥)
  migrated_not_bodies clean has second =
      older_or_second (tables_of (state g old).now.trees) (inl (migrated.known clean (record {
        is_open = has.is_open;
        form = Bodies;
        known = λ foreign. cc;
        sound = has.sound;
        numbered = has.numbered;
      }))) second
