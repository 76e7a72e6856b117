-- An office that is read between two connections, for a report.
use Rattle.std.specs.Prelude.{◌≡◌, IsFalse, IsTrue}
use Rattle.sqlite.specs.Held.{state}
use Rattle.sqlite_trees.specs.declared.store.Store.{Ghosts}
use Rattle.store.specs.Calls.{KeepsDoubt, KeepsStatistics, LeavesHistory, LeavesStatistics, OnHistory}
use Rattle.store.specs.Holding.{Holding}
use Rattle.store.specs.Office.{OfficeView}

-- The office is still the same: it holds each history that it held, as long as its connection is open, which it is
-- unless the office has failed; a crash leaves that history; no statistics come or go. One that had failed before stays
-- as it was.
pub record IsLeftAlone {S : Type 0} (g : Ghosts S) (old new : OfficeView S) : Type 0 where
  pub clean : KeepsDoubt g old.conn new.conn
  pub refused : IsTrue old.failed → new ≡ old
  pub opened : OnHistory g old.conn new.conn (λ h. IsFalse new.failed → IsTrue (state g new.conn).is_open)
  pub held : OnHistory g old.conn new.conn (λ h. IsTrue (state g new.conn).is_open → Holding h (state g new.conn))
  pub left : LeavesHistory g old.conn new.conn
  pub statistics : KeepsStatistics g old.conn new.conn
  pub statistics_left : LeavesStatistics g old.conn new.conn
