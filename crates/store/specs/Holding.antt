-- Connections, and what a crash leaves, that hold a history.
use Rattle.std.specs.Prelude.{List, IsTrue}
use Rattle.sqlite.specs.Tree.{Trees}
use Rattle.sqlite.specs.State.{State}
use Rattle.store_tables.specs.Tables.{AreOffice, tables_of}
use Rattle.office_history.specs.History.{Answered}
use Rattle.store.specs.Holds.{Holds}

-- the trees are those of the office's tables, whose rows hold the history
pub record Keeps (h : List Answered) (db : Trees) : Type 0 where
  pub office : AreOffice db
  pub holds : Holds h (tables_of db)

-- the connection is open, and shows such trees
pub record Holding (h : List Answered) (s : State) : Type 0 where
  pub is_open : IsTrue s.is_open
  pub keeps : Keeps h s.now.trees

-- each outcome of a crash at this moment is so
abbrev pub Leaves : (Trees → Type 0) → State → Type 0
Leaves P s = (db : Trees) → s.may_leave db → P db
