-- What is known of databases, by their paths, and of the history with which an office begins.
use Rattle.std.specs.Prelude.{◌≡◌, ◌⊎◌, ℕ, List, [], IsTrue, Option, Some, None, ⊤}
use Rattle.sqlite.specs.Held.{Held, state}
use Rattle.sqlite.specs.Order.{Row}
use Rattle.sqlite.specs.State.{HasCleanDisk, State}
use Rattle.sqlite.specs.Steps.{over_memory}
use Rattle.sqlite_trees.specs.declared.memory.MemStore.{MemStore}
use Rattle.sqlite_trees.specs.declared.store.Store.{Ghosts}
use Rattle.office_history.specs.History.{Answered}
use Rattle.store_tables.specs.Statements.{statistics_of}
use Rattle.store.specs.Calls.{OnHistory, ShowsSame}
use Rattle.store.specs.Holding.{Holding}
use Rattle.store.specs.Opening.{HasNone, HoldingInSomeForm, HoldingOlder}
use Rattle.store.specs.OpensAs.{OnSomeForm}

-- the rows of the statistics that follow an office's tables, as the one list of it; no list where there are none
abbrev pub Statistics : Type 0
Statistics = List (List Row)

-- at one moment: the history that the tables of a path hold, the one that they hold in the form of this version or of
-- an earlier one, the one that they hold under the first profile, that a path has no table, the statistics at a path,
-- and that no disk has failed and nobody else has written
pub record Databases : Type 1 where
  pub holds : List ℕ → List Answered → Type 0
  pub holds_in_form : List ℕ → List Answered → Type 0
  pub holds_older : List ℕ → List Answered → Type 0
  pub is_new : List ℕ → Type 0
  pub has_statistics : List ℕ → Statistics → Type 0
  pub is_sound : Type 0

-- the tables of a path hold the history, in whatever form
abbrev pub HoldsInSomeForm : Databases → List ℕ → List Answered → Type 0
HoldsInSomeForm known path h = known.holds path h ⊎ known.holds_in_form path h ⊎ known.holds_older path h

-- the tables of a path hold a history, in whatever form, or it has no table
abbrev pub HasBegun : Databases → List ℕ → Type 0
HasBegun known path = ((h : List Answered) × HoldsInSomeForm known path h) ⊎ known.is_new path

-- the statistics at the path are those from before, with the same rows, or there are none still
abbrev pub StatisticsStay : Databases → Databases → List ℕ → Type 0
StatisticsStay before after path =
    after.is_sound → (rows : Statistics) → before.has_statistics path rows → after.has_statistics path rows

-- an office is opened with the history: the connection shows tables of some form that hold it, or none, and then it is
-- empty
abbrev pub Begins : List Answered → State → Type 0
Begins h s = HoldingInSomeForm h s ⊎ ((h ≡ []) × HasNone s)

-- when a promise is made: no disk is in doubt, and an office is opened with the history on the connection `old`
abbrev pub OnBeginning : {S : Type 0} → Ghosts S → Held S → Held S → (List Answered → Type 0) → Type 0
OnBeginning g old new Promise = HasCleanDisk (state g new) → (h : List Answered) → Begins h (state g old) → Promise h

-- the same, of tables of the first profile, on which no office is opened
abbrev pub OnOlder : {S : Type 0} → Ghosts S → Held S → Held S → (List Answered → Type 0) → Type 0
OnOlder g old new Promise = HasCleanDisk (state g new) → (h : List Answered) → HoldingOlder h (state g old) → Promise h

-- the connection that is given back, if it is open, holds the history that the other held
abbrev pub HoldsIfOpen : {S : Type 0} → Ghosts S → Held S → Held S → Type 0
HoldsIfOpen g old new = OnHistory g old new (λ h. IsTrue (state g new).is_open → Holding h (state g new))

-- the same, in tables of some form
abbrev pub HoldsInFormIfOpen : {S : Type 0} → Ghosts S → Held S → Held S → Type 0
HoldsInFormIfOpen g old new =
    OnSomeForm g old new (λ h. IsTrue (state g new).is_open → HoldingInSomeForm h (state g new))

-- the connection that is given back, if it is open, shows what the other showed, and the same is committed
abbrev pub ShowsSameIfOpen : {S : Type 0} → Ghosts S → Held S → Held S → Type 0
ShowsSameIfOpen g old new = IsTrue (state g new).is_open → ShowsSame g old new

-- the connection that is given back, if it is open, shows the statistics that the other showed
abbrev pub ShowsStatisticsIfOpen : {S : Type 0} → Ghosts S → Held S → Held S → Type 0
ShowsStatisticsIfOpen g old new =
    IsTrue (state g new).is_open → statistics_of (state g new).now ≡ statistics_of (state g old).now

-- what was known is known still
pub record AreKept (before after : Databases) : Type 0 where
  pub holds : (path : List ℕ) (h : List Answered) → before.holds path h → after.holds path h
  pub holds_in_form : (path : List ℕ) (h : List Answered) → before.holds_in_form path h → after.holds_in_form path h
  pub holds_older : (path : List ℕ) (h : List Answered) → before.holds_older path h → after.holds_older path h
  pub is_new : (path : List ℕ) → before.is_new path → after.is_new path
  pub has_statistics : (path : List ℕ) (rows : Statistics) → before.has_statistics path rows
      → after.has_statistics path rows

-- nothing is known of any database, and none is known to be sound
abbrev pub nothing_known : Databases
nothing_known = record {
  holds = λ path h. ⊥;
  holds_in_form = λ path h. ⊥;
  holds_older = λ path h. ⊥;
  is_new = λ path. ⊥;
  has_statistics = λ path rows. ⊥;
  is_sound = ⊥;
}

-- a database in memory shows the same under every path
abbrev pub known_of : Option (Held MemStore) → Databases
known_of None = nothing_known
known_of (Some conn) = record {
  holds = λ path h. Holding h (state over_memory conn);
  holds_in_form = λ path h. HoldingInSomeForm h (state over_memory conn);
  holds_older = λ path h. HoldingOlder h (state over_memory conn);
  is_new = λ path. HasNone (state over_memory conn);
  has_statistics = λ path rows. statistics_of (state over_memory conn).now ≡ rows;
  is_sound = ⊤;
}
