-- Words for a call on an office's connection. `old` is the connection as it was before the call, `new` as it is after.
use Rattle.std.specs.Prelude.{◌≡◌, ◌≤◌, ◌⊎◌, ◌↔◌, false, List, ◌++◌, ◌∷◌, [], All, Result, Err, IfOk, IfErr}
use Rattle.std.specs.Prelude.{IsErr, IsSome, IsTrue, OnOk, OnErr}
use Rattle.sqlite.specs.Held.{Held, state}
use Rattle.sqlite.specs.State.{HasCleanDisk, Survives}
use Rattle.sqlite_trees.specs.View.{doubt}
use Rattle.sqlite_trees.specs.declared.store.Store.{Ghosts}
use Rattle.office_history.specs.declared.arrival.Answer.{Answer}
use Rattle.office_history.specs.declared.arrival.Arrival.{Arrival}
use Rattle.office_history.specs.History.{Answered, first_of}
use Rattle.store.specs.declared.lost.Lost.{Lost}
use Rattle.store.specs.declared.lost.Lost.TheVariants.{Memory, Store}
use Rattle.store.specs.Holding.{Holding, Keeps, Leaves}
use Rattle.store.specs.Lost.{IsOfCall}
use Rattle.store.specs.Office.{OfficeView}
use Rattle.store.specs.Opening.{HasSameStatistics, HasTables, StatisticsStay}
use Rattle.store.specs.Running.{answered_of}

-- no transaction is open
abbrev pub IsSettled : {S : Type 0} → Ghosts S → Held S → Type 0
IsSettled g conn = (state g conn).in_transaction ≡ false

-- a disk that was in doubt before the call is in doubt after it
abbrev pub KeepsDoubt : {S : Type 0} → Ghosts S → Held S → Held S → Type 0
KeepsDoubt g old new = doubt (state g old).is_clean ≤ doubt (state g new).is_clean

-- ---- when a promise is made: no disk is in doubt, and this is so

-- the connection held the history: the promise is made of each such history
abbrev pub OnHistory : {S : Type 0} → Ghosts S → Held S → Held S → (List Answered → Type 0) → Type 0
OnHistory g old new Promise = HasCleanDisk (state g new) → (h : List Answered) → Holding h (state g old) → Promise h

-- the same, where the promise names the office that the tables stood for
abbrev pub OnHolding : {S : Type 0} → (g : Ghosts S) → (old : Held S) → Held S
    → ((h : List Answered) → Holding h (state g old) → Type 0) → Type 0
OnHolding g old new Promise =
    HasCleanDisk (state g new) → (h : List Answered) → (holding : Holding h (state g old)) → Promise h holding

-- the connection had the tables of an office, whatever their rows
abbrev pub OnTables : {S : Type 0} → Ghosts S → Held S → Held S → Type 0 → Type 0
OnTables g old new Promise = HasCleanDisk (state g new) → HasTables (state g old) → Promise

-- the connection is open after the call
abbrev pub OnOpen : {S : Type 0} → Ghosts S → Held S → Type 0 → Type 0
OnOpen g new Promise = HasCleanDisk (state g new) → IsTrue (state g new).is_open → Promise

-- ---- what is promised

-- the connection shows what it showed, and the same is committed
abbrev pub ShowsSame : {S : Type 0} → Ghosts S → Held S → Held S → Type 0
ShowsSame g old new = ((state g new).now ≡ (state g old).now) × ((state g new).committed ≡ (state g old).committed)

-- the connection holds the history, and so does whatever a crash leaves
abbrev pub HoldsThroughCrash : {S : Type 0} → Ghosts S → Held S → List Answered → Type 0
HoldsThroughCrash g new h = Holding h (state g new) × Leaves (Keeps h) (state g new)

-- the history, and then this arrival
abbrev pub followed_by : List Answered → Answered → List Answered
followed_by h next = h ++ next ∷ []

-- ---- of a call that may be lost

-- if it succeeds, the history is held still
abbrev pub HoldsOnOk : {S X E : Type 0} → Ghosts S → Held S → Held S → Result X E → Type 0
HoldsOnOk g old new result = OnHistory g old new (λ h. OnOk result (Holding h (state g new)))

-- if it is lost and the connection is open, the history is held still
abbrev pub HoldsOnErr : {S X E : Type 0} → Ghosts S → Held S → Held S → Result X E → Type 0
HoldsOnErr g old new result =
    OnHistory g old new (λ h. IsTrue (state g new).is_open → OnErr result (Holding h (state g new)))

-- if it succeeds, an office's tables are as they were, whatever their rows
abbrev pub SameOnOk : {S X E : Type 0} → Ghosts S → Held S → Held S → Result X E → Type 0
SameOnOk g old new result = OnTables g old new (OnOk result (ShowsSame g old new))

-- if it is lost and the connection is open, an office's tables are as they were, whatever their rows
abbrev pub SameOnErr : {S X E : Type 0} → Ghosts S → Held S → Held S → Result X E → Type 0
SameOnErr g old new result = OnTables g old new (IsTrue (state g new).is_open → OnErr result (ShowsSame g old new))

-- whether it succeeds or is lost, whatever a crash leaves holds the history
abbrev pub LeavesHistory : {S : Type 0} → Ghosts S → Held S → Held S → Type 0
LeavesHistory g old new = OnHistory g old new (λ h. Leaves (Keeps h) (state g new))

-- whether it succeeds or is lost, the tables of an office are the same while the connection is open: no statistics come
-- or go, and their rows stay
abbrev pub KeepsStatistics : {S : Type 0} → Ghosts S → Held S → Held S → Type 0
KeepsStatistics g old new =
    OnTables g old new (IsTrue (state g new).is_open → HasSameStatistics (state g old).now (state g new).now)

-- and so they are in whatever more a crash leaves
abbrev pub LeavesStatistics : {S : Type 0} → Ghosts S → Held S → Held S → Type 0
LeavesStatistics g old new = Survives (state g old) (state g new)
    (λ db. HasTables (state g old) → StatisticsStay (state g old).now db)

-- ---- of an arrival; `with_answer` makes of an answer the arrival that was so answered

-- if it is answered, the history and then this arrival are held, and left by a crash
abbrev pub HoldsOneMoreOnOk : {S E : Type 0}
    → Ghosts S → Held S → Held S → Result Answer E → (Answer → Answered) → Type 0
HoldsOneMoreOnOk g old new result with_answer =
    OnHistory g old new (λ h. IfOk result (λ answer. HoldsThroughCrash g new (followed_by h (with_answer answer))))

-- if it is answered and its pair of team and key came before, nothing changes
abbrev pub SameOnRepeat : {S E : Type 0} → Ghosts S → Held S → Held S → Result Answer E → (Answer → Answered) → Type 0
SameOnRepeat g old new result with_answer = OnHistory g old new
    (λ h. IfOk result (λ answer. IsSome (first_of h (with_answer answer)) → ShowsSame g old new))

-- if it is lost, whatever a crash leaves holds the history, or the history and then this arrival with some answer
abbrev pub LeavesOneMoreAtMost : {S E : Type 0}
    → Ghosts S → Held S → Held S → Result Answer E → (Answer → Answered) → Type 0
LeavesOneMoreAtMost g old new result with_answer = OnHistory g old new (λ h. OnErr result
    (Leaves (λ db. Keeps h db ⊎ ((answer : Answer) × Keeps (followed_by h (with_answer answer)) db)) (state g new)))

-- ---- of a list of arrivals, which had these results

-- if all were lost and the connection is open, an office's tables are as they were, whatever their rows
abbrev pub SameIfAllLost : {S : Type 0} → Ghosts S → Held S → Held S → List (Result Answer Lost) → Type 0
SameIfAllLost g old new results =
    OnTables g old new (IsTrue (state g new).is_open → All IsErr results → ShowsSame g old new)

-- if the pairs of team and key of all that were answered came before, and the connection is open, nothing changes
abbrev pub SameIfAllRepeat : {S : Type 0}
    → Ghosts S → Held S → Held S → List Arrival → List (Result Answer Lost) → Type 0
SameIfAllRepeat g old new arrivals results = OnHistory g old new (λ h. IsTrue (state g new).is_open
    → All (λ a. IsSome (first_of h a)) (answered_of arrivals results) → ShowsSame g old new)

-- the statistics are those from before, on the connection while it is open and in whatever more a crash leaves
abbrev pub StatisticsStayAfter : {S : Type 0} → Ghosts S → Held S → Held S → Type 0
StatisticsStayAfter g old new = OnHistory g old new
    (λ h. (IsTrue (state g new).is_open → HasSameStatistics (state g old).now (state g new).now)
    × Leaves (λ db. (state g old).may_leave db ⊎ StatisticsStay (state g old).now db) (state g new))

-- ---- of each call on an office, whatever it asks

pub record IsOfficeCall {S X : Type 0} (g : Ghosts S) (old new : OfficeView S) (result : Result X Lost) : Type 0 where
  -- after it the office has failed exactly where the call was lost by the store
  pub failed : IsTrue new.failed ↔ (result ≡ Err Store)
  -- an office that had failed before stays as it was
  pub refused : IsTrue old.failed → new ≡ old
  -- no call but an opening is lost by the tables' profile
  pub named : IfErr result IsOfCall
  -- where memory ran out, the connection is open
  pub memory : HasCleanDisk (state g new.conn)
      → IfErr result (λ lost. lost ≡ Memory → IsTrue (state g new.conn).is_open)
  -- what was in doubt of the disk stays in doubt
  pub clean : KeepsDoubt g old.conn new.conn

-- a call that only asks the connection whether it is open
pub record OnlyAsksWhetherOpen {S : Type 0} (g : Ghosts S) (old new : Held S) : Type 0 where
  pub autocommit : IsSettled g new
  -- if it is open after the call, it was open before, and shows what it showed
  pub was_open : OnOpen g new (IsTrue (state g old).is_open)
  pub same : OnOpen g new (ShowsSame g old new)
  -- a crash leaves nothing that it didn't leave before
  pub survives : Survives (state g old) (state g new) (λ _. ⊥)

-- a call that looks, and goes back
pub record OnlyLooks {S : Type 0} (g : Ghosts S) (old new : Held S) : Type 0 where
  pub autocommit : IsSettled g new
  -- if it is open before and after the call, it shows the trees that it showed, whatever tables those are
  pub still : HasCleanDisk (state g new) → IsTrue (state g old).is_open → IsTrue (state g new).is_open
      → (state g new).now.trees ≡ (state g old).now.trees
  -- on the tables of an office, if it is open after the call, it shows what it showed
  pub same : OnTables g old new (IsTrue (state g new).is_open → ShowsSame g old new)
  -- a crash leaves nothing that it didn't leave before
  pub survives : Survives (state g old) (state g new) (λ _. ⊥)
