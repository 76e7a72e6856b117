-- The main theorem of the store, of every list of arrivals.
use Rattle.std.specs.Prelude.{◌≡◌, List, ◌++◌, All, length, Bool, false, IsTrue, Result}
use Rattle.sqlite.specs.State.{State}
use Rattle.office_history.specs.declared.arrival.Answer.{Answer}
use Rattle.office_history.specs.declared.arrival.Arrival.{Arrival}
use Rattle.office_history.specs.History.{Answered, IsLegalHistory}
use Rattle.office_history.specs.Laws.{IsInRange}
use Rattle.store.specs.declared.lost.Lost.{Lost}
use Rattle.store.specs.Holding.{Holding, Leaves}
use Rattle.store.specs.Running.{KeepsWithOne, answered_of, lost_of}

-- The arrivals came, in order, where the tables held the history h. Each has its result: an answer, or why it was
-- lost. The history with the arrivals that were answered, in order and with their answers, is legal, so each answer
-- is the office's reply to the first arrival of its key, or KeyReused; and its teams and commands are in range. The
-- tables hold it while the connection is open, and unless the office has failed it is open. What a crash leaves holds
-- that history too, or it and one of the lost arrivals.
pub record HasRunOnTables (h : List Answered) (arrivals : List Arrival) (results : List (Result Answer Lost))
    (failed : Bool)
    (s : State) : Type 0 where
  pub each : length results ≡ length arrivals
  pub legal : IsLegalHistory (h ++ answered_of arrivals results)
  pub in_range : All IsInRange (h ++ answered_of arrivals results)
  pub is_open : failed ≡ false → IsTrue s.is_open
  pub held : IsTrue s.is_open → Holding (h ++ answered_of arrivals results) s
  pub left : Leaves (KeepsWithOne (h ++ answered_of arrivals results) (lost_of arrivals results)) s
