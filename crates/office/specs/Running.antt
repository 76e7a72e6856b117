-- Lists of arrivals, answered one after the other.
use Rattle.std.specs.Prelude.{◌≡◌, ℕ, ◌≤◌, List, [], ◌∷◌, ◌++◌, length, take}
use Rattle.office_history.specs.declared.arrival.Answer.{Answer}
use Rattle.office_history.specs.declared.arrival.Arrival.{Arrival}
use Rattle.office_history.specs.Answering.{reported}
use Rattle.office_history.specs.History.{Answered}
use Rattle.office.specs.Keyed.{HoldsHistory, Keyed}

-- the arrivals, each with its answer
abbrev pub reported_each : List Arrival → List Answer → List Answered
reported_each [] answers = []
reported_each (a ∷ arrivals) [] = []
reported_each (a ∷ arrivals) (answer ∷ answers) = reported a answer ∷ reported_each arrivals answers

-- The arrivals were answered: their answers were added to the earlier ones, and every history that the office held goes
-- on with them.
pub record HasAnswered (before : Keyed) (arrivals : List Arrival) (earlier answers : List Answer) (after : Keyed) : Type
    0 where
  pub new : List Answer
  pub added : answers ≡ earlier ++ new
  pub each : length new ≡ length arrivals
  pub held : (h : List Answered) → HoldsHistory h before → HoldsHistory (h ++ reported_each arrivals new) after

-- This many of the arrivals, from the first one on, were answered.
abbrev pub HasBegunToAnswer : Keyed → List Arrival → List Answer → List Answer → Keyed → Type 0
HasBegunToAnswer before arrivals earlier answers after =
    (n : ℕ) × (n ≤ length arrivals) × HasAnswered before (take n arrivals) earlier answers after
