-- Lists of arrivals, answered one after the other.
use Rattle.std.specs.Prelude.{◌≡◌, ◌≢◌, ◌⊎◌, List, [], ◌∷◌, ◌++◌, Contains, Bool, true, false, IsTrue, Ok, Err, Result}
use Rattle.sqlite.specs.Tree.{Trees}
use Rattle.office_history.specs.declared.arrival.Answer.{Answer}
use Rattle.office_history.specs.declared.arrival.Arrival.{Arrival}
use Rattle.office_history.specs.History.{Answered}
use Rattle.store.specs.declared.lost.Lost.{Lost}
use Rattle.store.specs.declared.lost.Lost.TheVariants.{NewerProfile, OlderProfile, Store}
use Rattle.office_history.specs.Answering.{reported}
use Rattle.store.specs.Holding.{Keeps}

-- the arrivals that were answered, in order, with their answers
abbrev pub answered_of : List Arrival → List (Result Answer Lost) → List Answered
answered_of [] results = []
answered_of (a ∷ arrivals) [] = []
answered_of (a ∷ arrivals) (Ok answer ∷ results) = reported a answer ∷ answered_of arrivals results
answered_of (a ∷ arrivals) (Err lost ∷ results) = answered_of arrivals results

-- the arrivals that were lost
abbrev pub lost_of : List Arrival → List (Result Answer Lost) → List Arrival
lost_of [] results = []
lost_of (a ∷ arrivals) [] = []
lost_of (a ∷ arrivals) (Ok answer ∷ results) = lost_of arrivals results
lost_of (a ∷ arrivals) (Err lost ∷ results) = a ∷ lost_of arrivals results

-- whether the result is that the store failed
abbrev pub is_failure : Result Answer Lost → Bool
is_failure (Err Store) = true
is_failure r = false

-- the result isn't that the tables are of another profile
abbrev pub IsNoProfile : Result Answer Lost → Type 0
IsNoProfile r = (r ≢ Err NewerProfile) × (r ≢ Err OlderProfile)

-- Whether the office has failed goes from each result to the next: so before the first of them, and so after the last.
-- Once it has failed, each later result is that failure.
abbrev pub FailsBy : Bool → List (Result Answer Lost) → Bool → Type 0
FailsBy before [] after = after ≡ before
FailsBy before (r ∷ results) after = (IsTrue before → r ≡ Err Store) × FailsBy (is_failure r) results after

-- the trees keep the history, or it and one of the lost arrivals, with an answer
abbrev pub KeepsWithOne : List Answered → List Arrival → Trees → Type 0
KeepsWithOne h lost db =
    Keeps h db ⊎ ((a : Arrival) × Contains lost a × (answer : Answer) × Keeps (h ++ reported a answer ∷ []) db)
