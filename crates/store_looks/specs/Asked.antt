-- What a team requested first under a key.
use Rattle.std.specs.Prelude.{◌≡◌, ℕ, List, Some}
use Rattle.office_history.specs.History.{Answered, first_of}

-- the team's arrival is the first one under its key
abbrev pub IsFirstOf : List Answered → List ℕ → Answered → Type 0
IsFirstOf h team a = (a.team ≡ team) × (first_of h a ≡ Some a)
