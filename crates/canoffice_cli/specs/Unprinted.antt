-- What is left where memory runs out before an outcome is printed.
use Rattle.std.specs.Prelude.{◌⊎◌, List}
use Rattle.desk_send.specs.Desks.{Desks, TakesNone}
use Rattle.office_history.specs.declared.arrival.Answer.{Answer}
use Rattle.canoffice_cli.specs.Databases.{AreKept, Databases}
use Rattle.canoffice_cli.specs.Outcome.{Outcome}

-- no desk was sent anything; or what was to be done for an outcome was done, and only the printing is left
abbrev pub IsUnprinted : Desks → Desks → (Outcome → Type 0) → Type 0
IsUnprinted earlier later IsDone = TakesNone earlier later ⊎ ((o : Outcome) × IsDone o)

-- nothing was done in any database; or what was to be done for an outcome with these answers was done
abbrev pub IsUnprintedIn : Databases → Databases → (Outcome → List Answer → Type 0) → Type 0
IsUnprintedIn before after IsDone = AreKept before after ⊎ ((o : Outcome) × (answers : List Answer) × IsDone o answers)
