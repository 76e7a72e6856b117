-- Where an office is looked at, by the values of `--db` and `--port`, of which exactly one is given.
use Rattle.std.specs.Prelude.{◌≡◌, ◌⊎◌, ℕ, List, Option, Some, None, is_some}
use Rattle.std.specs.Option.{option_and_then}
use Rattle.canoffice_jobs.specs.Numbers.{port_number}
use Rattle.canoffice_jobs.specs.declared.place.OfficePlace.{OfficePlace}
use Rattle.canoffice_jobs.specs.declared.place.OfficePlace.TheVariants.{Database, Desk}

-- the database of the path that is given, or the desk at the port that is given
abbrev pub IsPlace : OfficePlace → Option (List ℕ) → Option (List ℕ) → Type 0
IsPlace (Database path) database port = (database ≡ Some path.now) × (port ≡ None)
IsPlace (Desk number) database port = (database ≡ None) × (option_and_then port_number port ≡ Some number)

-- neither is given, or both are; or the word for the port, which alone is given, gives none
abbrev pub IsNoPlace : Option (List ℕ) → Option (List ℕ) → Type 0
IsNoPlace database port =
    (is_some database ≡ is_some port) ⊎ ((database ≡ None) × (option_and_then port_number port ≡ None))
