-- Why the values of `--db` and `--port` name no place.
use Rattle.std.specs.Prelude.{◌≡◌, ℕ, true, List, Option, None, Some, is_some}
use Rattle.canoffice_jobs.specs.Numbers.{port_number}
use Rattle.canoffice_jobs.specs.declared.place.PlaceFault.{PlaceFault}
use Rattle.canoffice_jobs.specs.declared.place.PlaceFault.TheVariants.{Both, Neither, NoRelease, WrongPort}

-- neither is given; or both are; or this word for the port, which alone is given, gives none. That there is no second
-- release is no fault of these values.
abbrev pub IsPlaceFault : Option (List ℕ) → Option (List ℕ) → PlaceFault → Type 0
IsPlaceFault database port Neither = (database ≡ None) × (port ≡ None)
IsPlaceFault database port Both = (is_some database ≡ true) × (is_some port ≡ true)
IsPlaceFault database port (WrongPort word) =
    (database ≡ None) × (port ≡ Some word.now) × (port_number word.now ≡ None)
IsPlaceFault database port NoRelease = ⊥
