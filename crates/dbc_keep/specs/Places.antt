-- The places of skipped statements, as `dbc_keep_law` numbers them.
use Rattle.std.specs.Prelude.{ℕ}
use Rattle.dbc_keep.specs.declared.places.KeptPlace.{KeptPlace}
use Rattle.dbc_keep.specs.declared.places.KeptPlace.TheVariants as place

abbrev pub place_number : KeptPlace → ℕ
place_number place.Messages = 0
place_number place.Transmitters = 1
place_number place.EnvironmentVariables = 2
place_number place.EnvironmentData = 3
place_number place.SignalTypes = 4
place_number place.Comments = 5
place_number place.Definitions = 6
place_number place.Defaults = 7
place_number place.Values = 8
place_number place.ValueTexts = 9
place_number place.CategoryDefinitions = 10
place_number place.Categories = 11
place_number place.Filters = 12
place_number place.SignalTypeReferences = 13
place_number place.Groups = 14
place_number place.ValueTypes = 15
place_number place.Others = 16
