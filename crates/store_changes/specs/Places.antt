-- The places of signals, as the rows of the query on signals show them: the place is the first column.
use Rattle.std.specs.Prelude.{ℕ, List, map, pos}
use Rattle.sqlite.specs.declared.types.Value.{Value}
use Rattle.sqlite.specs.declared.types.Value.TheVariants.{Int}
use Rattle.sqlite.specs.Order.{Row, column}

-- the number in a column
abbrev pub number_in : Value → ℕ
number_in (Int (pos n)) = n
number_in v = 0

-- the places of the signals that the rows show
abbrev pub places_shown : List Row → List ℕ
places_shown rows = map (λ row. number_in (column row 0)) rows
