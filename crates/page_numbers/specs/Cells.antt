-- What a number of the map is.
use Rattle.std.specs.Prelude.{◌≡◌, ℕ, ◌∷◌, ◌&&◌, Bool, true, false, is_some, List, [], map, Option, Some}
use Rattle.std.specs.Option.{option_copied}
use Rattle.dbc_sheet.specs.declared.message.Message.{Message}
use Rattle.page_numbers.specs.Index.{message_at}
use Rattle.page_numbers.specs.declared.cells.Cell.{Cell}
use Rattle.page_numbers.specs.declared.cells.Cell.TheVariants.{Live, Held, Free, Nobody}

-- the cell shows that these messages have the number; or none has, and it is held; or it is free, in the block of this
-- team and one of the chart's; or nobody's
abbrev pub IsCell : List Message → Bool → Option (List ℕ) → Bool → Cell → Type 0
IsCell live held team own (Live first others) = map message_at (first.now ∷ others.now) ≡ live
IsCell live held team own (Held found) = (live ≡ []) × ((held ≡ true) × (option_copied found ≡ team))
IsCell live held team own (Free found) = (live ≡ []) × ((held ≡ false) × ((Some found.now ≡ team) × (own ≡ true)))
IsCell live held team own Nobody = (live ≡ []) × ((held ≡ false) × ((is_some team && own) ≡ false))
