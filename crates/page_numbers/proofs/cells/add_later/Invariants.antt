use Rattle.page_numbers.proofs.Common.{◌≡◌, ◌++◌, ℕ, List, map, take, words}
use Rattle.page_numbers.specs.CellHtml.{IsLater}
use Rattle.page_numbers.specs.Elements.{ArePieces}
use Rattle.page_numbers.specs.Index.{message_at}
use Rattle.page_numbers.proofs.cells.add_later.Given as goal

abbrev pub invariant-loop-place : goal.invariant-loop-place
invariant-loop-place l =
    (later : List ℕ) × (ArePieces IsLater (map message_at (take l.place-index l.places)) later
    × (words l.title.items ≡ words l.initial.title.items ++ later))
