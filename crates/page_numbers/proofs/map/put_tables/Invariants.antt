use Rattle.page_numbers.proofs.Common.{◌≡◌, ◌++◌, ℕ, List, length, flat_map}
use Rattle.page_numbers.specs.Elements.{ArePieces, IsMoreBy}
use Rattle.page_numbers.specs.Map.{IsTable, facts_in}
use Rattle.page_numbers.proofs.map.put_tables.Given as goal

abbrev pub invariant-loop-first : goal.invariant-loop-first
invariant-loop-first l =
    (tables : List (List ℕ)) × ((flat_map (λ table. table) tables ++ l.rest ≡ l.rows)
    × IsMoreBy (ArePieces (IsTable l.facts.chart (facts_in l.facts)) tables) l.page l.initial.page)

abbrev pub decreases-loop-first : goal.decreases-loop-first
decreases-loop-first l = length l.rest
